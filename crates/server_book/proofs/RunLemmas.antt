-- What calls leave of a server.
use Rattle.std.proofs.Common.{◌≡◌, ℕ, zero, suc, ◌≤◌, ◌==◌, ◌&&◌, ◌||◌, not, List, [], ◌∷◌, ◌++◌, Bool, true, false, bytes_eq, cond, length, ltb, get_or, Option, Some, None, refl, sym, ap, subst, ◌∙◌, append-nil, append_assoc, inl, inr, ◌⊎◌}
use Rattle.std.specs.Cmp.Lexicographic.{bytes_decides}
use Rattle.std.specs.Option.{option_map}
use Rattle.std.proofs.lemmas.Bool.{cases_eq, cases_lt, eqb-false}
use Rattle.std.proofs.lemmas.List.{get_or_past, get_or-set_same, set_past}
use Rattle.server_book.specs.declared.address.Address.{Address}
use Rattle.server_book.specs.declared.book.TheConstants.{MOST_WAITING}
use Rattle.server_book.specs.declared.heard.Heard.{Heard}
use Rattle.server_book.specs.declared.heard.Heard.TheVariants as Told
use Rattle.server_book.specs.declared.server.KnownServer.{KnownServer}
use Rattle.server_book.specs.declared.server.Standing.{Standing}
use Rattle.server_book.specs.declared.server.Standing.TheVariants.{Connecting, Stands, HeldOff}
use Rattle.server_book.specs.Books.{Book, after_heard, answer_by, answer_in, answer_new, answer_to, has_waiting, may_wait, passes, seats_by, seats_fixed, seats_fixed_by, seats_waiting, seats_with}
use Rattle.server_book.specs.Names.{is_among}
use Rattle.server_book.specs.Runs.{Call, Fix, Hear, Connected, Failed, Lost, Retry, Look, Free, IsLonger, NoneEnds, after, ends, run, names_for}
use Rattle.server_book.specs.Seats.{Seat, all_waiting, changed, handed_out_in, least_free, number_of, put, seat, staying}
use Rattle.server_book.specs.Servers.{can_retry, connected, counted, failed, fixed, is_connecting, is_held_off, is_held_until, lost, may_leave, newcomer, retried, stands, with_name}
use Rattle.server_book.proofs.Agreeing.{IsFree, free-there, seat-put, seat-put_other}

-- ---- the seat that a call changes

nothing_there : (place : ℕ) (change : KnownServer → KnownServer) (seats : List Seat) (old : Seat) → old ≡ None → length seats ≤ place → get_or seats place None ≡ old
    → seat (suc place) (put (suc place) (option_map change old) seats) ≡ option_map change old
nothing_there place change seats old none past is =
    rw none (ap (λ (xs : List Seat). get_or xs place None) (set_past seats place None past) ∙ get_or_past seats place None past)

pub seat-changed : (number : ℕ) (change : KnownServer → KnownServer) (seats : List Seat) → seat number (changed number change seats) ≡ option_map change (seat number seats)
seat-changed zero change seats = refl
seat-changed (suc place) change seats =
    elim (cases_lt place (length seats)) as (λ _. seat (suc place) (changed (suc place) change seats) ≡ option_map change (seat (suc place) seats)) [
      | inl less ↦ get_or-set_same seats place (option_map change (get_or seats place None)) None less
      | inr past ↦ nothing_there place change seats (get_or seats place None) (get_or_past seats place None past) past refl
    ]

-- ---- what holds between the seat before a call and the seat after it

module _ (P : Seat → Seat → Type 0) (same : (old : Seat) → P old old) (fresh : (new : Seat) → P None new) where
  by_change : (change : KnownServer → KnownServer) (old : Seat) → ((server : KnownServer) → P (Some server) (Some (change server))) → P old (option_map change old)
  by_change change None keeps = same None
  by_change change (Some server) keeps = keeps server

  pub step-changed : (number other : ℕ) (change : KnownServer → KnownServer) (seats : List Seat) → ((server : KnownServer) → P (Some server) (Some (change server)))
      → P (seat number seats) (seat number (changed other change seats))
  step-changed number other change seats keeps =
      elim (cases_eq number other) as (λ _. P (seat number seats) (seat number (changed other change seats))) [
        | inl e ↦ subst (λ (k : ℕ). P (seat number seats) (seat number (changed k change seats))) e
            (subst (λ (new : Seat). P (seat number seats) new) (sym (seat-changed number change seats)) (by_change change (seat number seats) keeps))
        | inr apart ↦ subst (λ (new : Seat). P (seat number seats) new) (sym (seat-put_other number other (option_map change (seat other seats)) seats apart)) (same (seat number seats))
      ]

  pub step-other : (number other : ℕ) (new : Seat) (seats : List Seat) → (number ≡ other → ⊥) → P (seat number seats) (seat number (put other new seats))
  step-other number other new seats apart =
      subst (λ (s : Seat). P (seat number seats) s) (sym (seat-put_other number other new seats apart)) (same (seat number seats))

  pub step-new : (number other : ℕ) (new : Seat) (seats : List Seat) → least_free seats ≡ Some other → P (seat number seats) (seat number (put other new seats))
  step-new number other new seats e =
      elim (cases_eq number other) as (λ _. P (seat number seats) (seat number (put other new seats))) [
        | inl is ↦
            let free = free-there seats other e in
            let none : seat number seats ≡ None = subst (λ (k : ℕ). seat k seats ≡ None) (sym is) free.none in
            subst (λ (old : Seat). P old (seat number (put other new seats))) (sym none) (fresh (seat number (put other new seats)))
        | inr apart ↦ step-other number other new seats apart
      ]

  fix_new : (number : ℕ) (address : Address) (seats : List Seat) (free : Option ℕ) → least_free seats ≡ free → P (seat number seats) (seat number (seats_fixed free address seats))
  fix_new number address seats None e = same (seat number seats)
  fix_new number address seats (Some other) e = step-new number other (Some (newcomer address true)) seats e

  pub step-fix : (number : ℕ) (address : Address) (seats : List Seat) (found : Option ℕ) → ((server : KnownServer) → P (Some server) (Some (fixed server)))
      → P (seat number seats) (seat number (seats_fixed_by found address seats))
  step-fix number address seats None keeps = fix_new number address seats (least_free seats) refl
  step-fix number address seats (Some other) keeps = step-changed number other fixed seats keeps

  by_room : (number other : ℕ) (room : Bool) (new : Seat) (seats : List Seat) → least_free seats ≡ Some other
      → P (seat number seats) (seat number (cond room (put other new seats) seats))
  by_room number other true new seats e = step-new number other new seats e
  by_room number other false new seats e = same (seat number seats)

  hear_new : (number : ℕ) (address : Address) (name : List ℕ) (seats : List Seat) (free : Option ℕ) → least_free seats ≡ free
      → P (seat number seats) (seat number (seats_with free address name seats))
  hear_new number address name seats None e = same (seat number seats)
  hear_new number address name seats (Some other) e = by_room number other (ltb (all_waiting seats) MOST_WAITING) (Some (with_name name (newcomer address false))) seats e

  by_answer : (number other : ℕ) (waits : Bool) (name : List ℕ) (seats : List Seat) → ((server : KnownServer) → P (Some server) (Some (with_name name server)))
      → P (seat number seats) (seat number (cond waits (changed other (with_name name) seats) seats))
  by_answer number other true name seats keeps = step-changed number other (with_name name) seats keeps
  by_answer number other false name seats keeps = same (seat number seats)

  pub step-hear : (number : ℕ) (address : Address) (name : List ℕ) (look : ℕ) (seats : List Seat) (found : Option ℕ)
      → ((server : KnownServer) → P (Some server) (Some (with_name name server)))
      → P (seat number seats) (seat number (seats_by found address name look seats))
  step-hear number address name look seats None keeps = hear_new number address name seats (least_free seats) refl
  step-hear number address name look seats (Some other) keeps =
      by_answer number other (has_waiting (answer_in other name look seats (seat other seats))) name seats keeps

  by_staying : (old : Seat) → ((server : KnownServer) → P (Some server) (staying (Some server))) → P old (staying old)
  by_staying None keeps = same None
  by_staying (Some server) keeps = keeps server

  stays_here : (place : ℕ) (seats : List Seat) → ((server : KnownServer) → P (Some server) (staying (Some server)))
      → P (seat (suc place) seats) (seat (suc place) (put (suc place) (staying (seat (suc place) seats)) seats))
  stays_here place seats keeps =
      elim (cases_lt place (length seats)) as (λ _. P (seat (suc place) seats) (seat (suc place) (put (suc place) (staying (seat (suc place) seats)) seats))) [
        | inl less ↦ subst (λ (new : Seat). P (seat (suc place) seats) new) (sym (get_or-set_same seats place (staying (get_or seats place None)) None less)) (by_staying (seat (suc place) seats) keeps)
        | inr past ↦ subst (λ (xs : List Seat). P (seat (suc place) seats) (seat (suc place) xs)) (sym (set_past seats place (staying (get_or seats place None)) past)) (same (seat (suc place) seats))
      ]

  pub step-free : (number other : ℕ) (seats : List Seat) → ((server : KnownServer) → P (Some server) (staying (Some server)))
      → P (seat number seats) (seat number (put other (staying (seat other seats)) seats))
  step-free zero other seats keeps = same None
  step-free (suc place) other seats keeps =
      elim (cases_eq (suc place) other) as (λ _. P (seat (suc place) seats) (seat (suc place) (put other (staying (seat other seats)) seats))) [
        | inl e ↦ subst (λ (k : ℕ). P (seat (suc place) seats) (seat (suc place) (put k (staying (seat k seats)) seats))) e (stays_here place seats keeps)
        | inr apart ↦ step-other (suc place) other (staying (seat other seats)) seats apart
      ]

-- ---- a server that is connecting

not_standing : (standing : Standing) → is_connecting standing ≡ true → stands standing ≡ false
not_standing Connecting e = refl
not_standing Stands e = absurd (let no : false ≡ true = e in cc)
not_standing (HeldOff until) e = refl

not_held_until : (look : ℕ) (standing : Standing) → is_connecting standing ≡ true → is_held_until look standing ≡ false
not_held_until look Connecting e = refl
not_held_until look Stands e = refl
not_held_until look (HeldOff until) e = absurd (let no : false ≡ true = e in cc)

not_off : (standing : Standing) → is_connecting standing ≡ true → is_held_off standing ≡ false
not_off Connecting e = refl
not_off Stands e = refl
not_off (HeldOff until) e = absurd (let no : false ≡ true = e in cc)

-- it is connecting still, and more names may wait
abbrev pub Waits : Seat → Seat → Type 0
Waits old new = passes (λ server. is_connecting server.standing) old ≡ true → (passes (λ server. is_connecting server.standing) new ≡ true) × IsLonger (handed_out_in old) (handed_out_in new)

no_longer : (names : List (List ℕ)) → IsLonger names names
no_longer names = ([], sym (append-nil names))

waits_same : (old : Seat) → Waits old old
waits_same old e = (e, no_longer (handed_out_in old))

waits_fresh : (new : Seat) → Waits None new
waits_fresh new e = absurd (let no : false ≡ true = e in cc)

waits_fixed : (server : KnownServer) → Waits (Some server) (Some (fixed server))
waits_fixed server e = (e, no_longer (handed_out_in (Some server)))

by_name : (b : Bool) (names : List (List ℕ)) (name : List ℕ) → IsLonger names (cond b names (names ++ name ∷ []))
by_name true names name = no_longer names
by_name false names name = (name ∷ [], refl)

waits_name : (name : List ℕ) (server : KnownServer) → Waits (Some server) (Some (with_name name server))
waits_name name server e = (refl, rw e (by_name (is_among server.waiting name) server.waiting name))

waits_lost : (look : ℕ) (server : KnownServer) → Waits (Some server) (Some (lost look server))
waits_lost look server e = let no = not_standing server.standing e in rw no (e, no_longer (handed_out_in (Some server)))

waits_retried : (look : ℕ) (server : KnownServer) → Waits (Some server) (Some (retried look server))
waits_retried look server e = let no = not_held_until look server.standing e in rw no (e, no_longer (handed_out_in (Some server)))

waits_counted : (links limit : ℕ) (server : KnownServer) → Waits (Some server) (Some (counted links limit server))
waits_counted links limit server e = let no = not_standing server.standing e in rw no (e, no_longer (handed_out_in (Some server)))

waits_staying : (server : KnownServer) → Waits (Some server) (staying (Some server))
waits_staying server e = let no = not_off server.standing e in rw no (e, no_longer (handed_out_in (Some server)))

apart_by : (number other : ℕ) → (other == number) ≡ false → number ≡ other → ⊥
apart_by number other e same = eqb-false other number e (sym same)

pub step-waits : (number : ℕ) (call : Call) (book : Book) → ends number call ≡ false → Waits (seat number book.seats) (seat number (after call book).seats)
step-waits number (Fix address) book e = step-fix Waits waits_same waits_fresh number address book.seats (number_of address book.seats) waits_fixed
step-waits number (Hear address name look) book e = step-hear Waits waits_same waits_fresh number address name look book.seats (number_of address book.seats) (waits_name name)
step-waits number (Connected other) book e = step-other Waits waits_same waits_fresh number other (option_map connected (seat other book.seats)) book.seats (apart_by number other e)
step-waits number (Failed other look) book e = step-other Waits waits_same waits_fresh number other (option_map (failed look) (seat other book.seats)) book.seats (apart_by number other e)
step-waits number (Lost other look) book e = step-changed Waits waits_same waits_fresh number other (lost look) book.seats (waits_lost look)
step-waits number (Retry other look) book e = step-changed Waits waits_same waits_fresh number other (retried look) book.seats (waits_retried look)
step-waits number (Look other links) book e = step-changed Waits waits_same waits_fresh number other (counted links book.limit) book.seats (waits_counted links book.limit)
step-waits number (Free other) book e = step-free Waits waits_same waits_fresh number other book.seats waits_staying

longer_still : (a b c : List (List ℕ)) → IsLonger a b → IsLonger b c → IsLonger a c
longer_still a b c one two = (one.0 ++ two.0, two.1 ∙ ap (λ (xs : List (List ℕ)). xs ++ two.0) one.1 ∙ append_assoc a one.0 two.0)

pub run-waits : (number : ℕ) (calls : List Call) (book : Book) → NoneEnds number calls → Waits (seat number book.seats) (seat number (run calls book).seats)
run-waits number [] book none e = waits_same (seat number book.seats) e
run-waits number (call ∷ calls) book none e =
    let one = step-waits number call book none.0 e in
    let more = run-waits number calls (after call book) none.1 one.0 in
    (more.0, longer_still (names_for number book) (names_for number (after call book)) (names_for number (run calls (after call book))) one.1 more.1)

-- ---- addresses

kept_by : (b : Bool) (x server : KnownServer) → x.address ≡ server.address → (cond b x server).address ≡ server.address
kept_by true x server e = e
kept_by false x server e = refl

fixed_by : (b : Bool) (x server : KnownServer) → x.is_fixed ≡ server.is_fixed → (cond b x server).is_fixed ≡ server.is_fixed
fixed_by true x server e = e
fixed_by false x server e = refl

-- while it may not leave its seat it stays
abbrev pub Stays : Seat → Seat → Type 0
Stays old new = passes (λ server. not (may_leave server)) old ≡ true
    → option_map (λ (server : KnownServer). server.address) new ≡ option_map (λ (server : KnownServer). server.address) old

stays_same : (old : Seat) → Stays old old
stays_same old e = refl

stays_fresh : (new : Seat) → Stays None new
stays_fresh new e = absurd (let no : false ≡ true = e in cc)

stays_by : (b : Bool) (x server : KnownServer) → x.address ≡ server.address → Stays (Some server) (Some (cond b x server))
stays_by b x server same e = ap Some (kept_by b x server same)

off_by : (b : Bool) (server : KnownServer) → not b ≡ true → let none : Seat = None in cond b none (Some server) ≡ Some server
off_by true server e = absurd (let no : false ≡ true = e in cc)
off_by false server e = refl

stays_staying : (server : KnownServer) → Stays (Some server) (staying (Some server))
stays_staying server e = ap (option_map (λ (s : KnownServer). s.address)) (off_by (may_leave server) server e)

pub step-stays : (number : ℕ) (call : Call) (book : Book) → Stays (seat number book.seats) (seat number (after call book).seats)
step-stays number (Fix address) book = step-fix Stays stays_same stays_fresh number address book.seats (number_of address book.seats) (λ server e. refl)
step-stays number (Hear address name look) book = step-hear Stays stays_same stays_fresh number address name look book.seats (number_of address book.seats) (λ server e. refl)
step-stays number (Connected other) book = step-changed Stays stays_same stays_fresh number other connected book.seats (λ server. stays_by (is_connecting server.standing) _ server refl)
step-stays number (Failed other look) book = step-changed Stays stays_same stays_fresh number other (failed look) book.seats (λ server. stays_by (is_connecting server.standing) _ server refl)
step-stays number (Lost other look) book = step-changed Stays stays_same stays_fresh number other (lost look) book.seats (λ server. stays_by (stands server.standing) _ server refl)
step-stays number (Retry other look) book = step-changed Stays stays_same stays_fresh number other (retried look) book.seats (λ server. stays_by (can_retry look server) _ server refl)
step-stays number (Look other links) book = step-changed Stays stays_same stays_fresh number other (counted links book.limit) book.seats (λ server. stays_by (stands server.standing) _ server refl)
step-stays number (Free other) book = step-free Stays stays_same stays_fresh number other book.seats stays_staying

-- ---- servers that are known for good

abbrev pub Fixed : Seat → Seat → Type 0
Fixed old new = passes (λ server. server.is_fixed) old ≡ true
    → (passes (λ server. server.is_fixed) new ≡ true) × (option_map (λ (server : KnownServer). server.address) new ≡ option_map (λ (server : KnownServer). server.address) old)

fixed_same : (old : Seat) → Fixed old old
fixed_same old e = (e, refl)

fixed_fresh : (new : Seat) → Fixed None new
fixed_fresh new e = absurd (let no : false ≡ true = e in cc)

fixed_change : (b : Bool) (x server : KnownServer) → x.address ≡ server.address → x.is_fixed ≡ server.is_fixed → Fixed (Some server) (Some (cond b x server))
fixed_change b x server same is e = (fixed_by b x server is ∙ e, ap Some (kept_by b x server same))

never_off : (off is : Bool) → is ≡ true → (off && not is) ≡ false
never_off true true e = refl
never_off false true e = refl
never_off true false e = absurd (let no : false ≡ true = e in cc)
never_off false false e = refl

fixed_staying : (server : KnownServer) → Fixed (Some server) (staying (Some server))
fixed_staying server e = let no = never_off (is_held_off server.standing) server.is_fixed e in rw no (e, refl)

pub step-fixed : (number : ℕ) (call : Call) (book : Book) → Fixed (seat number book.seats) (seat number (after call book).seats)
step-fixed number (Fix address) book = step-fix Fixed fixed_same fixed_fresh number address book.seats (number_of address book.seats) (λ server e. (refl, refl))
step-fixed number (Hear address name look) book = step-hear Fixed fixed_same fixed_fresh number address name look book.seats (number_of address book.seats) (λ server e. (e, refl))
step-fixed number (Connected other) book = step-changed Fixed fixed_same fixed_fresh number other connected book.seats (λ server. fixed_change (is_connecting server.standing) _ server refl refl)
step-fixed number (Failed other look) book = step-changed Fixed fixed_same fixed_fresh number other (failed look) book.seats (λ server. fixed_change (is_connecting server.standing) _ server refl refl)
step-fixed number (Lost other look) book = step-changed Fixed fixed_same fixed_fresh number other (lost look) book.seats (λ server. fixed_change (stands server.standing) _ server refl refl)
step-fixed number (Retry other look) book = step-changed Fixed fixed_same fixed_fresh number other (retried look) book.seats (λ server. fixed_change (can_retry look server) _ server refl refl)
step-fixed number (Look other links) book = step-changed Fixed fixed_same fixed_fresh number other (counted links book.limit) book.seats (λ server. fixed_change (stands server.standing) _ server refl refl)
step-fixed number (Free other) book = step-free Fixed fixed_same fixed_fresh number other book.seats fixed_staying

pub run-fixed : (number : ℕ) (calls : List Call) (book : Book) → Fixed (seat number book.seats) (seat number (run calls book).seats)
run-fixed number [] book e = (e, refl)
run-fixed number (call ∷ calls) book e =
    let one = step-fixed number call book e in
    let more = run-fixed number calls (after call book) one.0 in
    (more.0, more.1 ∙ one.1)

-- ---- a name that waits

waits_for : Heard → Option ℕ
waits_for (Told.Find number) = None
waits_for (Told.Connect number) = Some number
waits_for (Told.Waits number) = Some number
waits_for Told.HeldOff = None
waits_for Told.Dropped = None
waits_for Told.Full = None

pub record IsTold (answer : Heard) (own number : ℕ) : Type 0 where
  pub same : own ≡ number
  pub waits : has_waiting answer ≡ true

no_number : (number : ℕ) → let none : Option ℕ = None in none ≡ Some number → ⊥
no_number number e = cc

told_of : (p q r s : Bool) (own number : ℕ) → let answer : Heard = cond p (Told.Find own) (cond q Told.HeldOff (cond r Told.Dropped (cond s (Told.Waits own) (Told.Connect own)))) in
    waits_for answer ≡ Some number → IsTold answer own number
unfolding waits_for
told_of true q r s own number e = absurd (no_number number e)
told_of false true r s own number e = absurd (no_number number e)
told_of false false true s own number e = absurd (no_number number e)
told_of false false false true own number e = record { same = cc; waits = refl }
told_of false false false false own number e = record { same = cc; waits = refl }

or_right : (p q : Bool) → q ≡ true → (p || q) ≡ true
or_right true q e = refl
or_right false q e = e

among-last : (names : List (List ℕ)) (name : List ℕ) → is_among (names ++ name ∷ []) name ≡ true
among-last [] name = rw ((bytes_decides name name).1 refl) refl
among-last (first ∷ names) name = or_right (bytes_eq first name) (is_among (names ++ name ∷ []) name) (among-last names name)

or_grows : (p q r : Bool) → (q ≡ true → r ≡ true) → (p || q) ≡ true → (p || r) ≡ true
or_grows true q r grows e = refl
or_grows false q r grows e = grows e

among-more : (names more : List (List ℕ)) (name : List ℕ) → is_among names name ≡ true → is_among (names ++ more) name ≡ true
among-more [] more name e = absurd (let no : false ≡ true = e in cc)
among-more (first ∷ names) more name e = or_grows (bytes_eq first name) (is_among names name) (is_among (names ++ more) name) (among-more names more name) e

once_by : (b : Bool) (names : List (List ℕ)) (name : List ℕ) → is_among names name ≡ b → is_among (cond b names (names ++ name ∷ [])) name ≡ true
once_by true names name e = e
once_by false names name e = among-last names name

-- the seat's server is connecting, and the name waits for it
pub record HasName (name : List ℕ) (old : Seat) : Type 0 where
  pub connecting : passes (λ server. is_connecting server.standing) old ≡ true
  pub among : is_among (handed_out_in old) name ≡ true

named : (name : List ℕ) (server : KnownServer) → HasName name (Some (with_name name server))
named name server = record { connecting = refl; among = once_by (is_among server.waiting name) server.waiting name refl }

hears_known : (own number : ℕ) (name : List ℕ) (look : ℕ) (seats : List Seat) (old : Seat) → seat own seats ≡ old
    → waits_for (answer_in own name look seats old) ≡ Some number → HasName name (seat number (seats_waiting (answer_in own name look seats old) own name seats))
unfolding waits_for
hears_known own number name look seats None is e = absurd (no_number number e)
hears_known own number name look seats (Some server) is e =
    let told = told_of (stands server.standing) (not (is_connecting server.standing || can_retry look server)) (not (may_wait name seats server)) (is_connecting server.standing) own number e in
    let now : seat own (changed own (with_name name) seats) ≡ Some (with_name name server) = seat-changed own (with_name name) seats ∙ ap (option_map (with_name name)) is in
    let after : seats_waiting (answer_in own name look seats (Some server)) own name seats ≡ changed own (with_name name) seats = ap (λ (b : Bool). cond b (changed own (with_name name) seats) seats) told.waits in
    subst (λ (xs : List Seat). HasName name (seat number xs)) (sym after)
    (subst (λ (k : ℕ). HasName name (seat k (changed own (with_name name) seats))) told.same (subst (HasName name) (sym now) (named name server)))

hears_room : (own number : ℕ) (address : Address) (name : List ℕ) (seats : List Seat) (room : Bool) → IsFree own seats
    → waits_for (cond room (Told.Connect own) Told.Dropped) ≡ Some number
    → HasName name (seat number (cond room (put own (Some (with_name name (newcomer address false))) seats) seats))
unfolding waits_for
hears_room own number address name seats true free e =
    let same : own ≡ number = cc in
    let new : Seat = Some (with_name name (newcomer address false)) in
    subst (λ (k : ℕ). HasName name (seat k (put own new seats))) same (subst (HasName name) (sym (seat-put own new seats free.some free.within)) (named name (newcomer address false)))
hears_room own number address name seats false free e = absurd (no_number number e)

hears_new : (number : ℕ) (address : Address) (name : List ℕ) (seats : List Seat) (free : Option ℕ) → least_free seats ≡ free
    → waits_for (answer_new free seats) ≡ Some number → HasName name (seat number (seats_with free address name seats))
unfolding waits_for
hears_new number address name seats None is e = absurd (no_number number e)
hears_new number address name seats (Some own) is e = hears_room own number address name seats (ltb (all_waiting seats) MOST_WAITING) (free-there seats own is) e

hears : (number : ℕ) (address : Address) (name : List ℕ) (look : ℕ) (seats : List Seat) (found : Option ℕ)
    → waits_for (answer_by found name look seats) ≡ Some number → HasName name (seat number (seats_by found address name look seats))
hears number address name look seats (Some own) e = hears_known own number name look seats (seat own seats) refl e
hears number address name look seats None e = hears_new number address name seats (least_free seats) refl e

waits_either : (answer : Heard) (number : ℕ) → (answer ≡ Told.Waits number) ⊎ (answer ≡ Told.Connect number) → waits_for answer ≡ Some number
unfolding waits_for
waits_either answer number either = elim either as (λ _. waits_for answer ≡ Some number) [ inl e ↦ ap waits_for e | inr e ↦ ap waits_for e ]

pub waits-handed_out : (address : Address) (name : List ℕ) (look number : ℕ) (calls : List Call) (book : Book)
    → (answer_to address name look book ≡ Told.Waits number) ⊎ (answer_to address name look book ≡ Told.Connect number) → NoneEnds number calls
    → is_among (names_for number (run calls (after_heard address name look book))) name ≡ true
waits-handed_out address name look number calls book either none =
    let has = hears number address name look book.seats (number_of address book.seats) (waits_either (answer_to address name look book) number either) in
    let more = run-waits number calls (after_heard address name look book) none has.connecting in
    subst (λ (names : List (List ℕ)). is_among names name ≡ true) (sym more.1.1) (among-more (names_for number (after_heard address name look book)) more.1.0 name has.among)
