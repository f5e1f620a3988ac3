-- Numbers under addresses that agree with seats, after what happens to a server.
use Rattle.std.proofs.Common.{◌≡◌, ℕ, zero, suc, ◌+◌, ◌-◌, ◌<◌, ◌≤◌, ◌||◌, ◌&&◌, not, Bool, true, false, cond, ltb, List, length, Option, Some, None, refl, sym, ap, subst, ◌∙◌, arith, inl, inr}
use Rattle.std.specs.Option.{option_map}
use Rattle.std.proofs.lemmas.Bool.{cases_lt, ltb-true}
use Rattle.std.proofs.lemmas.List.{get_or_past}
use Rattle.server_book.specs.declared.address.Address.{Address}
use Rattle.server_book.specs.declared.book.TheConstants.{MOST_WAITING, MOST_WAITING_FOR_SERVER}
use Rattle.server_book.specs.declared.heard.Heard.{Heard}
use Rattle.server_book.specs.declared.heard.Heard.TheVariants as Told
use Rattle.server_book.specs.declared.server.KnownServer.{KnownServer}
use Rattle.server_book.specs.Books.{Agree, answer_in, has_waiting, may_wait}
use Rattle.server_book.specs.Names.{is_among}
use Rattle.server_book.specs.Seats.{Seat, all_waiting, changed, count_handed_out, count_in, leaving, least_free, new_in, number_of, put, same_address, seat, staying}
use Rattle.server_book.specs.Servers.{can_retry, connected, counted, failed, fixed, is_connecting, lost, may_leave, retried, stands, with_name}
use Rattle.server_book.proofs.Agreeing.{agree-changed, agree-gone, agree-new, free-there, number-kept}
use Rattle.server_book.proofs.SeatLemmas.{count-connected, count-failed, count-with_name, in-all}

address_by : (b : Bool) (x server : KnownServer) → x.address ≡ server.address → (cond b x server).address ≡ server.address
address_by true x server e = e
address_by false x server e = refl

waiting_by : (b : Bool) (x server : KnownServer) → x.waiting ≡ server.waiting → (cond b x server).waiting ≡ server.waiting
waiting_by true x server e = e
waiting_by false x server e = refl

count_kept : (change : KnownServer → KnownServer) (old : Seat) → ((server : KnownServer) → (change server).waiting ≡ server.waiting) → count_in old ≡ count_in (option_map change old)
count_kept change None keeps = refl
count_kept change (Some server) keeps = sym (ap length (keeps server))

-- ---- where a name may wait there is room for it

refused : (p q r s : Bool) (own : ℕ) → r ≡ true → let answer : Heard = cond p (Told.Find own) (cond q Told.HeldOff (cond r Told.Dropped (cond s (Told.Waits own) (Told.Connect own)))) in
    has_waiting answer ≡ true → ⊥
refused true q true s own is e = let no : false ≡ true = e in cc
refused false true true s own is e = let no : false ≡ true = e in cc
refused false false true s own is e = let no : false ≡ true = e in cc
refused p q false s own is e = let no : false ≡ true = is in cc

not_by : (b : Bool) → (not b ≡ true → ⊥) → b ≡ true
not_by true never = refl
not_by false never = absurd (never refl)

by_tests : (among small : Bool) (all : ℕ) → all ≤ MOST_WAITING → (among || (small && ltb all MOST_WAITING)) ≡ true → all + cond among 0 1 ≤ MOST_WAITING
by_tests true small all most e = omega arith
by_tests false true all most e = let less = ltb-true all MOST_WAITING e in omega arith
by_tests false false all most e = absurd (let no : false ≡ true = e in cc)

pub room_for : (number : ℕ) (name : List ℕ) (look : ℕ) (seats : List Seat) (old : Seat) → all_waiting seats ≤ MOST_WAITING
    → has_waiting (answer_in number name look seats old) ≡ true → all_waiting seats + new_in name old ≤ MOST_WAITING
room_for number name look seats None most e = absurd (let no : false ≡ true = e in cc)
room_for number name look seats (Some server) most e =
    let may : may_wait name seats server ≡ true = not_by (may_wait name seats server) (λ no. refused (stands server.standing) (not (is_connecting server.standing || can_retry look server)) (not (may_wait name seats server)) (is_connecting server.standing) number no e) in
    by_tests (is_among server.waiting name) (ltb (length server.waiting) MOST_WAITING_FOR_SERVER) (all_waiting seats) most may

-- ---- a server that leaves its seat

left_by : (b : Bool) (server one : KnownServer) → let none : Seat = None in Some server ≡ cond b (Some one) none → (Some one ≡ Some server) × (cond b none (Some one) ≡ none)
left_by true server one e = (sym e, refl)
left_by false server one e = absurd (let no : Some server ≡ None = e in cc)

left_is : (old : Seat) (server : KnownServer) → Some server ≡ leaving old → (old ≡ Some server) × (staying old ≡ None)
left_is None server e = absurd (let no : Some server ≡ None = e in cc)
left_is (Some one) server e = left_by (may_leave one) server one e

seat_within : (number : ℕ) (seats : List Seat) (server : KnownServer) → seat number seats ≡ Some server → (0 < number) × (number ≤ length seats)
seat_within zero seats server e = absurd (let no : None ≡ Some server = e in cc)
seat_within (suc place) seats server e =
    elim (cases_lt place (length seats)) as (λ _. (0 < suc place) × (suc place ≤ length seats)) [
      | inl less ↦ (omega arith, omega arith)
      | inr past ↦ absurd (let no : None ≡ Some server = sym (get_or_past seats place None past) ∙ e in cc)
    ]

module _ (seats new : List Seat) (numbers : Address → Option ℕ) (waiting : ℕ) (agree : Agree seats numbers waiting) (number : ℕ) where
  kept : (change : KnownServer → KnownServer) → ((server : KnownServer) → (change server).address ≡ server.address) → ((server : KnownServer) → (change server).waiting ≡ server.waiting)
      → new ≡ changed number change seats → Agree new numbers waiting
  kept change addresses names is =
      subst (λ (xs : List Seat). Agree xs numbers waiting) (sym is)
      (agree-changed seats numbers waiting agree number change waiting addresses (ap (λ (k : ℕ). waiting + k) (count_kept change (seat number seats) names)) agree.within)

  pub agree-fixed : new ≡ changed number fixed seats → Agree new numbers waiting
  agree-fixed is = kept fixed (λ server. refl) (λ server. refl) is

  pub agree-lost : (look : ℕ) → new ≡ changed number (lost look) seats → Agree new numbers waiting
  agree-lost look is = kept (lost look) (λ server. address_by (stands server.standing) _ server refl) (λ server. waiting_by (stands server.standing) _ server refl) is

  pub agree-retried : (look : ℕ) → new ≡ changed number (retried look) seats → Agree new numbers waiting
  agree-retried look is = kept (retried look) (λ server. address_by (can_retry look server) _ server refl) (λ server. waiting_by (can_retry look server) _ server refl) is

  pub agree-counted : (links limit : ℕ) → new ≡ changed number (counted links limit) seats → Agree new numbers waiting
  agree-counted links limit is = kept (counted links limit) (λ server. address_by (stands server.standing) _ server refl) (λ server. waiting_by (stands server.standing) _ server refl) is

  pub fits-connected : (taken : ℕ) → taken ≡ count_handed_out (seat number seats) → taken ≤ waiting
  fits-connected taken is =
      let part = count-connected (seat number seats) in
      let whole = in-all number seats in
      let all = agree.count in
      omega arith

  pub agree-connected : (taken : ℕ) → taken ≡ count_handed_out (seat number seats) → new ≡ changed number connected seats → Agree new numbers (waiting - taken)
  agree-connected taken is by =
      let left = count-connected (seat number seats) in
      let fits = fits-connected taken is in
      let most = agree.within in
      subst (λ (xs : List Seat). Agree xs numbers (waiting - taken)) (sym by)
      (agree-changed seats numbers waiting agree number connected (waiting - taken) (λ server. address_by (is_connecting server.standing) _ server refl) (omega arith) (omega arith))

  pub agree-failed : (look taken : ℕ) → taken ≡ count_handed_out (seat number seats) → new ≡ changed number (failed look) seats → Agree new numbers (waiting - taken)
  agree-failed look taken is by =
      let left = count-failed look (seat number seats) in
      let fits = fits-connected taken is in
      let most = agree.within in
      subst (λ (xs : List Seat). Agree xs numbers (waiting - taken)) (sym by)
      (agree-changed seats numbers waiting agree number (failed look) (waiting - taken) (λ server. address_by (is_connecting server.standing) _ server refl) (omega arith) (omega arith))

  -- ---- a name waits

  pub agree-named : (name : List ℕ) (look more : ℕ) → has_waiting (answer_in number name look seats (seat number seats)) ≡ true → more ≡ new_in name (seat number seats)
      → new ≡ changed number (with_name name) seats → Agree new numbers (waiting + more)
  agree-named name look more waits is by =
      let left = count-with_name name (seat number seats) in
      let most = agree.within in
      let all = agree.count in
      let room = room_for number name look seats (seat number seats) (omega arith) waits in
      subst (λ (xs : List Seat). Agree xs numbers (waiting + more)) (sym by)
      (agree-changed seats numbers waiting agree number (with_name name) (waiting + more) (λ server. refl) (omega arith) (omega arith))

  -- ---- servers come and go

  fresh_at : (address : Address) → number_of address seats ≡ None → (server : KnownServer) → server.address ≡ address → numbers server.address ≡ None
  fresh_at address none server same = subst (λ (a : Address). numbers a ≡ None) (sym same) (number-kept seats numbers waiting agree address ∙ none)

  pub agree-met : (address : Address) (server : KnownServer) (after : Address → Option ℕ) (now : ℕ) → Some number ≡ least_free seats → number_of address seats ≡ None → server.address ≡ address
      → ((q : Address) → after q ≡ cond (same_address address q) (Some number) (numbers q)) → now ≡ waiting + length server.waiting → now ≤ MOST_WAITING
      → new ≡ put number (Some server) seats → Agree new after now
  agree-met address server after now free none same updates more most by =
      let there = free-there seats number (sym free) in
      subst (λ (xs : List Seat). Agree xs after now) (sym by)
      (agree-new seats numbers waiting agree number server after now there.none there.some there.within (fresh_at address none server same)
      (λ q. updates q ∙ ap (λ (a : Address). cond (same_address a q) (Some number) (numbers q)) (sym same)) more most)

  pub fits-left : (server : KnownServer) (taken : ℕ) → Some server ≡ leaving (seat number seats) → taken ≡ length server.waiting → taken ≤ waiting
  fits-left server taken is length_is =
      let there : count_in (seat number seats) ≡ length server.waiting = ap count_in (left_is (seat number seats) server is).0 in
      let whole = in-all number seats in
      let all = agree.count in
      omega arith

  pub agree-left : (server : KnownServer) (after : Address → Option ℕ) (taken : ℕ) → Some server ≡ leaving (seat number seats)
      → ((q : Address) → after q ≡ cond (same_address server.address q) None (numbers q)) → taken ≡ length server.waiting
      → new ≡ put number (staying (seat number seats)) seats → Agree new after (waiting - taken)
  agree-left server after taken is updates length_is by =
      let both = left_is (seat number seats) server is in
      let there = seat_within number seats server both.0 in
      let fits = fits-left server taken is length_is in
      let gone : new ≡ put number None seats = by ∙ ap (λ (s : Seat). put number s seats) both.1 in
      subst (λ (xs : List Seat). Agree xs after (waiting - taken)) (sym gone)
      (agree-gone seats numbers waiting agree number server after (waiting - taken) both.0 there.0 there.1 updates (omega arith))
