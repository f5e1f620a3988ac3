-- Numbers under addresses that agree with seats, after each change.
use Rattle.std.proofs.Common.{◌≡◌, ℕ, zero, suc, ◌+◌, ◌<◌, ◌≤◌, ◌==◌, ◌&&◌, not, List, [], ◌∷◌, Bool, true, false, cond, length, get_or, set, Option, Some, None, refl, sym, ap, subst, ◌∙◌, arith, inl, inr, ltb}
use Rattle.std.specs.List.{position, position_or_len}
use Rattle.std.specs.Option.{option_map}
use Rattle.std.proofs.lemmas.Bool.{cases_eq, cases_lt, eqb-true, ltb-false}
use Rattle.std.proofs.lemmas.List.{get_or_past, get_or-set_other, get_or-set_same, set_past}
use Rattle.std.proofs.lemmas.List.Quantifiers.{position-Some}
use Rattle.server_book.specs.declared.address.Address.{Address}
use Rattle.server_book.specs.declared.book.TheConstants.{MOST_WAITING}
use Rattle.server_book.specs.declared.server.KnownServer.{KnownServer}
use Rattle.server_book.specs.Books.{Agree}
use Rattle.server_book.specs.Seats.{Seat, changed, count_in, is_at, is_free, least_free, number_of, put, same_address, seat}
use Rattle.server_book.proofs.SeatLemmas.{length-put, waiting-changed, waiting-put}

-- ---- addresses

both : (p q : Bool) → (p && q) ≡ true → (p ≡ true) × (q ≡ true)
both true q e = (refl, e)
both false q e = absurd (let no : false ≡ true = e in cc)

pub one_address : (a b : Address) → same_address a b ≡ true → a ≡ b
one_address a b e =
    let parts = both (a.host == b.host) (a.port == b.port) e in
    let host : a.host ≡ b.host = eqb-true a.host b.host parts.0 in
    let port : a.port ≡ b.port = eqb-true a.port b.port parts.1 in
    let by_host : ℕ → Address = λ h. record { host = h; port = a.port } in
    let by_port : ℕ → Address = λ p. record { host = b.host; port = p } in
    ap by_host host ∙ ap by_port port

-- ---- what is read after a seat was written

pub seat-put : (number : ℕ) (new : Seat) (seats : List Seat) → 0 < number → number ≤ length seats → seat number (put number new seats) ≡ new
seat-put zero new seats some within = absurd (omega arith)
seat-put (suc place) new seats some within = get_or-set_same seats place new None (omega arith)

pub seat-put_other : (other number : ℕ) (new : Seat) (seats : List Seat) → (other ≡ number → ⊥) → seat other (put number new seats) ≡ seat other seats
seat-put_other zero number new seats apart = refl
seat-put_other (suc i) zero new seats apart = refl
seat-put_other (suc i) (suc place) new seats apart = get_or-set_other seats place i new None (λ e. apart (ap suc e))

written : (seats : List Seat) (place : ℕ) (new : Seat) (address : Address) → is_at address new ≡ is_at address (get_or seats place None)
    → is_at address (get_or (set seats place new) place None) ≡ is_at address (get_or seats place None)
written seats place new address same =
    elim (cases_lt place (length seats)) as (λ _. is_at address (get_or (set seats place new) place None) ≡ is_at address (get_or seats place None)) [
      | inl less ↦ ap (is_at address) (get_or-set_same seats place new None less) ∙ same
      | inr past ↦ ap (λ (xs : List Seat). is_at address (get_or xs place None)) (set_past seats place new past)
    ]

-- a server that has the address of the one before it
at-put : (other number : ℕ) (new : Seat) (seats : List Seat) (address : Address) → is_at address new ≡ is_at address (seat number seats)
    → is_at address (seat other (put number new seats)) ≡ is_at address (seat other seats)
at-put zero number new seats address same = refl
at-put (suc i) zero new seats address same = refl
at-put (suc i) (suc place) new seats address same =
    elim (cases_eq i place) as (λ _. is_at address (seat (suc i) (put (suc place) new seats)) ≡ is_at address (seat (suc i) seats)) [
      | inl e ↦ subst (λ (k : ℕ). is_at address (get_or (set seats place new) k None) ≡ is_at address (get_or seats k None)) (sym e) (written seats place new address same)
      | inr apart ↦ ap (is_at address) (get_or-set_other seats place i new None apart)
    ]

at-changed : (change : KnownServer → KnownServer) (old : Seat) (address : Address) → ((server : KnownServer) → (change server).address ≡ server.address)
    → is_at address (option_map change old) ≡ is_at address old
at-changed change None address keeps = refl
at-changed change (Some server) address keeps = ap (λ (a : Address). same_address a address) (keeps server)

kept_by : (t : Bool) (number : ℕ) (old : Option ℕ) → (t ≡ true → ⊥) → cond t (Some number) old ≡ old
kept_by true number old apart = absurd (apart refl)
kept_by false number old apart = refl

-- ---- the server of a number changes

module _ (seats : List Seat) (numbers : Address → Option ℕ) (waiting : ℕ) (agree : Agree seats numbers waiting) where
  pub agree-changed : (number : ℕ) (change : KnownServer → KnownServer) (now : ℕ) → ((server : KnownServer) → (change server).address ≡ server.address)
      → now + count_in (seat number seats) ≡ waiting + count_in (option_map change (seat number seats)) → now ≤ MOST_WAITING
      → Agree (changed number change seats) numbers now
  agree-changed number change now keeps counts most = record {
    sound = λ address other e. at-put other number (option_map change (seat number seats)) seats address (at-changed change (seat number seats) address keeps) ∙ agree.sound address other e;
    complete = λ address other e. agree.complete address other (sym (at-put other number (option_map change (seat number seats)) seats address (at-changed change (seat number seats) address keeps)) ∙ e);
    count = let all = waiting-changed number change seats in let was = agree.count in omega arith;
    within = most;
    few = let long = length-put number (option_map change (seat number seats)) seats in let was = agree.few in omega arith;
  }

  none_at : (number : ℕ) (address : Address) → seat number seats ≡ None → is_at address (seat number seats) ≡ true → ⊥
  none_at number address none e = let no : false ≡ true = sym (ap (is_at address) none) ∙ e in cc

  apart_from : (number other : ℕ) (address : Address) → seat number seats ≡ None → is_at address (seat other seats) ≡ true → other ≡ number → ⊥
  apart_from number other address none e same = none_at number address none (subst (λ (k : ℕ). is_at address (seat k seats) ≡ true) same e)

  -- ---- a server comes

  pub agree-new : (number : ℕ) (server : KnownServer) (after : Address → Option ℕ) (now : ℕ) → seat number seats ≡ None → 0 < number → number ≤ length seats
      → numbers server.address ≡ None → ((address : Address) → after address ≡ cond (same_address server.address address) (Some number) (numbers address))
      → now ≡ waiting + length server.waiting → now ≤ MOST_WAITING → Agree (put number (Some server) seats) after now
  agree-new number server after now none some within fresh updates counts most = record {
    sound = λ address other e.
        elim (same_address server.address address) as (λ t. same_address server.address address ≡ t → cond t (Some number) (numbers address) ≡ Some other → is_at address (seat other (put number (Some server) seats)) ≡ true) [
          | true ↦ λ is h.
              let same : number ≡ other = cc in
              subst (λ (k : ℕ). is_at address (seat k (put number (Some server) seats)) ≡ true) same (ap (is_at address) (seat-put number (Some server) seats some within) ∙ is)
          | false ↦ λ is h.
              let there = agree.sound address other h in
              ap (is_at address) (seat-put_other other number (Some server) seats (apart_from number other address none there)) ∙ there
        ] refl (sym (updates address) ∙ e);
    complete = λ address other e.
        elim (cases_eq other number) as (λ _. after address ≡ Some other) [
          | inl same ↦
              let is : same_address server.address address ≡ true = sym (ap (is_at address) (seat-put number (Some server) seats some within)) ∙ subst (λ (k : ℕ). is_at address (seat k (put number (Some server) seats)) ≡ true) same e in
              updates address ∙ ap (λ (t : Bool). cond t (Some number) (numbers address)) is ∙ ap Some (sym same)
          | inr apart ↦
              let there : numbers address ≡ Some other = agree.complete address other (sym (ap (is_at address) (seat-put_other other number (Some server) seats apart)) ∙ e) in
              updates address ∙ kept_by (same_address server.address address) number (numbers address) (λ is.
              let one : server.address ≡ address = one_address server.address address is in
              let no : numbers address ≡ None = subst (λ (a : Address). numbers a ≡ None) one fresh in
              let clash : None ≡ Some other = sym no ∙ there in cc) ∙ there
        ];
    count = let all = waiting-put number (Some server) seats some within in let was = agree.count in let zero_there : count_in (seat number seats) ≡ 0 = ap count_in none in omega arith;
    within = most;
    few = let long = length-put number (Some server) seats in let was = agree.few in omega arith;
  }

  -- ---- a server goes

  pub agree-gone : (number : ℕ) (server : KnownServer) (after : Address → Option ℕ) (now : ℕ) → seat number seats ≡ Some server → 0 < number → number ≤ length seats
      → ((address : Address) → after address ≡ cond (same_address server.address address) None (numbers address))
      → now + length server.waiting ≡ waiting → Agree (put number None seats) after now
  agree-gone number server after now is some within updates counts = record {
    sound = λ address other e.
        elim (same_address server.address address) as (λ t. same_address server.address address ≡ t → cond t None (numbers address) ≡ Some other → is_at address (seat other (put number None seats)) ≡ true) [
          | true ↦ λ t h. absurd (let clash : None ≡ Some other = h in cc)
          | false ↦ λ t h.
              let there = agree.sound address other h in
              let apart : other ≡ number → ⊥ = λ same. let no : false ≡ true = sym t ∙ sym (ap (is_at address) is) ∙ subst (λ (k : ℕ). is_at address (seat k seats) ≡ true) same there in cc in
              ap (is_at address) (seat-put_other other number None seats apart) ∙ there
        ] refl (sym (updates address) ∙ e);
    complete = λ address other e.
        let apart : other ≡ number → ⊥ = λ same.
        let no : false ≡ true = sym (ap (is_at address) (seat-put number None seats some within)) ∙ subst (λ (k : ℕ). is_at address (seat k (put number None seats)) ≡ true) same e in cc in
        let there : numbers address ≡ Some other = agree.complete address other (sym (ap (is_at address) (seat-put_other other number None seats apart)) ∙ e) in
        elim (same_address server.address address) as (λ t. same_address server.address address ≡ t → after address ≡ Some other) [
          | true ↦ λ t.
              let here : numbers address ≡ Some number = agree.complete address number (ap (is_at address) is ∙ t) in
              absurd (apart (let clash : Some other ≡ Some number = sym there ∙ here in cc))
          | false ↦ λ t. updates address ∙ ap (λ (u : Bool). cond u None (numbers address)) t ∙ there
        ] refl;
    count = let all = waiting-put number None seats some within in let was = agree.count in let there : count_in (seat number seats) ≡ length server.waiting = ap count_in is in omega arith;
    within = let was = agree.within in omega arith;
    few = let long = length-put number None seats in let was = agree.few in omega arith;
  }

-- ---- the number that is found

no_place : (a b : ℕ) → cond (ltb a b) (Some a) None ≡ None → b ≤ a
no_place a b e = elim (ltb a b) as (λ t. ltb a b ≡ t → cond t (Some a) None ≡ None → b ≤ a) [ true ↦ λ _ h. cc | false ↦ λ g _. ltb-false a b g ] refl e

fails_at : (test : Seat → Bool) (seats : List Seat) (place : ℕ) → length seats ≤ position_or_len test seats → place < length seats → test (get_or seats place None) ≡ true → ⊥
fails_at test [] place past within e = omega arith
fails_at test (first ∷ seats) zero past within e = let none : length (first ∷ seats) ≤ 0 = rw e at past in omega arith
fails_at test (first ∷ seats) (suc place) past within e =
    elim (test first) as (λ t. length (first ∷ seats) ≤ cond (not t) (1 + position_or_len test seats) 0 → ⊥)
    [ true ↦ λ h. omega arith | false ↦ λ h. fails_at test seats place (omega arith) (omega arith) e ] past

nowhere : (test : Seat → Bool) (seats : List Seat) (number : ℕ) → position test seats ≡ None → test None ≡ false → test (seat number seats) ≡ true → ⊥
nowhere test seats zero none free e = let no : false ≡ true = sym free ∙ e in cc
nowhere test seats (suc place) none free e =
    elim (cases_lt place (length seats)) as (λ _. ⊥) [
      | inl less ↦ fails_at test seats place (no_place (position_or_len test seats) (length seats) none) less e
      | inr past ↦ let no : false ≡ true = sym free ∙ sym (ap test (get_or_past seats place None past)) ∙ e in cc
    ]

module _ (seats : List Seat) (numbers : Address → Option ℕ) (waiting : ℕ) (agree : Agree seats numbers waiting) (address : Address) where
  not_there : (found : Option ℕ) → position (is_at address) seats ≡ None → numbers address ≡ found → found ≡ None
  not_there None none e = refl
  not_there (Some number) none e = absurd (nowhere (is_at address) seats number none refl (agree.sound address number e))

  by_place : (place : Option ℕ) → position (is_at address) seats ≡ place → numbers address ≡ option_map suc place
  by_place None e = not_there (numbers address) e refl
  by_place (Some place) e = agree.complete address (suc place) (position-Some (is_at address) seats place None e).1

  -- the number that is kept is that of the seat
  pub number-kept : numbers address ≡ number_of address seats
  number-kept = by_place (position (is_at address) seats) refl

-- ---- the least free number

freed : (old : Seat) → is_free old ≡ true → old ≡ None
freed None e = refl
freed (Some server) e = absurd (let no : false ≡ true = e in cc)

pub record IsFree (number : ℕ) (seats : List Seat) : Type 0 where
  pub some : 0 < number
  pub within : number ≤ length seats
  pub none : seat number seats ≡ None

free_by : (seats : List Seat) (number : ℕ) (place : Option ℕ) → position is_free seats ≡ place → option_map suc place ≡ Some number → IsFree number seats
free_by seats number None e f = absurd (let no : None ≡ Some number = f in cc)
free_by seats number (Some place) e f =
    let same : suc place ≡ number = cc in
    let found = position-Some is_free seats place None e in
    record { some = omega arith; within = let less = found.0 in omega arith; none = subst (λ (k : ℕ). seat k seats ≡ None) same (freed (get_or seats place None) found.1) }

pub free-there : (seats : List Seat) (number : ℕ) → least_free seats ≡ Some number → IsFree number seats
free-there seats number e = free_by seats number (position is_free seats) refl e
