-- Waiting writes under their keys, and the keys of each session.
use Rattle.std.proofs.Common.{◌≡◌, ℕ, List, [], ◌∷◌, ◌++◌, Bool, true, false, not, cond, Some, None, is_some, nat_eq, ◌==◌, map, refl, sym, ap, subst, ◌∙◌}
use Rattle.std.specs.Prelude.{slice_get}
use Rattle.std.specs.List.{find, filter, list_any}
use Rattle.std.specs.Option.{option_map, unwrap_or}
use Rattle.std.proofs.lemmas.Bool.{false≢true, and_parts}
use Rattle.std.proofs.lemmas.Option.{same_Some}
use Rattle.row_index.specs.declared.key.Key.{Key}
use Rattle.row_index.specs.Lists.{of_owner, with_last, is_not_key, AddsToOwner, RemovesFromOwner, SameOwnerLists}
use Rattle.row_index.specs.Rows.{lacks_key, row_of, value_at}
use Rattle.row_index.proofs.Keys.{apart_with_more, apart_with_fewer}
use Rattle.link_table.specs.declared.writes.WaitingWrite.{WaitingWrite}
use Rattle.link_table.specs.Keyed.{is_at, is_not_at}
use Rattle.link_table.specs.WriteIndex.{write_key, leads_to, AreListed}
use Rattle.link_table.specs.Writes.{is_write_of, is_write_on}
use Rattle.link_table.proofs.KeyedLemmas.{keyed_by, keyed_with_more, keyed_with_fewer, found_at_its_key, found_passes, is_some_found, there_at, fails_at}
use Rattle.link_table.proofs.OwnerLemmas.{passing_kept}

module _ {A B : Type 0} (f : A → B) (q : A → Bool) where
  -- what is said by those that pass, with one more
  said_with_more : (x : A) (xs : List A) → map f (filter q (xs ++ x ∷ [])) ≡ cond (q x) (with_last (f x) (map f (filter q xs))) (map f (filter q xs))
  said_with_more x [] = elim (q x) as (λ t. map f (cond t (x ∷ []) []) ≡ cond t (f x ∷ []) []) [ true ↦ refl | false ↦ refl ]
  said_with_more x (y ∷ ys) =
      let rest = said_with_more x ys in
      let said = map f (filter q ys) in
      elim (q y) as (λ t. map f (cond t (y ∷ filter q (ys ++ x ∷ [])) (filter q (ys ++ x ∷ []))) ≡ cond (q x) (with_last (f x) (map f (cond t (y ∷ filter q ys) (filter q ys)))) (map f (cond t (y ∷ filter q ys) (filter q ys)))) [
        | true ↦ ap (λ ks. f y ∷ ks) rest ∙ elim (q x) as (λ t. f y ∷ cond t (with_last (f x) said) said ≡ cond t (with_last (f x) (f y ∷ said)) (f y ∷ said)) [ true ↦ refl | false ↦ refl ]
        | false ↦ rest
      ]

  -- the first that is said is said by the first that passes
  first_said : (xs : List A) → slice_get (map f (filter q xs)) 0 ≡ option_map f (find q xs)
  first_said [] = refl
  first_said (x ∷ xs) =
      elim (q x) as (λ t. slice_get (map f (cond t (x ∷ filter q xs) (filter q xs))) 0 ≡ option_map f (cond t (Some x) (find q xs)))
      [ true ↦ refl | false ↦ first_said xs ]

  none_first : (t : B → Bool) (y : B) (ys : List B) → find t (y ∷ ys) ≡ None → (t y ≡ false) × (find t ys ≡ None)
  none_first t y ys e =
      elim (t y) as (λ s. cond s (Some y) (find t ys) ≡ None → (s ≡ false) × (find t ys ≡ None)) [ true ↦ λ h. cc | false ↦ λ h. (refl, h) ] e

  -- where nothing that is said passes, what one says doesn't
  passed_over : (p : A → Bool) (t : B → Bool) (xs : List A) (w : A) → find p xs ≡ Some w → q w ≡ true → find t (map f (filter q xs)) ≡ None → t (f w) ≡ false
  passed_over p t [] w e passes none = cc
  passed_over p t (x ∷ xs) w e passes none =
      elim (p x) as (λ s. cond s (Some x) (find p xs) ≡ Some w → t (f w) ≡ false) [
        | true ↦ λ h.
            let is : x ≡ w = cc in
            let here : q x ≡ true = ap q is ∙ passes in
            ap (λ y. t (f y)) (sym is) ∙ (none_first t (f x) (map f (filter q xs)) (rw here at none)).0
        | false ↦ λ h.
            passed_over p t xs w h passes (elim (q x) as (λ s. find t (map f (cond s (x ∷ filter q xs) (filter q xs))) ≡ None → find t (map f (filter q xs)) ≡ None) [ true ↦ λ g. (none_first t (f x) (map f (filter q xs)) g).1 | false ↦ λ g. g ] none)
      ] e

-- the keys of some, without one key
keys_without : {A : Type 0} (key_of : A → Key) (q : A → Bool) (k : Key) (rows : List A) → filter (is_not_key k) (map key_of (filter q rows)) ≡ map key_of (filter q (filter (is_not_at key_of k) rows))
keys_without key_of q k [] = refl
keys_without key_of q k (row ∷ rows) =
    let later = keys_without key_of q k rows in
    let rest = filter (is_not_at key_of k) rows in
    let keys = filter (is_not_key k) (map key_of (filter q rows)) in
    elim (q row) as (λ t. q row ≡ t → filter (is_not_key k) (map key_of (cond t (row ∷ filter q rows) (filter q rows))) ≡ map key_of (filter q (filter (is_not_at key_of k) (row ∷ rows)))) [
      | true ↦ λ h. elim (is_at key_of k row) as (λ s. cond (not s) (key_of row ∷ keys) keys ≡ map key_of (filter q (cond (not s) (row ∷ rest) rest))) [ true ↦ later | false ↦ rw h (ap (λ ks. key_of row ∷ ks) later) ]
      | false ↦ λ h. elim (is_at key_of k row) as (λ s. keys ≡ map key_of (filter q (cond (not s) (row ∷ rest) rest))) [ true ↦ later | false ↦ rw h later ]
    ] refl

-- the key names a write, and each that it names passes
abbrev pub Names : (WaitingWrite → Bool) → Key → List WaitingWrite → Type 0
Names p k rows = (list_any (is_at write_key k) rows ≡ true) × (list_any (λ x. not (p x)) (filter (is_at write_key k) rows) ≡ false)

-- no write
pub listed_none : (sessions : List (ℕ × List Key)) → ((session : ℕ) → of_owner sessions session ≡ []) → AreListed [] sessions
listed_none sessions none = record { apart = tt; keyed = refl; listed = none }

-- lists in which each session has the same keys
pub listed_as : (writes : List (Key × WaitingWrite)) (sessions sessions' : List (ℕ × List Key)) → AreListed writes sessions → SameOwnerLists sessions sessions' → AreListed writes sessions'
listed_as writes sessions sessions' listed same = record { apart = listed.apart; keyed = listed.keyed; listed = λ session. same session ∙ listed.listed session }

module _ (writes : List (Key × WaitingWrite)) (sessions : List (ℕ × List Key)) (listed : AreListed writes sessions) where
  -- a write more, with a new key
  pub listed_with_more : (sessions' : List (ℕ × List Key)) (row : WaitingWrite) → value_at (write_key row) writes ≡ None → AddsToOwner row.session (write_key row) sessions sessions' → AreListed (writes ++ (write_key row, row) ∷ []) sessions'
  listed_with_more sessions' row new adds =
      let more = keyed_by write_key _ _ (keyed_with_more write_key writes row listed.keyed) in
      record {
        apart = apart_with_more writes (write_key row) row new listed.apart;
        keyed = more.0;
        listed = λ s.
            adds s
            ∙ ap (λ ks. cond (nat_eq row.session s) (with_last (write_key row) ks) ks) (listed.listed s)
            ∙ sym (said_with_more write_key (is_write_of s) row (map row_of writes))
            ∙ ap (λ xs. map write_key (filter (is_write_of s) xs)) (sym more.1);
      }

  -- without the write under a key
  pub listed_with_fewer : (sessions' : List (ℕ × List Key)) (k : Key) (row : WaitingWrite) → value_at k writes ≡ Some row → RemovesFromOwner row.session k sessions sessions' → AreListed (filter (lacks_key k) writes) sessions'
  listed_with_fewer sessions' k row there removes =
      let fewer = keyed_by write_key _ _ (keyed_with_fewer write_key k writes listed.keyed) in
      let all = map row_of writes in
      record {
        apart = apart_with_fewer (lacks_key k) writes listed.apart;
        keyed = fewer.0;
        listed = λ s.
            removes s
            ∙ ap (λ ks. cond (nat_eq row.session s) (filter (is_not_key k) ks) ks) (listed.listed s)
            ∙ elim (nat_eq row.session s) as (λ t. nat_eq row.session s ≡ t → cond t (filter (is_not_key k) (map write_key (filter (is_write_of s) all))) (map write_key (filter (is_write_of s) all)) ≡ map write_key (filter (is_write_of s) (filter (is_not_at write_key k) all))) [
              | true ↦ λ e. keys_without write_key (is_write_of s) k all
              | false ↦ λ e. ap (map write_key) (sym (passing_kept (is_write_of s) (is_at write_key k) all (fails_at write_key writes listed.keyed (is_write_of s) k row listed.apart there e)))
            ] refl
            ∙ ap (λ xs. map write_key (filter (is_write_of s) xs)) (sym fewer.1);
      }

  names_at : (p : WaitingWrite → Bool) (k : Key) (row : WaitingWrite) → value_at k writes ≡ Some row → p row ≡ true → Names p k (map row_of writes)
  names_at p k row there passes =
      (there_at write_key writes listed.keyed k row there, fails_at write_key writes listed.keyed (λ x. not (p x)) k row listed.apart there (ap not passes))

  -- the first key of a session is that of a write of it
  pub first_names : (session : ℕ) (k : Key) → slice_get (of_owner sessions session) 0 ≡ Some k → Names (is_write_of session) k (map row_of writes)
  first_names session k led =
      elim (find (is_write_of session) (map row_of writes)) as (λ o. find (is_write_of session) (map row_of writes) ≡ o → option_map write_key o ≡ Some k → Names (is_write_of session) k (map row_of writes)) [
        | None ↦ λ e h. cc
        | Some row ↦ λ e h.
            let at = found_at_its_key write_key (is_write_of session) writes row listed.keyed listed.apart e in
            let is : write_key row ≡ k = same_Some (write_key row) k h in
            let P : Key → Type 0 = λ x. Names (is_write_of session) x (map row_of writes) in
            subst P is (names_at (is_write_of session) (write_key row) row at.0 at.1)
      ] refl (sym (ap (λ ks. slice_get ks 0) (listed.listed session) ∙ first_said write_key (is_write_of session) (map row_of writes)) ∙ led)

  -- a session without a first key has no write
  pub none_first_of : (session : ℕ) → slice_get (of_owner sessions session) 0 ≡ None → list_any (is_write_of session) (map row_of writes) ≡ false
  none_first_of session none =
      elim (find (is_write_of session) (map row_of writes)) as (λ o. find (is_write_of session) (map row_of writes) ≡ o → option_map write_key o ≡ None → list_any (is_write_of session) (map row_of writes) ≡ false) [
        | None ↦ λ e h. sym (is_some_found (is_write_of session) (map row_of writes)) ∙ ap is_some e
        | Some row ↦ λ e h. cc
      ] refl (sym (ap (λ ks. slice_get ks 0) (listed.listed session) ∙ first_said write_key (is_write_of session) (map row_of writes)) ∙ none)

  -- a key that leads to a write on a channel is of such writes alone
  pub led_names : (session sid : ℕ) (k : Key) → find (leads_to (is_write_on session sid) writes) (of_owner sessions session) ≡ Some k → Names (is_write_on session sid) k (map row_of writes)
  led_names session sid k e =
      elim (value_at k writes) as (λ o. value_at k writes ≡ o → unwrap_or (option_map (is_write_on session sid) o) false ≡ true → Names (is_write_on session sid) k (map row_of writes)) [
        | None ↦ λ at h. absurd (false≢true h)
        | Some row ↦ λ at h. names_at (is_write_on session sid) k row at h
      ] refl (found_passes (leads_to (is_write_on session sid) writes) (of_owner sessions session) k e)

  -- where no key of the session does, no write is on the channel
  pub none_led : (session sid : ℕ) → find (leads_to (is_write_on session sid) writes) (of_owner sessions session) ≡ None → list_any (is_write_on session sid) (map row_of writes) ≡ false
  none_led session sid none =
      let on = is_write_on session sid in
      let all = map row_of writes in
      elim (find on all) as (λ o. find on all ≡ o → list_any on all ≡ false) [
        | None ↦ λ e. sym (is_some_found on all) ∙ ap is_some e
        | Some w ↦ λ e.
            let at = found_at_its_key write_key on writes w listed.keyed listed.apart e in
            let own = (and_parts (w.session == session) (w.sid == sid) at.1).0 in
            let out = passed_over write_key (is_write_of session) on (leads_to on writes) all w e own (sym (ap (find (leads_to on writes)) (listed.listed session)) ∙ none) in
            absurd (false≢true (sym out ∙ ap (λ o. unwrap_or (option_map on o) false) at.0 ∙ at.1))
      ] refl
