-- The rows of one owner, and their IDs.
use Rattle.std.proofs.Common.{◌≡◌, ◌≤◌, ◌&&◌, length, arith, ℕ, zero, suc, List, [], ◌∷◌, ◌++◌, slice_get, true, false, cond, ◌==◌, nat_eq, Some, None, map, filter, refl, sym, ap, subst, ◌∙◌}
use Rattle.std.specs.Cmp.{nat_eq_equiv}
use Rattle.std.specs.List.{find}
use Rattle.std.specs.Option.{option_map}
use Rattle.std.proofs.lemmas.Bool.{eqb-true}
use Rattle.std.proofs.lemmas.Option.{slice_get-map}
use Rattle.row_index.specs.declared.key.Key.{Key}
use Rattle.row_index.specs.Lists.{is_id, is_not_id, with_last}
use Rattle.row_index.specs.Rows.{row_of, id_of, has_key, lacks_key, is_owned_by, with_row, value_at, put_at, HasKeysApart}
use Rattle.row_index.proofs.Keys.{same_key_is_same, same_key_itself, first_fails, later_fail}

module _ {V : Type 0} where
  -- a row that was added under a new key, and removed
  pub undone : (key : Key) (value : V) (entries : List (Key × V)) → value_at key entries ≡ None → filter (lacks_key key) (entries ++ (key, value) ∷ []) ≡ entries
  undone key value [] new = rw (same_key_itself key) refl
  undone key value (entry ∷ later) new =
      rw (first_fails (has_key key) row_of entry later new) (ap (λ rest. entry ∷ rest) (undone key value later (later_fail (has_key key) row_of entry later new)))

  -- the IDs of an owner, with one more row
  pub ids_with_more : (o : ℕ) (key : Key) (value : V) (entries : List (Key × V)) → map id_of (filter (is_owned_by o) (entries ++ (key, value) ∷ [])) ≡ cond (nat_eq key.owner o) (with_last key.id (map id_of (filter (is_owned_by o) entries))) (map id_of (filter (is_owned_by o) entries))
  ids_with_more o key value [] =
      elim (nat_eq key.owner o) as (λ t. map id_of (cond t ((key, value) ∷ []) []) ≡ cond t (key.id ∷ []) []) [ true ↦ refl | false ↦ refl ]
  ids_with_more o key value (entry ∷ later) =
      let rest = ids_with_more o key value later in
      elim (is_owned_by o entry) as (λ t. map id_of (cond t (entry ∷ filter (is_owned_by o) (later ++ (key, value) ∷ [])) (filter (is_owned_by o) (later ++ (key, value) ∷ []))) ≡ cond (nat_eq key.owner o) (with_last key.id (map id_of (cond t (entry ∷ filter (is_owned_by o) later) (filter (is_owned_by o) later)))) (map id_of (cond t (entry ∷ filter (is_owned_by o) later) (filter (is_owned_by o) later)))) [
        | true ↦ ap (λ ids. id_of entry ∷ ids) rest ∙ elim (nat_eq key.owner o) as (λ t. id_of entry ∷ cond t (with_last key.id (map id_of (filter (is_owned_by o) later))) (map id_of (filter (is_owned_by o) later)) ≡ cond t (with_last key.id (id_of entry ∷ map id_of (filter (is_owned_by o) later))) (id_of entry ∷ map id_of (filter (is_owned_by o) later))) [ true ↦ refl | false ↦ refl ]
        | false ↦ rest
      ]

  own_fewer : (key : Key) (entries : List (Key × V)) → map id_of (filter (is_owned_by key.owner) (filter (lacks_key key) entries)) ≡ filter (is_not_id key.id) (map id_of (filter (is_owned_by key.owner) entries))
  own_fewer key [] = refl
  own_fewer key (entry ∷ later) =
      let rest = own_fewer key later in
      let Goal : Type 0 = map id_of (filter (is_owned_by key.owner) (filter (lacks_key key) (entry ∷ later))) ≡ filter (is_not_id key.id) (map id_of (filter (is_owned_by key.owner) (entry ∷ later))) in
      elim (entry.0.owner == key.owner) as (λ t. entry.0.owner == key.owner ≡ t → Goal) [
        | true ↦ λ a.
            elim (entry.0.id == key.id) as (λ t. entry.0.id == key.id ≡ t → Goal) [ true ↦ λ b. simp (a, b) rest | false ↦ λ b. simp (a, b) (ap (λ ids. id_of entry ∷ ids) rest) ] refl
        | false ↦ λ a. simp a rest
      ] refl

  others_kept : (o : ℕ) (key : Key) (entries : List (Key × V)) → nat_eq key.owner o ≡ false → map id_of (filter (is_owned_by o) (filter (lacks_key key) entries)) ≡ map id_of (filter (is_owned_by o) entries)
  others_kept o key [] other = refl
  others_kept o key (entry ∷ later) other =
      let rest = others_kept o key later other in
      let Goal : Type 0 = map id_of (filter (is_owned_by o) (filter (lacks_key key) (entry ∷ later))) ≡ map id_of (filter (is_owned_by o) (entry ∷ later)) in
      elim (entry.0.owner == o) as (λ t. entry.0.owner == o ≡ t → Goal) [
        | true ↦ λ a. let not_its : entry.0.owner == key.owner ≡ false = ap (λ x. x == key.owner) (eqb-true entry.0.owner o a) ∙ nat_eq_equiv.symm o key.owner ∙ other in simp (not_its, a) (ap (λ ids. id_of entry ∷ ids) rest)
        | false ↦ λ a. elim (lacks_key key entry) as (λ t. map id_of (filter (is_owned_by o) (cond t (entry ∷ filter (lacks_key key) later) (filter (lacks_key key) later))) ≡ map id_of (filter (is_owned_by o) (entry ∷ later))) [ true ↦ simp a rest | false ↦ simp a rest ]
      ] refl

  -- the IDs of an owner, without a row
  pub ids_with_fewer : (o : ℕ) (key : Key) (entries : List (Key × V)) → map id_of (filter (is_owned_by o) (filter (lacks_key key) entries)) ≡ cond (nat_eq key.owner o) (filter (is_not_id key.id) (map id_of (filter (is_owned_by o) entries))) (map id_of (filter (is_owned_by o) entries))
  ids_with_fewer o key entries =
      elim (nat_eq key.owner o) as (λ t. nat_eq key.owner o ≡ t → map id_of (filter (is_owned_by o) (filter (lacks_key key) entries)) ≡ cond t (filter (is_not_id key.id) (map id_of (filter (is_owned_by o) entries))) (map id_of (filter (is_owned_by o) entries))) [
        | true ↦ λ e. subst (λ x. map id_of (filter (is_owned_by x) (filter (lacks_key key) entries)) ≡ filter (is_not_id key.id) (map id_of (filter (is_owned_by x) entries))) (eqb-true key.owner o e) (own_fewer key entries)
        | false ↦ λ e. others_kept o key entries e
      ] refl

  -- another value under a key leaves the IDs
  pub ids_with_put : (o : ℕ) (key : Key) (entries : List (Key × V)) (value : V) → map id_of (filter (is_owned_by o) (put_at key entries value)) ≡ map id_of (filter (is_owned_by o) entries)
  ids_with_put o key [] value = refl
  ids_with_put o key (entry ∷ later) value =
      elim (has_key key entry) as (λ t. map id_of (filter (is_owned_by o) (cond t (with_row value entry ∷ later) (entry ∷ put_at key later value))) ≡ map id_of (filter (is_owned_by o) (entry ∷ later))) [
        | true ↦ elim (is_owned_by o entry) as (λ t. map id_of (cond t (with_row value entry ∷ filter (is_owned_by o) later) (filter (is_owned_by o) later)) ≡ map id_of (cond t (entry ∷ filter (is_owned_by o) later) (filter (is_owned_by o) later))) [ true ↦ refl | false ↦ refl ]
        | false ↦ elim (is_owned_by o entry) as (λ t. map id_of (cond t (entry ∷ filter (is_owned_by o) (put_at key later value)) (filter (is_owned_by o) (put_at key later value))) ≡ map id_of (cond t (entry ∷ filter (is_owned_by o) later) (filter (is_owned_by o) later))) [ true ↦ ap (λ ids. id_of entry ∷ ids) (ids_with_put o key later value) | false ↦ ids_with_put o key later value ]
      ]

  past : (entry : Key × V) (later : List (Key × V)) (key : Key) (value : V) → value_at entry.0 later ≡ None → value_at key later ≡ Some value → value_at key (entry ∷ later) ≡ Some value
  past entry later key value none there =
      elim (has_key key entry) as (λ t. has_key key entry ≡ t → option_map row_of (cond t (Some entry) (find (has_key key) later)) ≡ Some value) [
        | true ↦ λ e. let gone : value_at key later ≡ None = subst (λ k. value_at k later ≡ None) (same_key_is_same entry.0 key e) none in cc
        | false ↦ λ e. there
      ] refl

  -- a row that an owner has stands under its key
  owned_at : (o : ℕ) (entries : List (Key × V)) (n : ℕ) (found : Key × V) → HasKeysApart entries → slice_get (filter (is_owned_by o) entries) n ≡ Some found → (value_at found.0 entries ≡ Some found.1) × (found.0.owner ≡ o)
  owned_at o [] n found apart at = cc
  owned_at o (entry ∷ later) n found apart at =
      elim (is_owned_by o entry) as (λ t. is_owned_by o entry ≡ t → slice_get (cond t (entry ∷ filter (is_owned_by o) later) (filter (is_owned_by o) later)) n ≡ Some found → (value_at found.0 (entry ∷ later) ≡ Some found.1) × (found.0.owner ≡ o)) [
        | true ↦ λ e h. first n e h (λ m g. owned_at o later m found apart.1 g)
        | false ↦ λ e h. let rest = owned_at o later n found apart.1 h in (past entry later found.0 found.1 apart.0 rest.0, rest.1)
      ] refl at
    where
      first : (n : ℕ) → is_owned_by o entry ≡ true → slice_get (entry ∷ filter (is_owned_by o) later) n ≡ Some found → ((m : ℕ) → slice_get (filter (is_owned_by o) later) m ≡ Some found → (value_at found.0 later ≡ Some found.1) × (found.0.owner ≡ o)) → (value_at found.0 (entry ∷ later) ≡ Some found.1) × (found.0.owner ≡ o)
      first zero e h more =
          let same : entry ≡ found = cc in
          subst (λ (f : Key × V). (value_at f.0 (entry ∷ later) ≡ Some f.1) × (f.0.owner ≡ o)) same (rw (same_key_itself entry.0) refl, eqb-true entry.0.owner o e)
      first (suc m) e h more = let rest = more m h in (past entry later found.0 found.1 apart.0 rest.0, rest.1)

  -- the row under an owner's n-th ID is the owner's n-th row
  pub row_of_id : (o n id : ℕ) (entries : List (Key × V)) → HasKeysApart entries → slice_get (map id_of (filter (is_owned_by o) entries)) n ≡ Some id → let key : Key = record { owner = o; id = id } in value_at key entries ≡ slice_get (map row_of (filter (is_owned_by o) entries)) n
  row_of_id o n id entries apart at =
      elim (slice_get (filter (is_owned_by o) entries) n) as (λ f. slice_get (filter (is_owned_by o) entries) n ≡ f → option_map id_of f ≡ Some id → let key : Key = record { owner = o; id = id } in value_at key entries ≡ slice_get (map row_of (filter (is_owned_by o) entries)) n) [
        | None ↦ λ e h. cc
        | Some found ↦ λ e h.
            let both = owned_at o entries n found apart e in
            let same : found.0.id ≡ id = cc in
            let key : found.0 ≡ record { owner = o; id = id } = λ i. record { owner = both.1 i; id = same i } in
            ap (λ k. value_at k entries) (sym key) ∙ both.0 ∙ sym (slice_get-map row_of (filter (is_owned_by o) entries) n ∙ ap (option_map row_of) e)
      ] refl (sym (slice_get-map id_of (filter (is_owned_by o) entries) n) ∙ at)

  no_id : (key : Key) (entries : List (Key × V)) → value_at key entries ≡ None → length (filter (is_id key.id) (map id_of (filter (is_owned_by key.owner) entries))) ≡ 0
  no_id key [] none = refl
  no_id key (entry ∷ later) none =
      let rest = no_id key later (later_fail (has_key key) row_of entry later none) in
      let fails : has_key key entry ≡ false = first_fails (has_key key) row_of entry later none in
      let Goal : Type 0 = length (filter (is_id key.id) (map id_of (filter (is_owned_by key.owner) (entry ∷ later)))) ≡ 0 in
      elim (entry.0.owner == key.owner) as (λ t. entry.0.owner == key.owner ≡ t → (t && entry.0.id == key.id) ≡ false → Goal)
      [ true ↦ λ a b. simp (a, b) rest | false ↦ λ a b. simp a rest ] refl fails

  -- an owner has an ID once at most
  pub id_once : (key : Key) (entries : List (Key × V)) → HasKeysApart entries → length (filter (is_id key.id) (map id_of (filter (is_owned_by key.owner) entries))) ≤ 1
  id_once key [] apart = omega arith
  id_once key (entry ∷ later) apart =
      let rest = id_once key later apart.1 in
      let Goal : Type 0 = length (filter (is_id key.id) (map id_of (filter (is_owned_by key.owner) (entry ∷ later)))) ≤ 1 in
      elim (entry.0.owner == key.owner) as (λ t. entry.0.owner == key.owner ≡ t → Goal) [
        | true ↦ λ a.
            elim (entry.0.id == key.id) as (λ t. entry.0.id == key.id ≡ t → Goal) [
              | true ↦ λ b.
                  let same : entry.0 ≡ key = same_key_is_same entry.0 key (simp (a, b)) in
                  let none : value_at key later ≡ None = subst (λ k. value_at k later ≡ None) same apart.0 in
                  let zero_left = no_id key later none in simp (a, b) (omega (arith, zero_left))
              | false ↦ λ b. simp (a, b) rest
            ] refl
        | false ↦ λ a. simp a rest
      ] refl
