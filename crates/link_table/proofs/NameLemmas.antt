-- A name leads to at most one link, through each change of the lists of names.
use Rattle.std.proofs.Common.{◌≡◌, ℕ, List, [], ◌∷◌, ◌++◌, Bool, true, false, not, cond, Some, None, Decides, refl, sym, ap, ◌∙◌}
use Rattle.std.specs.Prelude.{slice_get, bytes_eq}
use Rattle.std.specs.List.{filter}
use Rattle.std.specs.Option.{option_to_list}
use Rattle.std.proofs.lemmas.Slice.Eq.{bytes_eq-Decides}
use Rattle.row_index.specs.declared.key.Key.{Key}
use Rattle.row_index.specs.Lists.{of, is_not_key, AddsTo, RemovesFrom}
use Rattle.row_index.proofs.Keys.{same_key_itself}
use Rattle.link_table.specs.LinkIndex.{first_of}

-- another name, as lists of names compare it
abbrev pub is_same : List ℕ → List ℕ → Bool
is_same name other = bytes_eq other name

pub is_same_decides : (a b : List ℕ) → Decides (is_same a b) (a ≡ b)
is_same_decides a b = (λ h. sym ((bytes_eq-Decides b a).0 h), λ e. (bytes_eq-Decides b a).1 (sym e))

-- at most one key stands under each name
abbrev pub AreSingle : List (List ℕ × List Key) → Type 0
AreSingle names = (name : List ℕ) → of names name ≡ option_to_list (first_of names name)

module _ (name : List ℕ) (k : Key) (names names' : List (List ℕ × List Key)) where
  under : (xs ys zs : List Key) (n : List ℕ) → bytes_eq name n ≡ true → zs ≡ cond (bytes_eq name n) xs ys → zs ≡ xs
  under xs ys zs n h e = e ∙ ap (λ t. cond t xs ys) h

  beside : (xs ys zs : List Key) (n : List ℕ) → bytes_eq name n ≡ false → zs ≡ cond (bytes_eq name n) xs ys → zs ≡ ys
  beside xs ys zs n h e = e ∙ ap (λ t. cond t xs ys) h

  itself : bytes_eq name name ≡ true
  itself = (bytes_eq-Decides name name).1 refl

  none_under : AreSingle names → first_of names name ≡ None → of names name ≡ []
  none_under single free = single name ∙ ap option_to_list free

  -- the list under the name, and those beside it, once the key is added
  added_here : AreSingle names → first_of names name ≡ None → AddsTo name k names names' → of names' name ≡ k ∷ []
  added_here single free adds = under _ _ _ name itself (adds name) ∙ ap (λ keys. keys ++ k ∷ []) (none_under single free)

  pub first_of_added : AreSingle names → first_of names name ≡ None → AddsTo name k names names' → first_of names' name ≡ Some k
  first_of_added single free adds = ap (λ keys. slice_get keys 0) (added_here single free adds)

  pub first_beside_added : AddsTo name k names names' → (n : List ℕ) → is_same n name ≡ false → first_of names' n ≡ first_of names n
  first_beside_added adds n h = ap (λ keys. slice_get keys 0) (beside _ _ _ n h (adds n))

  pub single_with_more : AreSingle names → first_of names name ≡ None → AddsTo name k names names' → AreSingle names'
  single_with_more single free adds n =
      elim (bytes_eq name n) as (λ t. bytes_eq name n ≡ t → of names' n ≡ option_to_list (first_of names' n)) [
        | true ↦ λ h.
            let is : name ≡ n = (bytes_eq-Decides name n).0 h in
            ap (of names') (sym is) ∙ added_here single free adds ∙ ap option_to_list (sym (first_of_added single free adds) ∙ ap (first_of names') is)
        | false ↦ λ h.
            let kept = beside _ _ _ n h (adds n) in
            kept ∙ single n ∙ ap (λ keys. option_to_list (slice_get keys 0)) (sym kept)
      ] refl

  -- the same, once the key that stood there is removed
  removed_here : AreSingle names → first_of names name ≡ Some k → RemovesFrom name k names names' → of names' name ≡ []
  removed_here single led removes =
      let alone : of names name ≡ k ∷ [] = single name ∙ ap option_to_list led in
      under _ _ _ name itself (removes name) ∙ ap (filter (is_not_key k)) alone ∙ ap (λ t. cond (not t) (k ∷ []) []) (same_key_itself k)

  pub first_of_removed : AreSingle names → first_of names name ≡ Some k → RemovesFrom name k names names' → first_of names' name ≡ None
  first_of_removed single led removes = ap (λ keys. slice_get keys 0) (removed_here single led removes)

  pub first_beside_removed : RemovesFrom name k names names' → (n : List ℕ) → is_same n name ≡ false → first_of names' n ≡ first_of names n
  first_beside_removed removes n h = ap (λ keys. slice_get keys 0) (beside _ _ _ n h (removes n))

  pub single_with_fewer : AreSingle names → first_of names name ≡ Some k → RemovesFrom name k names names' → AreSingle names'
  single_with_fewer single led removes n =
      elim (bytes_eq name n) as (λ t. bytes_eq name n ≡ t → of names' n ≡ option_to_list (first_of names' n)) [
        | true ↦ λ h.
            let is : name ≡ n = (bytes_eq-Decides name n).0 h in
            ap (of names') (sym is) ∙ removed_here single led removes ∙ ap option_to_list (sym (first_of_removed single led removes) ∙ ap (first_of names') is)
        | false ↦ λ h.
            let kept = beside _ _ _ n h (removes n) in
            kept ∙ single n ∙ ap (λ keys. option_to_list (slice_get keys 0)) (sym kept)
      ] refl
