-- Rows of which the first that passes has already what it is given.
use Rattle.std.proofs.Common.{◌≡◌, List, [], ◌∷◌, Bool, true, false, cond, Some, None, refl, sym, ap, ◌∙◌}
use Rattle.std.specs.List.{find}
use Rattle.rows.specs.Rows.{change_first}

module _ {A : Type 0} (p : A → Bool) (f : A → A) where
  pub unchanged_found : (rows : List A) (row : A) → find p rows ≡ Some row → f row ≡ row → change_first p f rows ≡ rows
  unchanged_found [] row found same = refl
  unchanged_found (other ∷ rows) row found same =
      elim (p other) as (λ t. cond t (Some other) (find p rows) ≡ Some row → cond t (f other ∷ rows) (other ∷ change_first p f rows) ≡ other ∷ rows) [
        | true ↦ λ e. let is : other ≡ row = cc in ap (λ first. first ∷ rows) (ap f is ∙ same ∙ sym is)
        | false ↦ λ e. ap (λ rest. other ∷ rest) (unchanged_found rows row e same)
      ] found

  pub unchanged_absent : (rows : List A) → find p rows ≡ None → change_first p f rows ≡ rows
  unchanged_absent [] found = refl
  unchanged_absent (other ∷ rows) found =
      elim (p other) as (λ t. cond t (Some other) (find p rows) ≡ None → cond t (f other ∷ rows) (other ∷ change_first p f rows) ≡ other ∷ rows) [
        | true ↦ λ e. cc
        | false ↦ λ e. ap (λ rest. other ∷ rest) (unchanged_absent rows e)
      ] found
