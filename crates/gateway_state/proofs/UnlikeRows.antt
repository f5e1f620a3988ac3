-- Rows that are unlike each other.
use Rattle.std.proofs.Common.{◌≡◌, ℕ, ◌≤◌, ◌<◌, List, [], ◌∷◌, ◌++◌, Bool, true, false, cond, eqb, ltb, not, ◌||◌, ◌&&◌, refl, sym, ap, ◌∙◌, arith}
use Rattle.std.specs.Prelude.{filter}
use Rattle.std.specs.List.{list_all, list_any}
use Rattle.std.proofs.lemmas.Bool.{eqb-false, eqb-true, eq-eqb, lt-ltb, ltb-true, ne_eqb, or_parts}
use Rattle.std.proofs.lemmas.List.Folds.{list_all-append, list_any-append}
use Rattle.rows.specs.Rows.{change_first}
use Rattle.gateway_state.specs.Settled.{AreUnlike}
use Rattle.gateway_state.proofs.RowTests.{all_weaker, any_changed, none_filtered, none_weaker}

pub eqb_swapped : (a b : ℕ) → eqb a b ≡ eqb b a
eqb_swapped a b = by (eqb a b) refl
  where
    by : (same : Bool) → eqb a b ≡ same → same ≡ eqb b a
    by true e = sym (eq-eqb b a (sym (eqb-true a b e)))
    by false e = sym (ne_eqb b a (λ same. eqb-false a b e (sym same)))

pub both_swapped : (a b c d : ℕ) → (eqb a b && eqb c d) ≡ (eqb b a && eqb d c)
both_swapped a b c d =
    let first = eqb_swapped a b in
    let second = eqb_swapped c d in
    λ i. first i && second i

module _ {A : Type 0} (alike : A → A → Bool) where
  pub unlike_filtered : (test : A → Bool) (rows : List A) → AreUnlike alike rows → AreUnlike alike (filter test rows)
  unlike_filtered test [] apart = apart
  unlike_filtered test (row ∷ rows) apart =
      let rest = unlike_filtered test rows apart.1 in
      elim (test row) as (λ t. AreUnlike alike (cond t (row ∷ filter test rows) (filter test rows)))
      [ true ↦ (none_filtered (alike row) test rows apart.0, rest) | false ↦ rest ]

  -- a change that the test doesn't see
  pub unlike_changed : (test : A → Bool) (change : A → A) (rows : List A) → ((a b : A) → alike (change a) b ≡ alike a b) → ((a b : A) → alike a (change b) ≡ alike a b)
      → AreUnlike alike rows → AreUnlike alike (change_first test change rows)
  unlike_changed test change [] first second apart = apart
  unlike_changed test change (row ∷ rows) first second apart =
      elim (test row) as (λ t. AreUnlike alike (cond t (change row ∷ rows) (row ∷ change_first test change rows))) [
        | true ↦ (none_weaker (alike row) (alike (change row)) rows (λ x none. first row x ∙ none) apart.0, apart.1)
        | false ↦ (any_changed (alike row) test change rows (λ x. second row x) ∙ apart.0, unlike_changed test change rows first second apart.1)
      ]

  -- one row more, which no row is like
  pub unlike_pushed : (rows : List A) (new : A) → list_any (λ (row : A). alike row new) rows ≡ false → AreUnlike alike rows → AreUnlike alike (rows ++ new ∷ [])
  unlike_pushed [] new none apart = (refl, apart)
  unlike_pushed (row ∷ rows) new none apart =
      let parts = or_parts (alike row new) (list_any (λ (x : A). alike x new) rows) none in
      (list_any-append (alike row) rows (new ∷ []) ∙ rw (apart.0, parts.0) refl, unlike_pushed rows new parts.1 apart.1)

-- one row more, all below a number that rose
pub below_pushed : {A : Type 0} (number : A → ℕ) (next after : ℕ) (rows : List A) (new : A) → next ≤ after → number new < after
    → list_all (λ (row : A). ltb (number row) next) rows ≡ true → list_all (λ (row : A). ltb (number row) after) (rows ++ new ∷ []) ≡ true
below_pushed {A = A} number next after rows new rises below all =
    let others = all_weaker (λ (row : A). ltb (number row) next) (λ (row : A). ltb (number row) after) rows
    (λ row is. lt-ltb (number row) after (omega (arith, rises, ltb-true (number row) next is))) all in
    list_all-append (λ (row : A). ltb (number row) after) rows (new ∷ []) ∙ rw (others, lt-ltb (number new) after below) refl

-- without the rows that pass, where none does
pub filter_absent : {A : Type 0} (test : A → Bool) (rows : List A) → list_any test rows ≡ false → filter (λ (row : A). not (test row)) rows ≡ rows
filter_absent test [] none = refl
filter_absent test (row ∷ rows) none =
    elim (test row) as (λ t. (t || list_any test rows) ≡ false → cond (not t) (row ∷ filter (λ x. not (test x)) rows) (filter (λ x. not (test x)) rows) ≡ row ∷ rows)
    [ true ↦ λ h. cc | false ↦ λ h. ap (λ rest. row ∷ rest) (filter_absent test rows h) ] none
