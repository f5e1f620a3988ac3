-- Names by rising bytes, with one more.
use Rattle.std.proofs.Common.{◌≡◌, ℕ, List, [], ◌∷◌, Bool, true, false, cond, refl, ap, ◌∙◌}
use Rattle.std.specs.declared.cmp.Ordering.{Ordering}
use Rattle.std.specs.declared.cmp.Ordering.TheVariants.{Less, Equal, Greater}
use Rattle.std.specs.Cmp.Lexicographic.{slice_cmp}
use Rattle.std.specs.List.{AllByRecursion}
use Rattle.std.specs.List.Sorted.{IsStrictlySortedBy}
use Rattle.std.specs.Ordering.{nat_cmp, ordering_reverse}
use Rattle.std.proofs.lemmas.Cmp.{nat_list_cmp_total}
use Rattle.gateway_state.specs.Gateway.{Gateway}
use Rattle.gateway_state.specs.Variables.{is_unlinked, with_name, with_unlinked}

abbrev pub by_bytes : List ℕ → List ℕ → Ordering
by_bytes a b = slice_cmp nat_cmp a b

pub flipped : (x y : List ℕ) (o : Ordering) → by_bytes x y ≡ o → by_bytes y x ≡ ordering_reverse o
flipped x y o is = nat_list_cmp_total.antisymm y x ∙ ap ordering_reverse is

-- names stay in order with one more

all_below : (first name : List ℕ) (names : List (List ℕ)) → by_bytes first name ≡ Less → AllByRecursion (λ y. by_bytes first y ≡ Less) names → AllByRecursion (λ y. by_bytes first y ≡ Less) (with_name name names)
all_below first name [] less all = (less, all)
all_below first name (next ∷ names) less all =
    elim (by_bytes name next) as (λ o. AllByRecursion (λ y. by_bytes first y ≡ Less) (elim o [ Less ↦ name ∷ next ∷ names | Equal ↦ next ∷ names | Greater ↦ next ∷ with_name name names ]))
    [ Less ↦ (less, all) | Equal ↦ all | Greater ↦ (all.0, all_below first name names less all.1) ]

pub lower_below : (name first : List ℕ) (names : List (List ℕ)) → by_bytes name first ≡ Less → AllByRecursion (λ y. by_bytes first y ≡ Less) names → AllByRecursion (λ y. by_bytes name y ≡ Less) names
lower_below name first [] less all = all
lower_below name first (next ∷ names) less all = (nat_list_cmp_total.trans name first next less all.0, lower_below name first names less all.1)

pub sorted_with_name : (name : List ℕ) (names : List (List ℕ)) → IsStrictlySortedBy (slice_cmp nat_cmp) names → IsStrictlySortedBy (slice_cmp nat_cmp) (with_name name names)
unfolding IsStrictlySortedBy
sorted_with_name name [] sorted = (sorted, sorted)
sorted_with_name name (first ∷ names) sorted = by (by_bytes name first) refl (sorted_with_name name names sorted.1)
  where
    by : (o : Ordering) → by_bytes name first ≡ o → IsStrictlySortedBy (slice_cmp nat_cmp) (with_name name names)
        → IsStrictlySortedBy (slice_cmp nat_cmp) (elim o [ Less ↦ name ∷ first ∷ names | Equal ↦ first ∷ names | Greater ↦ first ∷ with_name name names ])
    by Less is rest = ((is, lower_below name first names is sorted.0), sorted)
    by Equal is rest = sorted
    by Greater is rest = (all_below first name names (flipped name first Greater is) sorted.0, rest)

pub sorted_none : IsStrictlySortedBy (slice_cmp nat_cmp) []
unfolding IsStrictlySortedBy
sorted_none = tt

pub sorted_with_unlinked : (w : Gateway) (names : List (List ℕ)) (name : List ℕ) → IsStrictlySortedBy (slice_cmp nat_cmp) names → IsStrictlySortedBy (slice_cmp nat_cmp) (with_unlinked w names name)
sorted_with_unlinked w names name sorted = by (is_unlinked w name)
  where
    by : (new : Bool) → IsStrictlySortedBy (slice_cmp nat_cmp) (cond new (with_name name names) names)
    by true = sorted_with_name name names sorted
    by false = sorted
