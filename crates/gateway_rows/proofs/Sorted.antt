-- Names that are put in order at once, and each once, are those that are put where they go one by one.
use Rattle.std.proofs.Common.{◌≡◌, ℕ, List, [], ◌∷◌, Bool, true, false, cond, ◌&&◌, ◌||◌, refl, sym, ap, ◌∙◌, subst, true≢false}
use Rattle.std.specs.Prelude.{bytes_eq, filter, fold}
use Rattle.std.specs.declared.cmp.Ordering.{Ordering}
use Rattle.std.specs.declared.cmp.Ordering.TheVariants.{Less, Equal, Greater}
use Rattle.std.specs.Cmp.Lexicographic.{slice_cmp}
use Rattle.std.specs.List.{AllByRecursion, dedup, dedup_from}
use Rattle.std.specs.List.Sorted.{IsPermutation, IsSorted, IsStrictlySortedBy}
use Rattle.std.specs.Ordering.{is_eq, nat_cmp}
use Rattle.std.proofs.lemmas.Cmp.{nat_list_cmp_total}
use Rattle.std.proofs.lemmas.List.Kept.{IsStrictlySortedBy-dedup}
use Rattle.std.proofs.lemmas.List.Sorted.{list_any-IsPermutation}
use Rattle.std.proofs.lemmas.Map.Text.{is_eq-slice_cmp}
use Rattle.std.proofs.lemmas.Slice.Eq.{bytes_eq-Decides}
use Rattle.gateway_state.specs.Gateway.{Gateway}
use Rattle.gateway_state.specs.Variables.{is_among, is_unlinked, with_unlinked}
use Rattle.gateway_state.proofs.AskedNames.{among_unlinked, tested_same, twice}
use Rattle.gateway_rows.proofs.Placed.{by_bytes, flipped, lower_below, sorted_none, sorted_with_unlinked}

itself : (x : List ℕ) → bytes_eq x x ≡ true
itself x = (bytes_eq-Decides x x).1 refl

same_if_equal : (x y : List ℕ) → by_bytes x y ≡ Equal → x ≡ y
same_if_equal x y equal = (bytes_eq-Decides x y).0 (sym (is_eq-slice_cmp x y) ∙ ap is_eq equal)

-- what is above another isn't that
other_if_less : (x y : List ℕ) → by_bytes x y ≡ Less → bytes_eq y x ≡ false
other_if_less x y less = sym (is_eq-slice_cmp y x) ∙ ap is_eq (flipped x y Less less)

-- a name isn't among those above it
none_above : (x : List ℕ) (names : List (List ℕ)) → AllByRecursion (λ y. by_bytes x y ≡ Less) names → is_among names x ≡ false
none_above x [] all = refl
none_above x (y ∷ names) all = ap (λ (t : Bool). t || is_among names x) (other_if_less x y all.0) ∙ none_above x names all.1

among_itself : (x : List ℕ) (names : List (List ℕ)) → is_among (x ∷ names) x ≡ true
among_itself x names = ap (λ (t : Bool). t || is_among names x) (itself x)

-- what is among names behind the first, where the first is the same
behind_same : (k l : List ℕ) (ks ls : List (List ℕ)) → k ≡ l → AllByRecursion (λ y. by_bytes k y ≡ Less) ks → AllByRecursion (λ y. by_bytes l y ≡ Less) ls
    → (x : List ℕ) → is_among (k ∷ ks) x ≡ is_among (l ∷ ls) x → is_among ks x ≡ is_among ls x
behind_same k l ks ls e above above' x same = by (bytes_eq k x) refl
  where
    by : (t : Bool) → bytes_eq k x ≡ t → is_among ks x ≡ is_among ls x
    by true is =
        let there : k ≡ x = (bytes_eq-Decides k x).0 is in
        subst (λ (n : List ℕ). is_among ks n ≡ false) there (none_above k ks above)
        ∙ sym (subst (λ (n : List ℕ). is_among ls n ≡ false) (sym e ∙ there) (none_above l ls above'))
    by false is =
        ap (λ (t : Bool). t || is_among ks x) (sym is)
        ∙ same
        ∙ ap (λ (n : List ℕ). bytes_eq n x || is_among ls x) (sym e)
        ∙ ap (λ (t : Bool). t || is_among ls x) is

-- names that rise are known by which they are
same_if_sorted : (ks ls : List (List ℕ)) → IsStrictlySortedBy (slice_cmp nat_cmp) ks → IsStrictlySortedBy (slice_cmp nat_cmp) ls
    → ((x : List ℕ) → is_among ks x ≡ is_among ls x) → ks ≡ ls
unfolding IsStrictlySortedBy
same_if_sorted [] [] s t same = refl
same_if_sorted [] (l ∷ ls) s t same = absurd (true≢false (sym (same l ∙ among_itself l ls)))
same_if_sorted (k ∷ ks) [] s t same = absurd (true≢false (sym (among_itself k ks) ∙ same k))
same_if_sorted (k ∷ ks) (l ∷ ls) s t same = by (by_bytes k l) refl (same_if_sorted ks ls s.1 t.1)
  where
    by : (o : Ordering) → by_bytes k l ≡ o → (((x : List ℕ) → is_among ks x ≡ is_among ls x) → ks ≡ ls) → k ∷ ks ≡ l ∷ ls
    by Less is rest =
        absurd (true≢false (sym (among_itself k ks) ∙ same k ∙ none_above k (l ∷ ls) (is, lower_below k l ls is t.0)))
    by Equal is rest =
        let e = same_if_equal k l is in
        ap (λ (n : List ℕ). n ∷ ks) e ∙ ap (λ (names : List (List ℕ)). l ∷ names) (rest (λ x. behind_same k l ks ls e s.0 t.0 x (same x)))
    by Greater is rest =
        let less = flipped k l Greater is in
        absurd (true≢false (sym (among_itself l ls) ∙ sym (same l) ∙ none_above l (k ∷ ks) (less, lower_below l k ks less s.0)))

among_each_once : (k : List ℕ) (names : List (List ℕ)) (x : List ℕ) → is_among (dedup_from bytes_eq k names) x ≡ is_among (k ∷ names) x
among_each_once k [] x = refl
among_each_once k (y ∷ names) x = by (bytes_eq y k) refl (among_each_once k names x) (among_each_once y names x)
  where
    by : (t : Bool) → bytes_eq y k ≡ t → is_among (dedup_from bytes_eq k names) x ≡ is_among (k ∷ names) x → is_among (dedup_from bytes_eq y names) x ≡ is_among (y ∷ names) x
        → is_among (cond t (dedup_from bytes_eq k names) (k ∷ dedup_from bytes_eq y names)) x ≡ is_among (k ∷ y ∷ names) x
    by true is first second =
        let same : y ≡ k = (bytes_eq-Decides y k).0 is in
        first ∙ twice (bytes_eq k x) (is_among names x) ∙ ap (λ (n : List ℕ). bytes_eq k x || (bytes_eq n x || is_among names x)) (sym same)
    by false is first second = ap (λ (t : Bool). bytes_eq k x || t) second

-- each once they are the same names
among_deduped : (names : List (List ℕ)) (x : List ℕ) → is_among (dedup bytes_eq names) x ≡ is_among names x
among_deduped [] x = refl
among_deduped (k ∷ names) x = among_each_once k names x

apart : (b m u : Bool) → ((b && u) || (m && u)) ≡ ((b || m) && u)
apart true m true = refl
apart true true false = refl
apart true false false = refl
apart false m u = refl

among_filtered : (w : Gateway) (names : List (List ℕ)) (x : List ℕ) → is_among (filter (is_unlinked w) names) x ≡ (is_among names x && is_unlinked w x)
among_filtered w [] x = refl
among_filtered w (name ∷ names) x =
    by (is_unlinked w name)
    ∙ ap (λ (t : Bool). t || is_among (filter (is_unlinked w) names) x) (tested_same (is_unlinked w) name x)
    ∙ ap (λ (t : Bool). (bytes_eq name x && is_unlinked w x) || t) (among_filtered w names x)
    ∙ apart (bytes_eq name x) (is_among names x) (is_unlinked w x)
  where
    and_true : (b : Bool) → b ≡ (b && true)
    and_true true = refl
    and_true false = refl

    and_false : (b m : Bool) → m ≡ ((b && false) || m)
    and_false true m = refl
    and_false false m = refl

    by : (new : Bool) → is_among (cond new (name ∷ filter (is_unlinked w) names) (filter (is_unlinked w) names)) x ≡ ((bytes_eq name x && new) || is_among (filter (is_unlinked w) names) x)
    by true = ap (λ (t : Bool). t || is_among (filter (is_unlinked w) names) x) (and_true (bytes_eq name x))
    by false = and_false (bytes_eq name x) (is_among (filter (is_unlinked w) names) x)

all_sorted : (w : Gateway) (before names : List (List ℕ)) → IsStrictlySortedBy (slice_cmp nat_cmp) before → IsStrictlySortedBy (slice_cmp nat_cmp) (fold (with_unlinked w) before names)
all_sorted w before [] sorted = sorted
all_sorted w before (name ∷ names) sorted = all_sorted w (with_unlinked w before name) names (sorted_with_unlinked w before name sorted)

-- the names without a link, put in order, and each once
pub put_in_order : (w : Gateway) (names sorted : List (List ℕ)) → IsPermutation (filter (is_unlinked w) names) sorted → IsSorted (slice_cmp nat_cmp) sorted
    → dedup bytes_eq sorted ≡ fold (with_unlinked w) [] names
put_in_order w names sorted moved in_order =
    same_if_sorted (dedup bytes_eq sorted) (fold (with_unlinked w) [] names)
    (IsStrictlySortedBy-dedup nat_list_cmp_total (λ x y. sym (is_eq-slice_cmp x y)) sorted in_order)
    (all_sorted w [] names sorted_none)
    (λ x. among_deduped sorted x
    ∙ sym (list_any-IsPermutation (λ (n : List ℕ). bytes_eq n x) (filter (is_unlinked w) names) sorted moved)
    ∙ among_filtered w names x
    ∙ sym (among_unlinked w [] names x))
