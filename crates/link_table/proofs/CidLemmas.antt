-- Where CIDs rise, the nth link by CID is the nth in the order of adding.
use Rattle.std.proofs.Common.{◌≡◌, ◌≤◌, ◌+◌, ◌==◌, ℕ, zero, suc, List, [], ◌∷◌, Bool, true, false, cond, Some, refl, sym, ap, ◌∙◌, arith}
use Rattle.std.specs.Prelude.{slice_get}
use Rattle.std.specs.List.{count_by, find}
use Rattle.std.proofs.lemmas.Bool.{le-ltb, lt-ltb, eqb-true, eq-eqb}
use Rattle.std.proofs.lemmas.List.Sums.{sum_by-cons}
use Rattle.link_table.specs.declared.links.LinkRow.{LinkRow}
use Rattle.link_table.specs.Links.{is_below, has_below, nth_by_cid, CidsRiseFrom}

-- one more link is counted where its CID is lower
counted : (cid : ℕ) (row : LinkRow) (rows : List LinkRow) (lower : Bool) → is_below cid row ≡ lower → count_by (is_below cid) (row ∷ rows) ≡ cond lower 1 0 + count_by (is_below cid) rows
counted cid row rows lower is =
    sum_by-cons (λ (x : LinkRow). cond (is_below cid x) 1 0) row rows ∙ ap (λ t. cond t 1 0 + count_by (is_below cid) rows) is

-- no CID is below the lowest
none_below : (cid low : ℕ) (rows : List LinkRow) → cid ≤ low → CidsRiseFrom low rows → count_by (is_below cid) rows ≡ 0
none_below cid low [] under rise = refl
none_below cid low (row ∷ rows) under rise =
    let first : cid ≤ row.cid = omega (arith, under, rise.0) in
    let step = counted cid row rows false (le-ltb row.cid cid first) in
    let rest = none_below cid (row.cid + 1) rows (omega (arith, first)) rise.1 in
    omega (arith, step, rest)

none_below_first : (low : ℕ) (row : LinkRow) (rows : List LinkRow) → CidsRiseFrom low (row ∷ rows) → count_by (is_below row.cid) (row ∷ rows) ≡ 0
none_below_first low row rows rise =
    let step = counted row.cid row rows false (le-ltb row.cid row.cid (omega arith)) in
    let rest = none_below row.cid (row.cid + 1) rows (omega arith) rise.1 in
    omega (arith, step, rest)

-- tests that agree on the CIDs that there are find the same
found_alike : (p q : LinkRow → Bool) (low : ℕ) (rows : List LinkRow) → CidsRiseFrom low rows → ((row : LinkRow) → low ≤ row.cid → p row ≡ q row) → find p rows ≡ find q rows
found_alike p q low [] rise alike = refl
found_alike p q low (row ∷ rows) rise alike =
    let later = found_alike p q (row.cid + 1) rows rise.1 (λ x past. alike x (omega (arith, rise.0, past))) in
    (λ i. cond (alike row rise.0 i) (Some row) (later i))

same_after : (a b n : ℕ) → a ≡ 1 + b → (a == suc n) ≡ (b == n)
same_after a b n more =
    elim (b == n) as (λ t. b == n ≡ t → (a == suc n) ≡ t) [
      | true ↦ λ h. let same = eqb-true b n h in eq-eqb a (suc n) (omega (arith, more, same))
      | false ↦ λ h.
          elim (a == suc n) as (λ t. a == suc n ≡ t → t ≡ false)
          [ true ↦ λ g. let same = eqb-true a (suc n) g in sym (eq-eqb b n (omega (arith, more, same))) ∙ h | false ↦ λ g. refl ] refl
    ] refl

not_first : (k n : ℕ) → k ≡ 0 → (k == suc n) ≡ false
not_first k n none =
    elim (k == suc n) as (λ t. k == suc n ≡ t → t ≡ false)
    [ true ↦ λ h. let same = eqb-true k (suc n) h in absurd (omega (arith, none, same)) | false ↦ λ h. refl ] refl

-- the links before one are those of lower CIDs
pub in_order_of_cids : (n low : ℕ) (links : List LinkRow) → CidsRiseFrom low links → nth_by_cid n links ≡ slice_get links n
in_order_of_cids n low [] rise = refl
in_order_of_cids zero low (row ∷ rows) rise =
    ap (λ k. cond (k == 0) (Some row) (find (has_below 0 (row ∷ rows)) rows)) (none_below_first low row rows rise)
in_order_of_cids (suc n) low (row ∷ rows) rise =
    let one_more : (x : LinkRow) → row.cid + 1 ≤ x.cid → has_below (suc n) (row ∷ rows) x ≡ has_below n rows x =
    λ x past. same_after (count_by (is_below x.cid) (row ∷ rows)) (count_by (is_below x.cid) rows) n (counted x.cid row rows true (lt-ltb row.cid x.cid (omega (arith, past)))) in
    ap (λ t. cond t (Some row) (find (has_below (suc n) (row ∷ rows)) rows)) (not_first (count_by (is_below row.cid) (row ∷ rows)) n (none_below_first low row rows rise))
    ∙ found_alike (has_below (suc n) (row ∷ rows)) (has_below n rows) (row.cid + 1) rows rise.1 one_more
    ∙ in_order_of_cids n (row.cid + 1) rows rise.1
