-- The row that decides, from the end of the rows.
use Rattle.std.proofs.Common.{◌≡◌, ℕ, Bool, true, false, cond, ◌&&◌, List, [], ◌∷◌, ◌++◌, filter, length, take, get_or, Option, Some, None, refl, sym, ap, ◌∙◌, ◌+◌, ◌-◌, ◌<◌, ◌≤◌, arith}
use Rattle.std.specs.List.{last_or}
use Rattle.std.proofs.lemmas.List.{append-nil, take_more}
use Rattle.std.proofs.lemmas.List.Elements.{filter-append}
use Rattle.pvlist.specs.declared.row.Row.{Row}
use Rattle.pvlist.specs.Ruling.{matches}
use Rattle.pv_alias.specs.Resolution.{matching, is_grant, deciding}

last_or-push : {A : Type 0} (o : Option A) (xs : List A) (x : A) → last_or o (xs ++ x ∷ []) ≡ Some x
last_or-push o [] x = refl
last_or-push o (y ∷ ys) x = last_or-push (Some y) ys x

-- it is the last row, or else one before that
last_of_two_tests : {A : Type 0} (p q : A → Bool) (before : List A) (row : A)
    → last_or None (filter q (filter p (before ++ row ∷ []))) ≡ cond (q row && p row) (Some row) (last_or None (filter q (filter p before)))
last_of_two_tests p q before row = rw (filter-append p before (row ∷ [])) (by (p row))
  where
    picked : (passes : Bool) → last_or None (filter q (filter p before) ++ cond passes (row ∷ []) []) ≡ cond (passes && true) (Some row) (last_or None (filter q (filter p before)))
    picked true = last_or-push None (filter q (filter p before)) row
    picked false = rw (append-nil (filter q (filter p before))) refl

    left_out : (passes : Bool) → last_or None (filter q (filter p before)) ≡ cond (passes && false) (Some row) (last_or None (filter q (filter p before)))
    left_out true = refl
    left_out false = refl

    by : (matches : Bool) → last_or None (filter q (filter p before ++ cond matches (row ∷ []) [])) ≡ cond (q row && matches) (Some row) (last_or None (filter q (filter p before)))
    by true = rw (filter-append q (filter p before) (row ∷ [])) (picked (q row))
    by false = rw (append-nil (filter p before)) (left_out (q row))

-- the last row decides, or else those before it
pub deciding_from_last : (rows before : List Row) (row : Row) (name : List ℕ) → rows ≡ before ++ row ∷ []
    → deciding (matching rows name) ≡ cond (is_grant row.verb && matches row name) (Some row) (deciding (matching before name))
deciding_from_last rows before row name split =
    rw split (last_of_two_tests (λ row. matches row name) (λ row. is_grant row.verb) before row)

-- the same for the first rows of all
pub deciding_up_to : (rows : List Row) (end : ℕ) (row : Row) (name : List ℕ) → 0 < end → end ≤ length rows → row ≡ get_or rows (end - 1) row
    → deciding (matching (take end rows) name) ≡ cond (is_grant row.verb && matches row name) (Some row) (deciding (matching (take (end - 1) rows) name))
deciding_up_to rows end row name some within at =
    let same : end ≡ (end - 1) + 1 = omega arith in
    let before : end - 1 < length rows = omega arith in
    deciding_from_last (take end rows) (take (end - 1) rows) row name
    (ap (λ (n : ℕ). take n rows) same ∙ take_more rows (end - 1) row before ∙ ap (λ (last : Row). take (end - 1) rows ++ last ∷ []) (sym at))
