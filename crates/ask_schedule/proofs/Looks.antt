-- What a look asks for, and what it leaves.
use Rattle.std.proofs.Common.{◌≡◌, ℕ, ◌<◌, ◌≤◌, min, Bool, true, false, cond, List, [], ◌∷◌, ◌++◌, length, map, get_or, take, drop, Option, Some, zero, suc, refl, sym, ap, ◌∙◌, arith, inl, inr}
use Rattle.std.specs.List.{count_by, find}
use Rattle.std.specs.Option.{option_map}
use Rattle.std.proofs.lemmas.Bool.{cases_lt}
use Rattle.std.proofs.Math.Seq.{drop-cons, take-suc}
use Rattle.std.proofs.lemmas.List.{length-take, length-take-le, map-append, take-take, take_all}
use Rattle.std.proofs.lemmas.List.Sums.{count_by-le-length}
use Rattle.ask_schedule.specs.declared.row.ScheduleRow.{ScheduleRow}
use Rattle.ask_schedule.specs.declared.row.TheConstants.{LAST_LOOK}
use Rattle.ask_schedule.specs.Places.{AreRows, InOrder, InOrderFrom, due_of, first_asked}
use Rattle.ask_schedule.specs.Plan.{again, all_placed, asked, due_after, has_name, is_due, left, placed}
use Rattle.ask_schedule.proofs.Found.{find-placed, rows-placed}
use Rattle.ask_schedule.proofs.Order.{counts_due, due_tells, earlier, front_due, lt_tells, none_due, skips_other}

-- ---- those asked for are the first rows

fewer_of : (rows : List ScheduleRow) (c most : ℕ) → take most (take c rows) ≡ take (min c most) rows
fewer_of rows c most =
    elim (cases_lt c most) as (λ _. take most (take c rows) ≡ take (min c most) rows) [
      | inl less ↦
          let short : length (take c rows) ≤ most = omega (arith, length-take c rows) in
          let same : min c most ≡ c = omega arith in
          rw same (take_all most (take c rows) short)
      | inr more ↦
          let same : min c most ≡ most = omega arith in
          rw same (take-take most c rows more)
    ]

pub asked-front : (now most : ℕ) (rows : List ScheduleRow) → InOrder rows → asked now most rows ≡ take (min (count_by (is_due now) rows) most) rows
asked-front now most rows o = ap (take most) (front_due now 0 rows o) ∙ fewer_of rows (count_by (is_due now) rows) most

pub asked-long : (now most : ℕ) (rows : List ScheduleRow) → InOrder rows → length (asked now most rows) ≡ min (count_by (is_due now) rows) most
asked-long now most rows o =
    let within = count_by-le-length (is_due now) rows in
    ap length (asked-front now most rows o) ∙ length-take-le (min (count_by (is_due now) rows) most) rows (omega arith)

due_at : (now : ℕ) (row : ScheduleRow) (rows : List ScheduleRow) (i : ℕ) (d : ScheduleRow) → row.due ≤ now → ((j : ℕ) → j < count_by (is_due now) rows → (get_or rows j d).due ≤ now)
    → i < suc (count_by (is_due now) rows) → (get_or (row ∷ rows) i d).due ≤ now
due_at now row rows zero d due others less = due
due_at now row rows (suc i) d due others less = others i (omega arith)

-- the first rows, as many as are due, are due
pub due_in_front : (now low : ℕ) (rows : List ScheduleRow) (i : ℕ) (d : ScheduleRow) → InOrderFrom low rows → i < count_by (is_due now) rows → (get_or rows i d).due ≤ now
due_in_front now low [] i d o less = absurd (omega arith)
due_in_front now low (row ∷ rows) i d o less =
    elim (due_tells now row) as (λ _. (get_or (row ∷ rows) i d).due ≤ now) [
      | inl w ↦ due_at now row rows i d w.1 (λ j under. due_in_front now row.due rows j d o.1 under) (omega (arith, less, counts_due now row rows w.0))
      | inr w ↦ let none = none_due now row.due rows w.1 o.1 in absurd (omega (arith, less, none.1, skips_other now row rows w.0))
    ]

-- ---- one after the other

-- the rows after so many were asked for, one after the other
abbrev pub asked_times : ℕ → ℕ → List ScheduleRow → List ScheduleRow
asked_times now zero rows = rows
asked_times now (suc n) rows = first_asked now (asked_times now n rows)

pub not_before : (now tries : ℕ) → now ≤ LAST_LOOK → now ≤ due_after now tries
not_before now tries within = omega arith

-- a row that is due stands before all that are asked for now
all-behind : (now : ℕ) (gone : List ScheduleRow) (row : ScheduleRow) (rows : List ScheduleRow) → now ≤ LAST_LOOK → row.due ≤ now
    → all_placed (map (again now) gone) (row ∷ rows) ≡ row ∷ all_placed (map (again now) gone) rows
all-behind now [] row rows within due = refl
all-behind now (g ∷ gone) row rows within due =
    let later = not_before now g.tries within in
    elim (lt_tells (due_after now g.tries) row.due) as (λ _. all_placed (map (again now) (g ∷ gone)) (row ∷ rows) ≡ row ∷ all_placed (map (again now) (g ∷ gone)) rows) [
      | inl w ↦ absurd (omega arith)
      | inr w ↦
          let behind : placed (again now g) (row ∷ rows) ≡ row ∷ placed (again now g) rows = rw w.0 refl in
          ap (all_placed (map (again now) gone)) behind ∙ all-behind now gone row (placed (again now g) rows) within due
    ]

all-last : (gone : List ScheduleRow) (row : ScheduleRow) (rows : List ScheduleRow) → all_placed (gone ++ row ∷ []) rows ≡ placed row (all_placed gone rows)
all-last [] row rows = refl
all-last (g ∷ gone) row rows = all-last gone row (placed g rows)

asked_one : (now : ℕ) (rows : List ScheduleRow) (n : ℕ) (d : ScheduleRow) → now ≤ LAST_LOOK → n < length rows → (get_or rows n d).due ≤ now
    → asked_times now n rows ≡ all_placed (map (again now) (take n rows)) (drop n rows)
    → asked_times now (suc n) rows ≡ all_placed (map (again now) (take (suc n) rows)) (drop (suc n) rows)
asked_one now rows n d within there due so_far =
    let row : ScheduleRow = get_or rows n d in
    let gone : List ScheduleRow = map (again now) (take n rows) in
    let front : drop n rows ≡ row ∷ drop (suc n) rows = drop-cons rows n d there in
    let more : take (suc n) rows ≡ take n rows ++ row ∷ [] = take-suc rows n d there in
    let stands : asked_times now n rows ≡ row ∷ all_placed gone (drop (suc n) rows) =
    so_far ∙ ap (all_placed gone) front ∙ all-behind now (take n rows) row (drop (suc n) rows) within due in
    let all : all_placed (map (again now) (take (suc n) rows)) (drop (suc n) rows) ≡ placed (again now row) (all_placed gone (drop (suc n) rows)) =
    ap (λ (xs : List ScheduleRow). all_placed (map (again now) xs) (drop (suc n) rows)) more
    ∙ ap (λ (xs : List ScheduleRow). all_placed xs (drop (suc n) rows)) (map-append (again now) (take n rows) (row ∷ []))
    ∙ all-last gone (again now row) (drop (suc n) rows) in
    ap (first_asked now) stands ∙ sym all

-- one more
asked_next : (now : ℕ) (rows : List ScheduleRow) (n : ℕ) → now ≤ LAST_LOOK → n < length rows → ((d : ScheduleRow) → (get_or rows n d).due ≤ now)
    → asked_times now n rows ≡ all_placed (map (again now) (take n rows)) (drop n rows)
    → asked_times now (suc n) rows ≡ all_placed (map (again now) (take (suc n) rows)) (drop (suc n) rows)
asked_next now rows n within there due so_far =
    elim rows as (λ (xs : List ScheduleRow). xs ≡ rows → asked_times now (suc n) rows ≡ all_placed (map (again now) (take (suc n) rows)) (drop (suc n) rows)) [
      | [] ↦ λ e. let none : length rows ≡ 0 = ap length (sym e) in absurd (omega arith)
      | d ∷ others ↦ λ e. asked_one now rows n d within there (due d) so_far
    ] refl

-- asking for the first ones, one after the other, leaves the others, and behind them those
pub asked-times : (now : ℕ) (rows : List ScheduleRow) (n : ℕ) → InOrder rows → now ≤ LAST_LOOK → n ≤ count_by (is_due now) rows
    → asked_times now n rows ≡ all_placed (map (again now) (take n rows)) (drop n rows)
asked-times now rows zero o within few = refl
asked-times now rows (suc n) o within few =
    let len = count_by-le-length (is_due now) rows in
    let there : n < length rows = omega arith in
    asked_next now rows n within there (λ d. due_in_front now 0 rows n d o (omega arith)) (asked-times now rows n o within (omega arith))

-- a look
pub left-is : (now most : ℕ) (rows : List ScheduleRow) → InOrder rows → now ≤ LAST_LOOK → asked_times now (min (count_by (is_due now) rows) most) rows ≡ left now most rows
left-is now most rows o within =
    let n : ℕ = min (count_by (is_due now) rows) most in
    asked-times now rows n o within (omega arith)
    ∙ ap (λ (xs : List ScheduleRow). all_placed (map (again now) xs) (drop n rows)) (sym (asked-front now most rows o))
    ∙ ap (λ (k : ℕ). all_placed (map (again now) (asked now most rows)) (drop k rows)) (sym (asked-long now most rows o))

-- ---- one row is asked for

pub rows-asked : (limit now : ℕ) (rows : List ScheduleRow) → AreRows limit rows → AreRows limit (first_asked now rows)
rows-asked limit now [] are = are
rows-asked limit now (row ∷ rows) are =
    let order = are.ordered in
    let all = are.within in
    rows-placed limit (again now row) rows are.apart.0 (omega arith)
    (record { ordered = earlier 0 row.due rows (omega arith) order.1; apart = are.apart.1; within = omega arith })

due_by_name : (b : Bool) (now : ℕ) (row : ScheduleRow) (found : Option ScheduleRow)
    → option_map (λ (r : ScheduleRow). r.due) (cond b (Some (again now row)) found)
    ≡ cond b (option_map (λ (old : ℕ). due_after now row.tries) (option_map (λ (r : ScheduleRow). r.due) (cond b (Some row) found))) (option_map (λ (r : ScheduleRow). r.due) (cond b (Some row) found))
due_by_name true now row found = refl
due_by_name false now row found = refl

-- when each name is due then
pub due-asked : (limit now : ℕ) (row : ScheduleRow) (rows : List ScheduleRow) (name : List ℕ) → AreRows limit (row ∷ rows)
    → due_of name (first_asked now (row ∷ rows)) ≡ cond (has_name name row) (option_map (λ (old : ℕ). due_after now row.tries) (due_of name (row ∷ rows))) (due_of name (row ∷ rows))
due-asked limit now row rows name are =
    ap (option_map (λ (r : ScheduleRow). r.due)) (find-placed name (again now row) rows are.apart.0)
    ∙ due_by_name (has_name name row) now row (find (has_name name) rows)
