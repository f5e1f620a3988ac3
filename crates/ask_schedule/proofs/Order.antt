-- Rows in the order in which they are due.
use Rattle.std.proofs.Common.{◌≡◌, ℕ, ◌+◌, ◌<◌, ◌≤◌, ◌⊎◌, min, nat_lt, Bool, true, false, cond, List, [], ◌∷◌, length, map, get_or, take, zero, suc, refl, sym, ap, subst, ◌∙◌, zero-add, arith, inl, inr}
use Rattle.std.specs.List.{AllWithin, count_by, filter, insert}
use Rattle.std.specs.List.Sorted.{IsPartitionPoint, IsPartitionedBy}
use Rattle.std.proofs.lemmas.Bool.Decides.{leb_tells}
use Rattle.std.proofs.lemmas.List.Sums.{sum_by-cons}
use Rattle.ask_schedule.specs.declared.row.ScheduleRow.{ScheduleRow}
use Rattle.ask_schedule.specs.Places.{InOrder, InOrderFrom}
use Rattle.ask_schedule.specs.Plan.{is_due, placed, sooner, due_after}

-- ---- tests of looks

pub lt_tells : (a b : ℕ) → ((nat_lt a b ≡ true) × (a < b)) ⊎ ((nat_lt a b ≡ false) × (b ≤ a))
lt_tells a b =
    elim (leb_tells (suc a) b) as (λ _. ((nat_lt a b ≡ true) × (a < b)) ⊎ ((nat_lt a b ≡ false) × (b ≤ a))) [
      | inl w ↦ inl (w.0, omega arith)
      | inr w ↦ inr (w.0, omega arith)
    ]

pub due_tells : (now : ℕ) (row : ScheduleRow) → ((is_due now row ≡ true) × (row.due ≤ now)) ⊎ ((is_due now row ≡ false) × (now < row.due))
due_tells now row = leb_tells row.due now

pub due_by : (now : ℕ) (row : ScheduleRow) → is_due now row ≡ true → row.due ≤ now
due_by now row holds = elim (due_tells now row) as (λ _. row.due ≤ now) [ inl w ↦ w.1 | inr w ↦ absurd cc ]

pub is_due_by : (now : ℕ) (row : ScheduleRow) → row.due ≤ now → is_due now row ≡ true
is_due_by now row le = elim (due_tells now row) as (λ _. is_due now row ≡ true) [ inl w ↦ w.0 | inr w ↦ absurd (omega arith) ]

pub not_due_by : (now : ℕ) (row : ScheduleRow) → is_due now row ≡ false → now < row.due
not_due_by now row fails = elim (due_tells now row) as (λ _. now < row.due) [ inl w ↦ absurd cc | inr w ↦ w.1 ]

-- ---- the order

pub earlier : (low high : ℕ) (rows : List ScheduleRow) → low ≤ high → InOrderFrom high rows → InOrderFrom low rows
earlier low high [] le o = tt
earlier low high (row ∷ rows) le o = (omega (arith, o.0), o.1)

pub placed-ordered : (low : ℕ) (row : ScheduleRow) (rows : List ScheduleRow) → low ≤ row.due → InOrderFrom low rows → InOrderFrom low (placed row rows)
placed-ordered low row [] le o = (le, tt)
placed-ordered low row (first ∷ rows) le o =
    elim (lt_tells row.due first.due) as (λ _. InOrderFrom low (placed row (first ∷ rows))) [
      | inl w ↦ rw w.0 (le, (omega arith, o.1))
      | inr w ↦ rw w.0 (o.0, placed-ordered first.due row rows w.1 o.1)
    ]

pub length-placed : (row : ScheduleRow) (rows : List ScheduleRow) → length (placed row rows) ≡ length rows + 1
length-placed row [] = refl
length-placed row (first ∷ rows) =
    elim (lt_tells row.due first.due) as (λ _. length (placed row (first ∷ rows)) ≡ length (first ∷ rows) + 1) [
      | inl w ↦ rw w.0 (omega arith)
      | inr w ↦ rw w.0 (let on = length-placed row rows in omega arith)
    ]

kept-ordered : (test : ScheduleRow → Bool) (low : ℕ) (row : ScheduleRow) (rows : List ScheduleRow) (b : Bool) → low ≤ row.due → InOrderFrom row.due (filter test rows) → InOrderFrom low (cond b (row ∷ filter test rows) (filter test rows))
kept-ordered test low row rows true le o = (le, o)
kept-ordered test low row rows false le o = earlier low row.due (filter test rows) le o

pub filter-ordered : (test : ScheduleRow → Bool) (low : ℕ) (rows : List ScheduleRow) → InOrderFrom low rows → InOrderFrom low (filter test rows)
filter-ordered test low [] o = tt
filter-ordered test low (row ∷ rows) o =
    kept-ordered test low row rows (test row) o.0 (filter-ordered test row.due rows o.1)

pub sooner-ordered : (now tries low bound : ℕ) (rows : List ScheduleRow) → bound ≤ due_after now tries → bound ≤ low → InOrderFrom low rows → InOrderFrom bound (map (sooner now tries) rows)
sooner-ordered now tries low bound [] le under o = tt
sooner-ordered now tries low bound (row ∷ rows) le under o =
    let first = o.0 in
    (omega arith, sooner-ordered now tries row.due (min row.due (due_after now tries)) rows (omega arith) (omega arith) o.1)

-- ---- those that are due stand in front

suc_plus : (n : ℕ) → 1 + n ≡ suc n
suc_plus n = omega arith

pub counts_due : (now : ℕ) (row : ScheduleRow) (rows : List ScheduleRow) → is_due now row ≡ true → count_by (is_due now) (row ∷ rows) ≡ suc (count_by (is_due now) rows)
counts_due now row rows holds =
    let all : count_by (is_due now) (row ∷ rows) ≡ cond (is_due now row) 1 0 + count_by (is_due now) rows = sum_by-cons (λ (r : ScheduleRow). cond (is_due now r) 1 0) row rows in
    let one : cond (is_due now row) 1 0 ≡ 1 = rw holds refl in
    all ∙ ap (λ (k : ℕ). k + count_by (is_due now) rows) one ∙ suc_plus (count_by (is_due now) rows)

pub skips_other : (now : ℕ) (row : ScheduleRow) (rows : List ScheduleRow) → is_due now row ≡ false → count_by (is_due now) (row ∷ rows) ≡ count_by (is_due now) rows
skips_other now row rows fails =
    let all : count_by (is_due now) (row ∷ rows) ≡ cond (is_due now row) 1 0 + count_by (is_due now) rows = sum_by-cons (λ (r : ScheduleRow). cond (is_due now r) 1 0) row rows in
    let none : cond (is_due now row) 1 0 ≡ 0 = rw fails refl in
    all ∙ ap (λ (k : ℕ). k + count_by (is_due now) rows) none ∙ zero-add (count_by (is_due now) rows)

pub none_due : (now low : ℕ) (rows : List ScheduleRow) → now < low → InOrderFrom low rows → (filter (is_due now) rows ≡ []) × (count_by (is_due now) rows ≡ 0)
none_due now low [] less o = (refl, refl)
none_due now low (row ∷ rows) less o =
    let first = o.0 in
    let on = none_due now row.due rows (omega arith) o.1 in
    elim (due_tells now row) as (λ _. (filter (is_due now) (row ∷ rows) ≡ []) × (count_by (is_due now) (row ∷ rows) ≡ 0)) [
      | inl w ↦ absurd (omega arith)
      | inr w ↦ (rw w.0 on.0, skips_other now row rows w.0 ∙ on.1)
    ]

pub front_due : (now low : ℕ) (rows : List ScheduleRow) → InOrderFrom low rows → filter (is_due now) rows ≡ take (count_by (is_due now) rows) rows
front_due now low [] o = refl
front_due now low (row ∷ rows) o =
    elim (due_tells now row) as (λ _. filter (is_due now) (row ∷ rows) ≡ take (count_by (is_due now) (row ∷ rows)) (row ∷ rows)) [
      | inl w ↦
          subst (λ (k : ℕ). filter (is_due now) (row ∷ rows) ≡ take k (row ∷ rows)) (sym (counts_due now row rows w.0))
          (rw w.0 (ap (λ (xs : List ScheduleRow). row ∷ xs) (front_due now row.due rows o.1)))
      | inr w ↦
          let none = none_due now row.due rows w.1 o.1 in
          subst (λ (k : ℕ). filter (is_due now) (row ∷ rows) ≡ take k (row ∷ rows)) (sym (skips_other now row rows w.0 ∙ none.1)) (rw w.0 none.0)
    ]

-- a row is put behind those that are due no later
pub insert-placed : (row : ScheduleRow) (low : ℕ) (rows : List ScheduleRow) → InOrderFrom low rows → insert rows (count_by (is_due row.due) rows) row ≡ placed row rows
insert-placed row low [] o = refl
insert-placed row low (first ∷ rows) o =
    elim (lt_tells row.due first.due) as (λ _. insert (first ∷ rows) (count_by (is_due row.due) (first ∷ rows)) row ≡ placed row (first ∷ rows)) [
      | inl w ↦
          let none = none_due row.due first.due (first ∷ rows) w.1 (omega arith, o.1) in
          subst (λ (k : ℕ). insert (first ∷ rows) k row ≡ placed row (first ∷ rows)) (sym none.1) (rw w.0 refl)
      | inr w ↦
          let due : is_due row.due first ≡ true = is_due_by row.due first w.1 in
          let on = insert-placed row first.due rows o.1 in
          subst (λ (k : ℕ). insert (first ∷ rows) k row ≡ placed row (first ∷ rows)) (sym (counts_due row.due first rows due))
          (rw w.0 (ap (λ (xs : List ScheduleRow). first ∷ xs) on))
    ]

-- ---- how many are due is where the others begin

from_first : (P : ScheduleRow → Type 0) (row : ScheduleRow) (rows : List ScheduleRow) (low high : ℕ) → AllWithin P (row ∷ rows) (suc low) (suc high) → AllWithin P rows low high
from_first P row rows low high all = λ k d le less. all (suc k) d (omega arith) (omega arith)

pub counted : (now : ℕ) (rows : List ScheduleRow) (i : ℕ) → i ≤ length rows → IsPartitionPoint (λ y. is_due now y ≡ true) (λ y. is_due now y ≡ false) rows i → i ≡ count_by (is_due now) rows
counted now [] i within p = omega arith
counted now (row ∷ rows) zero within p =
    let first : is_due now row ≡ false = p.1 0 row (omega arith) (omega arith) in
    let on = counted now rows 0 (omega arith) (λ k d le less. absurd (omega arith), λ k d le less. p.1 (suc k) d (omega arith) (omega arith)) in
    omega (arith, on, skips_other now row rows first)
counted now (row ∷ rows) (suc i) within p =
    let first : is_due now row ≡ true = p.0 0 row (omega arith) (omega arith) in
    let on = counted now rows i (omega arith) (λ k d le less. p.0 (suc k) d (omega arith) (omega arith), λ k d le less. p.1 (suc k) d (omega arith) (omega arith)) in
    omega (arith, on, counts_due now row rows first)

-- no row is due before the look from which on they are
from_low : (low : ℕ) (rows : List ScheduleRow) (j : ℕ) (d : ScheduleRow) → InOrderFrom low rows → j < length rows → low ≤ (get_or rows j d).due
from_low low [] j d o within = absurd (omega arith)
from_low low (row ∷ rows) zero d o within = o.0
from_low low (row ∷ rows) (suc j) d o within = let on = from_low row.due rows j d o.1 (omega arith) in let first = o.0 in omega arith

rising : (low : ℕ) (rows : List ScheduleRow) (i j : ℕ) (d : ScheduleRow) → InOrderFrom low rows → i ≤ j → j < length rows → (get_or rows i d).due ≤ (get_or rows j d).due
rising low [] i j d o le within = absurd (omega arith)
rising low (row ∷ rows) zero zero d o le within = omega arith
rising low (row ∷ rows) zero (suc j) d o le within = from_low row.due rows j d o.1 (omega arith)
rising low (row ∷ rows) (suc i) zero d o le within = absurd (omega arith)
rising low (row ∷ rows) (suc i) (suc j) d o le within = rising row.due rows i j d o.1 (omega arith) (omega arith)

pub partitioned : (now : ℕ) (rows : List ScheduleRow) → InOrder rows → IsPartitionedBy (is_due now) rows
partitioned now rows o = λ i j d le within holds.
    let order = rising 0 rows i j d o le within in
    let last = due_by now (get_or rows j d) holds in
    is_due_by now (get_or rows i d) (omega arith)
