-- Newcomers in the order of their laps.
use Rattle.std.proofs.Common.{◌≡◌, ℕ, ◌+◌, ◌<◌, ◌≤◌, ◌⊎◌, min, Bool, true, false, cond, List, [], ◌∷◌, ◌++◌, length, get_or, take, drop, zero, suc, refl, sym, ap, subst, ◌∙◌, zero-add, arith, inl, inr}
use Rattle.std.specs.List.{AllWithin, count_by, insert}
use Rattle.std.specs.List.Sorted.{IsPartitionPoint, IsPartitionedBy}
use Rattle.std.proofs.lemmas.Bool.Decides.{leb_tells}
use Rattle.std.proofs.lemmas.List.Sums.{sum_by-cons}
use Rattle.ask_schedule.specs.declared.row.Newcomer.{Newcomer}
use Rattle.ask_schedule.specs.Laws.{ahead_of, behind}
use Rattle.ask_schedule.specs.Queue.{Queue, is_by, lap_after, lined_up, without_first}
use Rattle.ask_schedule.specs.Turns.{InLapsFrom}
use Rattle.ask_schedule.proofs.Order.{lt_tells}

-- ---- tests of laps

pub by_tells : (lap : ℕ) (row : Newcomer) → ((is_by lap row ≡ true) × (row.lap ≤ lap)) ⊎ ((is_by lap row ≡ false) × (lap < row.lap))
by_tells lap row = leb_tells row.lap lap

pub by_lap : (lap : ℕ) (row : Newcomer) → is_by lap row ≡ true → row.lap ≤ lap
by_lap lap row holds = elim (by_tells lap row) as (λ _. row.lap ≤ lap) [ inl w ↦ w.1 | inr w ↦ absurd cc ]

is_by_lap : (lap : ℕ) (row : Newcomer) → row.lap ≤ lap → is_by lap row ≡ true
is_by_lap lap row le = elim (by_tells lap row) as (λ _. is_by lap row ≡ true) [ inl w ↦ w.0 | inr w ↦ absurd (omega arith) ]

-- ---- the order

pub from_earlier : (low high : ℕ) (rows : List Newcomer) → low ≤ high → InLapsFrom high rows → InLapsFrom low rows
from_earlier low high [] le o = tt
from_earlier low high (row ∷ rows) le o = (omega (arith, o.0), o.1)

pub lined-ordered : (low : ℕ) (row : Newcomer) (rows : List Newcomer) → low ≤ row.lap → InLapsFrom low rows → InLapsFrom low (lined_up row rows)
lined-ordered low row [] le o = (le, tt)
lined-ordered low row (first ∷ rows) le o =
    elim (lt_tells row.lap first.lap) as (λ _. InLapsFrom low (lined_up row (first ∷ rows))) [
      | inl w ↦ rw w.0 (le, (omega arith, o.1))
      | inr w ↦ rw w.0 (o.0, lined-ordered first.lap row rows w.1 o.1)
    ]

pub length-lined : (row : Newcomer) (rows : List Newcomer) → length (lined_up row rows) ≡ length rows + 1
length-lined row [] = refl
length-lined row (first ∷ rows) =
    elim (lt_tells row.lap first.lap) as (λ _. length (lined_up row (first ∷ rows)) ≡ length (first ∷ rows) + 1) [
      | inl w ↦ rw w.0 (omega arith)
      | inr w ↦ rw w.0 (let on = length-lined row rows in omega arith)
    ]

pub take-ordered : (low n : ℕ) (rows : List Newcomer) → InLapsFrom low rows → InLapsFrom low (take n rows)
take-ordered low zero rows o = tt
take-ordered low (suc n) [] o = tt
take-ordered low (suc n) (row ∷ rows) o = (o.0, take-ordered row.lap n rows o.1)

-- ---- those of no later lap stand in front

suc_plus : (n : ℕ) → 1 + n ≡ suc n
suc_plus n = omega arith

pub counts-one : (test : Newcomer → Bool) (row : Newcomer) (rows : List Newcomer) → test row ≡ true → count_by test (row ∷ rows) ≡ suc (count_by test rows)
counts-one test row rows holds =
    let all : count_by test (row ∷ rows) ≡ cond (test row) 1 0 + count_by test rows = sum_by-cons (λ (r : Newcomer). cond (test r) 1 0) row rows in
    let one : cond (test row) 1 0 ≡ 1 = rw holds refl in
    all ∙ ap (λ (k : ℕ). k + count_by test rows) one ∙ suc_plus (count_by test rows)

pub skips-one : (test : Newcomer → Bool) (row : Newcomer) (rows : List Newcomer) → test row ≡ false → count_by test (row ∷ rows) ≡ count_by test rows
skips-one test row rows fails =
    let all : count_by test (row ∷ rows) ≡ cond (test row) 1 0 + count_by test rows = sum_by-cons (λ (r : Newcomer). cond (test r) 1 0) row rows in
    let none : cond (test row) 1 0 ≡ 0 = rw fails refl in
    all ∙ ap (λ (k : ℕ). k + count_by test rows) none ∙ zero-add (count_by test rows)

none_by : (lap low : ℕ) (rows : List Newcomer) → lap < low → InLapsFrom low rows → count_by (is_by lap) rows ≡ 0
none_by lap low [] less o = refl
none_by lap low (row ∷ rows) less o =
    let first = o.0 in
    elim (by_tells lap row) as (λ _. count_by (is_by lap) (row ∷ rows) ≡ 0) [
      | inl w ↦ absurd (omega arith)
      | inr w ↦ skips-one (is_by lap) row rows w.0 ∙ none_by lap row.lap rows w.1 o.1
    ]

-- a row is put behind those of no later lap
pub insert-lined : (row : Newcomer) (low : ℕ) (rows : List Newcomer) → InLapsFrom low rows → insert rows (count_by (is_by row.lap) rows) row ≡ lined_up row rows
insert-lined row low [] o = refl
insert-lined row low (first ∷ rows) o =
    elim (lt_tells row.lap first.lap) as (λ _. insert (first ∷ rows) (count_by (is_by row.lap) (first ∷ rows)) row ≡ lined_up row (first ∷ rows)) [
      | inl w ↦
          let none = none_by row.lap first.lap (first ∷ rows) w.1 (omega arith, o.1) in
          subst (λ (k : ℕ). insert (first ∷ rows) k row ≡ lined_up row (first ∷ rows)) (sym none) (rw w.0 refl)
      | inr w ↦
          let by : is_by row.lap first ≡ true = is_by_lap row.lap first w.1 in
          let on = insert-lined row first.lap rows o.1 in
          subst (λ (k : ℕ). insert (first ∷ rows) k row ≡ lined_up row (first ∷ rows)) (sym (counts-one (is_by row.lap) first rows by))
          (rw w.0 (ap (λ (xs : List Newcomer). first ∷ xs) on))
    ]

-- ---- how many these are is where the others begin

pub laps-counted : (lap : ℕ) (rows : List Newcomer) (i : ℕ) → i ≤ length rows → IsPartitionPoint (λ y. is_by lap y ≡ true) (λ y. is_by lap y ≡ false) rows i → i ≡ count_by (is_by lap) rows
laps-counted lap [] i within p = omega arith
laps-counted lap (row ∷ rows) zero within p =
    let first : is_by lap row ≡ false = p.1 0 row (omega arith) (omega arith) in
    let on = laps-counted lap rows 0 (omega arith) (λ k d le less. absurd (omega arith), λ k d le less. p.1 (suc k) d (omega arith) (omega arith)) in
    omega (arith, on, skips-one (is_by lap) row rows first)
laps-counted lap (row ∷ rows) (suc i) within p =
    let first : is_by lap row ≡ true = p.0 0 row (omega arith) (omega arith) in
    let on = laps-counted lap rows i (omega arith) (λ k d le less. p.0 (suc k) d (omega arith) (omega arith), λ k d le less. p.1 (suc k) d (omega arith) (omega arith)) in
    omega (arith, on, counts-one (is_by lap) row rows first)

from_low : (low : ℕ) (rows : List Newcomer) (j : ℕ) (d : Newcomer) → InLapsFrom low rows → j < length rows → low ≤ (get_or rows j d).lap
from_low low [] j d o within = absurd (omega arith)
from_low low (row ∷ rows) zero d o within = o.0
from_low low (row ∷ rows) (suc j) d o within = let on = from_low row.lap rows j d o.1 (omega arith) in let first = o.0 in omega arith

rising : (low : ℕ) (rows : List Newcomer) (i j : ℕ) (d : Newcomer) → InLapsFrom low rows → i ≤ j → j < length rows → (get_or rows i d).lap ≤ (get_or rows j d).lap
rising low [] i j d o le within = absurd (omega arith)
rising low (row ∷ rows) zero zero d o le within = omega arith
rising low (row ∷ rows) zero (suc j) d o le within = from_low row.lap rows j d o.1 (omega arith)
rising low (row ∷ rows) (suc i) zero d o le within = absurd (omega arith)
rising low (row ∷ rows) (suc i) (suc j) d o le within = rising row.lap rows i j d o.1 (omega arith) (omega arith)

pub laps-partitioned : (lap : ℕ) (rows : List Newcomer) → InLapsFrom 0 rows → IsPartitionedBy (is_by lap) rows
laps-partitioned lap rows o = λ i j d le within holds.
    let order = rising 0 rows i j d o le within in
    let last = by_lap lap (get_or rows j d) holds in
    is_by_lap lap (get_or rows i d) (omega arith)

-- ---- rows are taken

pub lap-on : (lap n : ℕ) (rows : List Newcomer) → lap_after (lap_after lap (take n rows)) (take 1 (drop n rows)) ≡ lap_after lap (take (suc n) rows)
lap-on lap zero [] = refl
lap-on lap zero (row ∷ rows) = refl
lap-on lap (suc n) [] = refl
lap-on lap (suc n) (row ∷ rows) = lap-on row.lap n rows

drop-on : (n : ℕ) (rows : List Newcomer) → drop 1 (drop n rows) ≡ drop (suc n) rows
drop-on zero rows = refl
drop-on (suc n) [] = refl
drop-on (suc n) (row ∷ rows) = drop-on n rows

-- so many were taken, one after the other
abbrev pub taken_times : ℕ → Queue → Queue
taken_times zero queue = queue
taken_times (suc n) queue = without_first 1 (taken_times n queue)

taken-times : (n : ℕ) (queue : Queue) → taken_times n queue ≡ without_first n queue
taken-times zero queue = refl
taken-times (suc n) queue =
    let made : ℕ → List Newcomer → Queue = λ lap rows. record queue { lap = lap; rows = rows } in
    ap (without_first 1) (taken-times n queue)
    ∙ ap (λ (lap : ℕ). made lap (drop 1 (drop n queue.rows))) (lap-on queue.lap n queue.rows)
    ∙ ap (made (lap_after queue.lap (take (suc n) queue.rows))) (drop-on n queue.rows)

take_none : (n : ℕ) → let none : List Newcomer = [] in take n none ≡ none
take_none zero = refl
take_none (suc n) = refl

drop_none : (n : ℕ) → let none : List Newcomer = [] in drop n none ≡ none
drop_none zero = refl
drop_none (suc n) = refl

take-most : (most : ℕ) (rows : List Newcomer) → take (min (length rows) most) rows ≡ take most rows
take-most zero rows = let none : min (length rows) 0 ≡ 0 = omega arith in subst (λ (k : ℕ). take k rows ≡ take 0 rows) (sym none) refl
take-most (suc most) [] = take_none (min 0 (suc most))
take-most (suc most) (row ∷ rows) =
    let one : min (length (row ∷ rows)) (suc most) ≡ suc (min (length rows) most) = omega arith in
    subst (λ (k : ℕ). take k (row ∷ rows) ≡ take (suc most) (row ∷ rows)) (sym one) (ap (λ (xs : List Newcomer). row ∷ xs) (take-most most rows))

drop-most : (most : ℕ) (rows : List Newcomer) → drop (min (length rows) most) rows ≡ drop most rows
drop-most zero rows = let none : min (length rows) 0 ≡ 0 = omega arith in subst (λ (k : ℕ). drop k rows ≡ drop 0 rows) (sym none) refl
drop-most (suc most) [] = drop_none (min 0 (suc most))
drop-most (suc most) (row ∷ rows) =
    let one : min (length (row ∷ rows)) (suc most) ≡ suc (min (length rows) most) = omega arith in
    subst (λ (k : ℕ). drop k (row ∷ rows) ≡ drop (suc most) (row ∷ rows)) (sym one) (drop-most most rows)

-- all that there are, where there are fewer
pub taken-all : (most : ℕ) (queue : Queue) → taken_times (min (length queue.rows) most) queue ≡ without_first most queue
taken-all most queue =
    let made : ℕ → List Newcomer → Queue = λ lap rows. record queue { lap = lap; rows = rows } in
    let n : ℕ = min (length queue.rows) most in
    taken-times n queue
    ∙ ap (λ (xs : List Newcomer). made (lap_after queue.lap xs) (drop n queue.rows)) (take-most most queue.rows)
    ∙ ap (made (lap_after queue.lap (take most queue.rows))) (drop-most most queue.rows)

-- ---- where a row is put

all_later : (lap low : ℕ) (rows : List Newcomer) → lap < low → InLapsFrom low rows → (ahead_of lap rows ≡ []) × (behind lap rows ≡ rows)
all_later lap low [] less o = (refl, refl)
all_later lap low (row ∷ rows) less o =
    let first = o.0 in
    let on = all_later lap row.lap rows (omega arith) o.1 in
    elim (by_tells lap row) as (λ _. (ahead_of lap (row ∷ rows) ≡ []) × (behind lap (row ∷ rows) ≡ row ∷ rows)) [
      | inl w ↦ absurd (omega arith)
      | inr w ↦ (rw w.0 on.0, rw w.0 (ap (λ (xs : List Newcomer). row ∷ xs) on.1))
    ]

pub lined-between : (row : Newcomer) (low : ℕ) (rows : List Newcomer) → InLapsFrom low rows → lined_up row rows ≡ ahead_of row.lap rows ++ row ∷ behind row.lap rows
lined-between row low [] o = refl
lined-between row low (first ∷ rows) o =
    elim (lt_tells row.lap first.lap) as (λ _. lined_up row (first ∷ rows) ≡ ahead_of row.lap (first ∷ rows) ++ row ∷ behind row.lap (first ∷ rows)) [
      | inl w ↦
          let all = all_later row.lap first.lap (first ∷ rows) w.1 (omega arith, o.1) in
          let ends : ahead_of row.lap (first ∷ rows) ++ row ∷ behind row.lap (first ∷ rows) ≡ row ∷ first ∷ rows =
          ap (λ (xs : List Newcomer). xs ++ row ∷ behind row.lap (first ∷ rows)) all.0 ∙ ap (λ (xs : List Newcomer). row ∷ xs) all.1 in
          let front : lined_up row (first ∷ rows) ≡ row ∷ first ∷ rows = rw w.0 refl in
          front ∙ sym ends
      | inr w ↦
          let by : is_by row.lap first ≡ true = is_by_lap row.lap first w.1 in
          let on = lined-between row first.lap rows o.1 in
          rw w.0 (rw by (ap (λ (xs : List Newcomer). first ∷ xs) on))
    ]
