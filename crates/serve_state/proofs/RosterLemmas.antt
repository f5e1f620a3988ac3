-- Which numbers of clients are taken, and which of them is the least that is free.
use Rattle.std.proofs.Common.{◌≡◌, ℕ, zero, suc, ◌+◌, ◌<◌, ◌≤◌, List, [], ◌∷◌, Bool, true, false, cond, eqb, ltb, not, ◌||◌, Some, None, length, get_or, set, replicate, refl, sym, ap, ◌∙◌, add-one, get_or-set_other, arith, ltb-false, eqb-true, ne_eqb}
use Rattle.std.specs.List.{list_any, position, position_or_len}
use Rattle.std.proofs.lemmas.List.{length-set, length-replicate, get_or-replicate}
use Rattle.std.proofs.lemmas.List.Quantifiers.{position-Some}
use Rattle.std.proofs.lemmas.Grind.{get_or-set_at}
use Rattle.std.proofs.lemmas.Bool.{eqb-false, not-true, not-false, false≢true}
use Rattle.rows.specs.Rows.{remove_first}
use Rattle.gateway_state.specs.Connections.{same_dest}
use Rattle.gateway_state.specs.declared.event.Dest.{Dest}
use Rattle.gateway_state.specs.declared.event.Dest.TheVariants.{Session, Upstream}
use Rattle.serve_state.specs.Roster.{RowState, is_row, holds, IsLeastFree, IsFull, enough, none_taken, with_taken, taken_by}

pub set_none_taken : (most : ℕ) → set (replicate (most + 1) false) 0 true ≡ none_taken most
set_none_taken most = rw add-one refl

length-with_taken : (dest : Dest) (taken : List Bool) → length (with_taken dest taken) ≡ length taken
length-with_taken (Session n) taken = length-set taken n true
length-with_taken (Upstream n) taken = refl

length-taken_by : (rows : List RowState) (taken : List Bool) → length (taken_by rows taken) ≡ length taken
length-taken_by [] taken = refl
length-taken_by (row ∷ rows) taken =
    length-taken_by rows (with_taken row.dest taken) ∙ length-with_taken row.dest taken

pub length-taken : (rows : List RowState) (most : ℕ) → length (taken_by rows (none_taken most)) ≡ most + 1
length-taken rows most =
    let noted : length (taken_by rows (none_taken most)) ≡ length (none_taken most) = length-taken_by rows (none_taken most) in
    let all : length (replicate most false) ≡ most = length-replicate most false in
    omega arith

-- a number is taken once a connection is noted if it is that connection's, or was
with_taken_at : (dest : Dest) (taken : List Bool) (n : ℕ) → n < length taken → get_or (with_taken dest taken) n false ≡ (same_dest dest (Session n) || get_or taken n false)
with_taken_at (Session m) taken n within =
    elim (eqb m n) as (λ t. eqb m n ≡ t → get_or (set taken m true) n false ≡ (t || get_or taken n false)) [
      | true ↦ λ e. let same : m ≡ n = eqb-true m n e in get_or-set_at taken m n true false (sym same) (omega arith)
      | false ↦ λ e. get_or-set_other taken m n true false (λ same. eqb-false m n e (sym same))
    ] refl
with_taken_at (Upstream m) taken n within = refl

or_swap : (a b c : Bool) → (a || (b || c)) ≡ ((b || a) || c)
or_swap true true c = refl
or_swap true false c = refl
or_swap false true c = refl
or_swap false false c = refl

or_with_false : (a : Bool) → (a || false) ≡ a
or_with_false true = refl
or_with_false false = refl

or_with_true : (a : Bool) → (a || true) ≡ true
or_with_true true = refl
or_with_true false = refl

taken_by_at : (rows : List RowState) (taken : List Bool) (n : ℕ) → n < length taken → get_or (taken_by rows taken) n false ≡ (holds (Session n) rows || get_or taken n false)
taken_by_at [] taken n within = refl
taken_by_at (row ∷ rows) taken n within =
    let same_length : length (with_taken row.dest taken) ≡ length taken = length-with_taken row.dest taken in
    taken_by_at rows (with_taken row.dest taken) n (omega arith)
    ∙ ap (λ b. holds (Session n) rows || b) (with_taken_at row.dest taken n within)
    ∙ or_swap (holds (Session n) rows) (same_dest row.dest (Session n)) (get_or taken n false)

none_taken_at : (most n : ℕ) → 1 ≤ n → n ≤ most → get_or (none_taken most) n false ≡ false
none_taken_at most zero low high = absurd (omega arith)
none_taken_at most (suc k) low high = get_or-replicate most k false false (omega arith)

-- a number from 1 on is taken where a row holds it
taken_at : (rows : List RowState) (most n : ℕ) → 1 ≤ n → n ≤ most → get_or (taken_by rows (none_taken most)) n false ≡ holds (Session n) rows
taken_at rows most n low high =
    let all : length (replicate most false) ≡ most = length-replicate most false in
    taken_by_at rows (none_taken most) n (omega arith)
    ∙ ap (λ b. holds (Session n) rows || b) (none_taken_at most n low high)
    ∙ or_with_false (holds (Session n) rows)

zero_is_taken : (rows : List RowState) (most : ℕ) → get_or (taken_by rows (none_taken most)) 0 false ≡ true
zero_is_taken rows most = taken_by_at rows (none_taken most) 0 (omega arith) ∙ or_with_true (holds (Session 0) rows)

from_one : (rows : List RowState) (most n : ℕ) → get_or (taken_by rows (none_taken most)) n false ≡ false → 1 ≤ n
from_one rows most zero e = absurd (false≢true (sym e ∙ zero_is_taken rows most))
from_one rows most (suc k) e = omega arith

enough_within : (rows clients : ℕ) → enough rows clients ≤ clients
enough_within rows clients = omega arith

enough_is_all : (rows clients : ℕ) → enough rows clients ≤ rows → clients ≤ enough rows clients
enough_is_all rows clients h = omega arith

least_of : (rows : List RowState) (clients most n : ℕ) → most ≤ clients → position not (taken_by rows (none_taken most)) ≡ Some n → IsLeastFree clients n rows
least_of rows clients most n bound e =
    let found = position-Some not (taken_by rows (none_taken most)) n false e in
    let all : length (taken_by rows (none_taken most)) ≡ most + 1 = length-taken rows most in
    let within : n < length (taken_by rows (none_taken most)) = found.0 in
    let free : get_or (taken_by rows (none_taken most)) n false ≡ false = not-true _ found.1 in
    let low : 1 ≤ n = from_one rows most n free in
    record {
      low = low;
      high = omega arith;
      free = sym (taken_at rows most n low (omega arith)) ∙ free;
      least = λ m above below. sym (taken_at rows most m above (omega arith)) ∙ not-false _ (found.2 m below);
    }

-- the numbers that are noted
noted : (rows : List RowState) (most n : ℕ) (start taken : List Bool) → n ≡ most → start ≡ none_taken n → taken ≡ taken_by rows start → taken ≡ taken_by rows (none_taken most)
noted rows most n start taken same begins ends = ends ∙ ap (taken_by rows) (begins ∙ ap none_taken same)

-- the first number that isn't taken, of enough of them, is the least that no row holds
pub first_is_least : (rows : List RowState) (clients most n : ℕ) (start taken : List Bool) → most ≡ enough (length rows) clients → start ≡ none_taken most → taken ≡ taken_by rows start → Some n ≡ position not taken → IsLeastFree clients n rows
first_is_least rows clients most n start taken same begins ends e =
    least_of rows clients (enough (length rows) clients) n (enough_within (length rows) clients) (ap (position not) (sym (noted rows _ most start taken same begins ends)) ∙ sym e)

no_place : (a b : ℕ) → cond (ltb a b) (Some a) None ≡ None → b ≤ a
no_place a b e = elim (ltb a b) as (λ t. ltb a b ≡ t → cond t (Some a) None ≡ None → b ≤ a) [ true ↦ λ _ h. cc | false ↦ λ g _. ltb-false a b g ] refl e

all_taken : (taken : List Bool) (k : ℕ) → length taken ≤ position_or_len not taken → k < length taken → get_or taken k false ≡ true
all_taken [] k none within = absurd (omega arith)
all_taken (true ∷ taken) zero none within = refl
all_taken (true ∷ taken) (suc k) none within = all_taken taken k (omega arith) (omega arith)
all_taken (false ∷ taken) k none within = absurd (omega arith)

length-remove_first : {A : Type 0} (p : A → Bool) (rows : List A) → list_any p rows ≡ true → length (remove_first p rows) + 1 ≡ length rows
length-remove_first p [] e = cc
length-remove_first p (row ∷ rows) e =
    elim (p row) as (λ t. (t || list_any p rows) ≡ true → length (cond t rows (row ∷ remove_first p rows)) + 1 ≡ length (row ∷ rows))
    [ true ↦ λ _. omega arith | false ↦ λ h. let rest : length (remove_first p rows) + 1 ≡ length rows = length-remove_first p rows h in omega arith ] e

apart : (dest : Dest) (n k : ℕ) → n < k → same_dest dest (Session k) ≡ true → same_dest dest (Session n) ≡ false
apart (Session m) n k less e = let same : m ≡ k = eqb-true m k e in ne_eqb m n (λ other. omega arith)
apart (Upstream m) n k less e = refl

-- a lower number is held still once a row of this one is gone
still_held : (rows : List RowState) (n k : ℕ) → n < k → holds (Session n) rows ≡ true → holds (Session n) (remove_first (is_row (Session k)) rows) ≡ true
still_held [] n k less e = e
still_held (row ∷ rows) n k less e =
    elim (is_row (Session k) row) as (λ t. is_row (Session k) row ≡ t → holds (Session n) (cond t rows (row ∷ remove_first (is_row (Session k)) rows)) ≡ true) [
      | true ↦ λ here. sym (ap (λ b. b || holds (Session n) rows) (apart row.dest n k less here)) ∙ e
      | false ↦ λ _. elim (is_row (Session n) row) as (λ t. (t || holds (Session n) rows) ≡ true → (t || holds (Session n) (remove_first (is_row (Session k)) rows)) ≡ true)
          [ true ↦ λ _. refl | false ↦ λ h. still_held rows n k less h ] e
    ] refl

-- to hold so many numbers takes as many rows
all_held : (k : ℕ) (rows : List RowState) → IsFull k rows → k ≤ length rows
all_held zero rows full = omega arith
all_held (suc k) rows full =
    let rest : List RowState = remove_first (is_row (Session (suc k))) rows in
    let shorter : length rest + 1 ≡ length rows = length-remove_first (is_row (Session (suc k))) rows (full (suc k) (omega arith) (omega arith)) in
    let fits : k ≤ length rest = all_held k rest (λ m low high. still_held rows m (suc k) (omega arith) (full m low (omega arith))) in
    omega arith

full_of : (rows : List RowState) (clients most : ℕ) → (most ≤ length rows → clients ≤ most) → position not (taken_by rows (none_taken most)) ≡ None → IsFull clients rows
full_of rows clients most whole e =
    let all : length (taken_by rows (none_taken most)) ≡ most + 1 = length-taken rows most in
    let none : length (taken_by rows (none_taken most)) ≤ position_or_len not (taken_by rows (none_taken most)) = no_place _ _ e in
    let held : IsFull most rows = λ m low high. sym (taken_at rows most m low high) ∙ all_taken (taken_by rows (none_taken most)) m none (omega arith) in
    let bound : clients ≤ most = whole (all_held most rows held) in
    λ m low high. held m low (omega arith)

-- where enough numbers are taken all are
pub none_is_full : (rows : List RowState) (clients most : ℕ) (start taken : List Bool) → most ≡ enough (length rows) clients → start ≡ none_taken most → taken ≡ taken_by rows start → None ≡ position not taken → IsFull clients rows
none_is_full rows clients most start taken same begins ends e =
    full_of rows clients (enough (length rows) clients) (enough_is_all (length rows) clients) (ap (position not) (sym (noted rows _ most start taken same begins ends)) ∙ sym e)
