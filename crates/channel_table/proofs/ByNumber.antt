-- The numbers of sessions, and the nth session by rising number.
use Rattle.std.proofs.Common.{◌≡◌, ℕ, zero, suc, ◌+◌, ◌<◌, ◌≤◌, List, [], ◌∷◌, ◌++◌, length, get_or, slice_get, Bool, true, false, cond, ◌&&◌, ◌||◌, ◌==◌, nat_lt, Some, None, inl, inr, refl, sym, ap, ◌∙◌, arith}
use Rattle.std.specs.List.{count_by, filter, find, list_any}
use Rattle.std.proofs.lemmas.Bool.Decides.{nat_tests}
use Rattle.std.proofs.lemmas.List.Sums.{sum_by_push}
use Rattle.std.proofs.lemmas.Option.{get_or_from_slice_get, slice_get_cases, slice_get_within}
use Rattle.rows.specs.Rows.{change_first}
use Rattle.channel_table.specs.declared.sessions.Session.{Session}
use Rattle.channel_table.specs.SessionIndex.{AreNumbersOf}
use Rattle.channel_table.specs.Numbers.{is_lower, is_not_number, is_number, with_number}
use Rattle.channel_table.specs.Sessions.{has_below, is_not_numbered, is_numbered, nth_by_number}
use Rattle.named_rows.proofs.Keyed.{Each}
use Rattle.named_rows.proofs.Lists.{none_dropped}
use Rattle.channel_table.proofs.Rising.{counted_first}

module _ {A : Type 0} where
  -- those that pass one test and then another
  counted_among : (p q : A → Bool) (xs : List A) → count_by p (filter q xs) ≡ count_by (λ x. p x && q x) xs
  counted_among p q [] = refl
  counted_among p q (x ∷ xs) =
      let rest = counted_among p q xs in
      (elim (q x) as (λ t. count_by p (cond t (x ∷ filter q xs) (filter q xs)) ≡ cond (p x && t) 1 0 + count_by (λ y. p y && q y) xs) [
        | true ↦ counted_first p x (filter q xs) ∙ (elim (p x) as (λ t. cond t 1 0 + count_by p (filter q xs) ≡ cond (t && true) 1 0 + count_by (λ y. p y && q y) xs) [ true ↦ ap (λ n. 1 + n) rest | false ↦ ap (λ n. 0 + n) rest ])
        | false ↦ elim (p x) as (λ t. count_by p (filter q xs) ≡ cond (t && false) 1 0 + count_by (λ y. p y && q y) xs) [ true ↦ omega (arith, rest) | false ↦ omega (arith, rest) ]
      ])
      ∙ sym (counted_first (λ y. p y && q y) x xs)

  counted_behind : (p : A → Bool) (xs : List A) (y : A) → count_by p (xs ++ y ∷ []) ≡ cond (p y) 1 0 + count_by p xs
  counted_behind p xs y = omega (arith, sum_by_push (λ x. cond (p x) 1 0) xs y)

  none_counted : (p : A → Bool) (xs : List A) → list_any p xs ≡ false → count_by p xs ≡ 0
  none_counted p [] none = refl
  none_counted p (x ∷ xs) none =
      counted_first p x xs
      ∙ (elim (p x) as (λ t. (t || list_any p xs) ≡ false → cond t 1 0 + count_by p xs ≡ 0)
      [ true ↦ λ h. cc | false ↦ λ h. omega (arith, none_counted p xs h) ] none)

  each_kept : {P Q : A → Type 0} → ((x : A) → P x → Q x) → (xs : List A) → Each P xs → Each Q xs
  each_kept f [] each = tt
  each_kept f (x ∷ xs) each = (f x each.0, each_kept f xs each.1)

  find_alike : (p q : A → Bool) (xs : List A) → Each (λ x. p x ≡ q x) xs → find p xs ≡ find q xs
  find_alike p q [] alike = refl
  find_alike p q (x ∷ xs) alike = rw alike.0 (ap (λ rest. cond (q x) (Some x) rest) (find_alike p q xs alike.1))

  find_none : (p : A → Bool) (xs : List A) → Each (λ x. p x ≡ false) xs → find p xs ≡ None
  find_none p [] none = refl
  find_none p (x ∷ xs) none = rw none.0 (find_none p xs none.1)

counted_with : (test : ℕ → Bool) (x : ℕ) (xs : List ℕ) → count_by (is_number x) xs ≡ 0 → count_by test (with_number x xs) ≡ cond (test x) 1 0 + count_by test xs
counted_with test x [] new = counted_first test x []
counted_with test x (y ∷ ys) new =
    elim (y == x) as (λ t. cond t 1 0 + count_by (is_number x) ys ≡ 0 → count_by test (cond (nat_lt y x) (y ∷ with_number x ys) (cond t (y ∷ ys) (x ∷ y ∷ ys))) ≡ cond (test x) 1 0 + count_by test (y ∷ ys)) [
      | true ↦ λ h. absurd (omega (arith, h))
      | false ↦ λ h.
          let rest = counted_with test x ys (omega (arith, h)) in
          elim (nat_lt y x) as (λ t. count_by test (cond t (y ∷ with_number x ys) (x ∷ y ∷ ys)) ≡ cond (test x) 1 0 + count_by test (y ∷ ys))
          [ true ↦ omega (arith, rest, counted_first test y ys, counted_first test y (with_number x ys)) | false ↦ counted_first test x (y ∷ ys) ]
    ] (sym (counted_first (is_number x) y ys) ∙ new)

-- ---- the numbers of sessions, as these change

pub numbers_more : (numbers : List ℕ) (sessions : List Session) (session : Session) → AreNumbersOf numbers sessions → list_any (is_numbered session.number) sessions ≡ false
    → AreNumbersOf (with_number session.number numbers) (sessions ++ session ∷ [])
numbers_more numbers sessions session same new test =
    counted_with test session.number numbers (same (is_number session.number) ∙ none_counted (is_numbered session.number) sessions new)
    ∙ ap (λ n. cond (test session.number) 1 0 + n) (same test)
    ∙ sym (counted_behind (λ (s : Session). test s.number) sessions session)

pub numbers_less : (number : ℕ) (numbers : List ℕ) (sessions : List Session) → AreNumbersOf numbers sessions → AreNumbersOf (filter (is_not_number number) numbers) (filter (is_not_numbered number) sessions)
numbers_less number numbers sessions same test =
    counted_among test (is_not_number number) numbers ∙ same (λ n. test n && is_not_number number n) ∙ sym (counted_among (λ (s : Session). test s.number) (is_not_numbered number) sessions)

-- one that was added and taken out again
pub numbers_undone : (number : ℕ) (numbers : List ℕ) (sessions : List Session) → AreNumbersOf numbers sessions → list_any (is_numbered number) sessions ≡ false
    → AreNumbersOf (filter (is_not_number number) (with_number number numbers)) sessions
numbers_undone number numbers sessions same new test =
    let absent = same (is_number number) ∙ none_counted (is_numbered number) sessions new in
    let others : ℕ → Bool = λ n. test n && is_not_number number n in
    let apart : others number ≡ false = grind (arith, nat_tests) in
    let left : count_by others (with_number number numbers) ≡ count_by others numbers = omega (arith, counted_with others number numbers absent, ap (λ t. cond {A = ℕ} t 1 0) apart) in
    counted_among test (is_not_number number) (with_number number numbers) ∙ left
    ∙ same others ∙ sym (counted_among (λ (s : Session). test s.number) (is_not_numbered number) sessions)
    ∙ ap (count_by (λ (s : Session). test s.number)) (none_dropped (is_numbered number) sessions new)

module _ (p : Session → Bool) (change : Session → Session) (keeps : (s : Session) → (change s).number ≡ s.number) where
  counted_changed : (test : ℕ → Bool) (sessions : List Session) → count_by (λ (s : Session). test s.number) (change_first p change sessions) ≡ count_by (λ (s : Session). test s.number) sessions
  counted_changed test [] = refl
  counted_changed test (session ∷ sessions) =
      let own : Session → Bool = λ s. test s.number in
      (elim (p session) as (λ t. count_by own (cond t (change session ∷ sessions) (session ∷ change_first p change sessions)) ≡ cond (own session) 1 0 + count_by own sessions) [
        | true ↦ counted_first own (change session) sessions ∙ ap (λ n. cond (test n) 1 0 + count_by own sessions) (keeps session)
        | false ↦ counted_first own session (change_first p change sessions) ∙ ap (λ n. cond (own session) 1 0 + n) (counted_changed test sessions)
      ])
      ∙ sym (counted_first own session sessions)

  -- a change that leaves the numbers as they are
  pub numbers_kept : (numbers : List ℕ) (sessions : List Session) → AreNumbersOf numbers sessions → AreNumbersOf numbers (change_first p change sessions)
  numbers_kept numbers sessions same test = same test ∙ sym (counted_changed test sessions)

-- ---- the nth

-- what is lower than a number, and what is it, is lower than a higher one
lower_or_same : (a b : ℕ) (xs : List ℕ) → a < b → count_by (is_lower a) xs + count_by (is_number a) xs ≤ count_by (is_lower b) xs
lower_or_same a b [] below = omega arith
lower_or_same a b (x ∷ xs) below = let rest = lower_or_same a b xs below in grind (arith, nat_tests, rest, counted_first (is_lower a) x xs, counted_first (is_number a) x xs, counted_first (is_lower b) x xs)

lower_or_same_all : (a : ℕ) (xs : List ℕ) → count_by (is_lower a) xs + count_by (is_number a) xs ≤ length xs
lower_or_same_all a [] = omega arith
lower_or_same_all a (x ∷ xs) = let rest = lower_or_same_all a xs in grind (arith, nat_tests, rest, counted_first (is_lower a) x xs, counted_first (is_number a) x xs)

counted_at : (x : ℕ) (xs : List ℕ) (n : ℕ) → n < length xs → get_or xs n x ≡ x → 0 < count_by (is_number x) xs
counted_at x [] n within at = absurd (omega (arith, within))
counted_at x (y ∷ ys) zero within at = grind (arith, nat_tests, at, counted_first (is_number x) y ys)
counted_at x (y ∷ ys) (suc n) within at = let rest = counted_at x ys n (omega (arith, within)) at in omega (arith, rest, counted_first (is_number x) y ys)

past_end : (xs : List ℕ) (n : ℕ) → slice_get xs n ≡ None → length xs ≤ n
past_end xs n none =
    elim (slice_get_cases xs n).1 [
      | inl found ↦ absurd (let wrong : None ≡ Some found.0 = sym none ∙ found.2 in cc)
      | inr past ↦ past.0
    ]

-- each session is counted under its own number
each_counted : (sessions : List Session) → Each (λ s. 0 < count_by (is_numbered s.number) sessions) sessions
each_counted [] = tt
each_counted (session ∷ sessions) = (
  grind (arith, nat_tests, counted_first (is_numbered session.number) session sessions),
  each_kept (λ s there. omega (arith, there, counted_first (is_numbered s.number) session sessions)) sessions (each_counted sessions),
)

module _ (numbers : List ℕ) (sessions : List Session) (same : AreNumbersOf numbers sessions) (n : ℕ) where
  -- the session of the number that has n lower ones has n sessions below it, and no other has
  nth_alone : (number : ℕ) → 0 < count_by (is_number number) numbers → count_by (is_lower number) numbers ≡ n
      → (s : Session) → 0 < count_by (is_numbered s.number) sessions → is_numbered number s ≡ has_below n sessions s
  nth_alone number there lower s counted =
      let below = same (is_lower s.number) in
      let own = same (is_number s.number) in
      grind (arith, nat_tests, below, own, lower_or_same s.number number numbers, lower_or_same number s.number numbers)

  pub nth_found : (number : ℕ) → slice_get numbers n ≡ Some number → count_by (is_lower number) numbers ≡ n → find (is_numbered number) sessions ≡ nth_by_number n sessions
  nth_found number at lower =
      let there = counted_at number numbers n (slice_get_within numbers n number at) (get_or_from_slice_get numbers n number number at) in
      find_alike (is_numbered number) (has_below n sessions) sessions (each_kept (nth_alone number there lower) sessions (each_counted sessions))

  none_alone : length numbers ≤ n → (s : Session) → 0 < count_by (is_numbered s.number) sessions → has_below n sessions s ≡ false
  none_alone past s counted =
      let below = same (is_lower s.number) in
      let own = same (is_number s.number) in
      grind (arith, nat_tests, below, own, lower_or_same_all s.number numbers)

  pub nth_unfound : slice_get numbers n ≡ None → nth_by_number n sessions ≡ None
  nth_unfound none = find_none (has_below n sessions) sessions (each_kept (none_alone (past_end numbers n none)) sessions (each_counted sessions))
