-- The search for a free number: what it finds, and that more tries than there are numbers that are had find nothing else.
use Rattle.std.proofs.Common.{◌≡◌, Bor, ℕ, zero, suc, ◌+◌, ◌<◌, ◌≤◌, List, [], ◌∷◌, length, Bool, true, false, not, ◌&&◌, ◌||◌, cond, eqb, nat_lt, Option, Some, None, filter, refl, sym, ap, ◌∙◌, true≢false, arith}
use Rattle.std.specs.Prelude.{◌↔◌, is_some, IfSome, IsNone}
use Rattle.std.specs.List.{list_any}
use Rattle.std.specs.Option.{option_copied, unwrap_or}
use Rattle.std.proofs.lemmas.Bool.{eqb-true, le-ltb, lt-ltb, ltb-false, ltb-true, ne_eqb, or_right}
use Rattle.link_table.specs.declared.counter.TheConstants.{LAST_NUMBER}
use Rattle.link_table.specs.declared.counter.Counter.{Counter}
use Rattle.link_table.specs.Counters.{began_again, begins_again, counter_of, first_free, next_number, past, turned}
use Rattle.link_table.specs.LinkRows.{LinkRows}
use Rattle.link_table.specs.Numbers.{fitting, fitting_one, is_had, next_of, numbers_had}

-- a row that is there, as it is seen
pub some_copied : {T : Type 0} (o : Option (Bor T)) → is_some o ≡ is_some (option_copied o)
some_copied None = refl
some_copied (Some row) = refl

-- ---- numbers that fit

pub fits : (number : ℕ) → number ≤ LAST_NUMBER → fitting number ≡ Some number
fits number in_range = ap (λ t. cond t None (Some number)) (le-ltb LAST_NUMBER number in_range)

pub fits_not : (number : ℕ) → LAST_NUMBER < number → fitting number ≡ None
fits_not number over = ap (λ t. cond t None (Some number)) (lt-ltb LAST_NUMBER number over)

-- a number that is given out is the one that was meant, and in range
pub fitted : (number given : ℕ) → fitting number ≡ Some given → (given ≡ number) × (number ≤ LAST_NUMBER)
fitted number given is = by (nat_lt LAST_NUMBER number) refl is
  where
    by : (over : Bool) → nat_lt LAST_NUMBER number ≡ over → cond over None (Some number) ≡ Some given → (given ≡ number) × (number ≤ LAST_NUMBER)
    by true over is = absurd cc
    by false over is = (cc, ltb-false LAST_NUMBER number over)

-- where none is given out, it isn't
pub unfitted : (number : ℕ) → fitting number ≡ None → LAST_NUMBER < number
unfitted number is = by (nat_lt LAST_NUMBER number) refl is
  where
    by : (over : Bool) → nat_lt LAST_NUMBER number ≡ over → cond over None (Some number) ≡ None → LAST_NUMBER < number
    by true over is = ltb-true LAST_NUMBER number over
    by false over is = absurd cc

-- one that may not be there is the same as the number that stands for none
pub fitting_found : (o : Option ℕ) (numbers : List ℕ) → fitting_one o ≡ fitting (unwrap_or o (past numbers))
fitting_found None numbers = sym (fits_not (past numbers) (omega arith))
fitting_found (Some number) numbers = refl

-- what is given out of a number that fits or doesn't
pub given_is : (given : Option ℕ) (number : ℕ) → given ≡ fitting number → IfSome given (λ n. n ≡ number)
given_is None number is = tt
given_is (Some n) number is = (fitted number n (sym is)).0

pub given_in_range : (given : Option ℕ) (number : ℕ) → given ≡ fitting number → IfSome given (λ n. n ≤ LAST_NUMBER)
given_in_range None number is = tt
given_in_range (Some n) number is = let both = fitted number n (sym is) in omega (arith, both.0, both.1)

pub given_none : (given : Option ℕ) (number : ℕ) → given ≡ fitting number → IsNone given ↔ (LAST_NUMBER < number)
given_none None number is = (λ _. unfitted number (sym is), λ _. refl)
given_none (Some n) number is = (λ none. absurd cc, λ over. let no : Some n ≡ None = is ∙ fits_not number over in absurd cc)

pub given_free : (had : ℕ → Bool) (given : Option ℕ) (number : ℕ) → given ≡ fitting number → had number ≡ false → IfSome given (λ n. had n ≡ false)
given_free had None number is free = tt
given_free had (Some n) number is free = ap had (fitted number n (sym is)).0 ∙ free

-- the next number, where a free one is searched for
pub searched_is_next : (reuses again : Bool) (first next : ℕ) (had : ℕ → Bool) (numbers : List ℕ) → (again || begins_again reuses next) ≡ true
    → fitting_one (first_free reuses first had (suc (length numbers)) next) ≡ fitting (next_number reuses first again had numbers next)
unfolding next_number
searched_is_next reuses again first next had numbers is =
    let found : Option ℕ = first_free reuses first had (suc (length numbers)) next in
    fitting_found found numbers ∙ ap (λ t. fitting (cond t (unwrap_or found (past numbers)) next)) (sym is)

pub next_searched : (counter : Counter) (reuses : Bool) (first server : ℕ) (rows : LinkRows) → (began_again counter rows.counters || begins_again reuses (counter_of counter rows.counters)) ≡ true
    → fitting_one (first_free reuses first (is_had counter server rows) (suc (length (numbers_had counter server rows))) (counter_of counter rows.counters)) ≡ fitting (next_of counter reuses first server rows)
next_searched counter reuses first server rows is =
    searched_is_next reuses (began_again counter rows.counters) first (counter_of counter rows.counters) (is_had counter server rows) (numbers_had counter server rows) is

-- and where none is
pub unsearched_is_next : (reuses again : Bool) (first next : ℕ) (had : ℕ → Bool) (numbers : List ℕ) → (again || begins_again reuses next) ≡ false
    → next ≡ next_number reuses first again had numbers next
unfolding next_number
unsearched_is_next reuses again first next had numbers is =
    let found : Option ℕ = first_free reuses first had (suc (length numbers)) next in
    ap (λ t. cond t (unwrap_or found (past numbers)) next) (sym is)

pub next_unsearched : (counter : Counter) (reuses : Bool) (first server : ℕ) (rows : LinkRows) → (began_again counter rows.counters || begins_again reuses (counter_of counter rows.counters)) ≡ false
    → counter_of counter rows.counters ≡ next_of counter reuses first server rows
next_unsearched counter reuses first server rows is =
    unsearched_is_next reuses (began_again counter rows.counters) first (counter_of counter rows.counters) (is_had counter server rows) (numbers_had counter server rows) is

-- then the counter didn't begin again
pub never_began : (again begins : Bool) → (again || begins) ≡ false → again ≡ false
never_began true begins is = is
never_began false begins is = refl

-- ---- a try

-- past the last number the search stays
stays_past : (reuses : Bool) (first next : ℕ) → LAST_NUMBER < turned reuses first next → LAST_NUMBER < turned reuses first (turned reuses first next + 1)
stays_past false first next over = omega (arith, over)
stays_past true first next over = by (turned true first next) over
  where
    by : (at : ℕ) → LAST_NUMBER < at → LAST_NUMBER < turned true first (at + 1)
    by at over = rw (ne_eqb (at + 1) (LAST_NUMBER + 1) (λ same. omega (arith, over, same))) (omega (arith, over))

module _ (reuses : Bool) (first : ℕ) (had : ℕ → Bool) where
  -- a number that is had
  pub had_one : (tries left next : ℕ) → tries ≡ suc left → had (turned reuses first next) ≡ true → first_free reuses first had tries next ≡ first_free reuses first had left (turned reuses first next + 1)
  unfolding first_free
  had_one tries left next is has =
      ap (λ n. first_free reuses first had n next) is
      ∙ ap (λ t. cond t (first_free reuses first had left (turned reuses first next + 1)) (Some (turned reuses first next))) has

  -- and one that isn't
  pub free_one : (tries left next : ℕ) → tries ≡ suc left → had (turned reuses first next) ≡ false → first_free reuses first had tries next ≡ Some (turned reuses first next)
  unfolding first_free
  free_one tries left next is lacks =
      ap (λ n. first_free reuses first had n next) is
      ∙ ap (λ t. cond t (first_free reuses first had left (turned reuses first next + 1)) (Some (turned reuses first next))) lacks

  -- once none is left to be looked at
  pub none_left : (tries next : ℕ) → tries ≡ 0 → fitting_one (first_free reuses first had tries next) ≡ None
  unfolding first_free
  none_left tries next is = ap (λ n. fitting_one (first_free reuses first had n next)) is

  -- past the last number there is none
  pub none_past : (tries next : ℕ) → LAST_NUMBER < turned reuses first next → fitting_one (first_free reuses first had tries next) ≡ None
  unfolding first_free
  none_past zero next over = refl
  none_past (suc tries) next over =
      by (had (turned reuses first next)) (none_past tries (turned reuses first next + 1) (stays_past reuses first next over))
    where
      by : (has : Bool) → fitting_one (first_free reuses first had tries (turned reuses first next + 1)) ≡ None
          → fitting_one (cond has (first_free reuses first had tries (turned reuses first next + 1)) (Some (turned reuses first next))) ≡ None
      by true rest = rest
      by false rest = fits_not (turned reuses first next) over

  found_with_more : (tries more next n : ℕ) → tries ≤ more → first_free reuses first had tries next ≡ Some n → first_free reuses first had more next ≡ Some n
  unfolding first_free
  found_with_more zero more next n few found = cc
  found_with_more (suc tries) zero next n few found = absurd (omega (arith, few))
  found_with_more (suc tries) (suc more) next n few found =
      by (had (turned reuses first next)) found (λ later. found_with_more tries more (turned reuses first next + 1) n (omega (arith, few)) later)
    where
      by : (has : Bool) → cond has (first_free reuses first had tries (turned reuses first next + 1)) (Some (turned reuses first next)) ≡ Some n
          → (first_free reuses first had tries (turned reuses first next + 1) ≡ Some n → first_free reuses first had more (turned reuses first next + 1) ≡ Some n)
          → cond has (first_free reuses first had more (turned reuses first next + 1)) (Some (turned reuses first next)) ≡ Some n
      by true found rest = rest found
      by false found rest = found

-- ---- how many numbers are looked at

module _ (reuses : Bool) (first : ℕ) where
  abbrev at : ℕ → ℕ
  at next = turned reuses first next

  -- so many are had from there on, and then one is free
  abbrev Finds : (ℕ → Bool) → ℕ → ℕ → Type 0
  Finds had zero next = had (at next) ≡ false
  Finds had (suc steps) next = (had (at next) ≡ true) × Finds had steps (at next + 1)

  -- from the same number it is the same
  same_steps : (had : ℕ → Bool) (a b x y : ℕ) → at x ≡ at y → Finds had a x → Finds had b y → a ≡ b
  same_steps had zero zero x y same one other = refl
  same_steps had zero (suc b) x y same one other = absurd (true≢false (sym other.0 ∙ ap had (sym same) ∙ one))
  same_steps had (suc a) zero x y same one other = absurd (true≢false (sym one.0 ∙ ap had same ∙ other))
  same_steps had (suc a) (suc b) x y same one other =
      ap suc (same_steps had a b (at x + 1) (at y + 1) (ap (λ n. at (n + 1)) same) one.1 other.1)

  -- all that are had but this one
  abbrev without : ℕ → (ℕ → Bool) → ℕ → Bool
  without a had n = not (eqb n a) && had n

  and_none : (b : Bool) → (b && false) ≡ false
  and_none true = refl
  and_none false = refl

  -- the number at which a search begins isn't met again before a free one is found
  still_finds : (had : ℕ → Bool) (all x steps y : ℕ) → Finds had all x → steps < all → Finds had steps y → Finds (without (at x) had) steps y
  still_finds had all x zero y whole less here = ap (λ t. not (eqb (at y) (at x)) && t) here ∙ and_none (not (eqb (at y) (at x)))
  still_finds had all x (suc steps) y whole less here =
      let other : eqb (at y) (at x) ≡ false =
      ne_eqb (at y) (at x) (λ same. let as_many = same_steps had (suc steps) all y x same here whole in omega (arith, as_many, less)) in (
        (λ i. not (other i) && here.0 i),
        still_finds had all x steps (at y + 1) whole (omega (arith, less)) here.1,
      )

abbrev member : ℕ → List ℕ → Bool
member n numbers = list_any (λ m. eqb m n) numbers

abbrev others : ℕ → List ℕ → List ℕ
others a numbers = filter (λ m. not (eqb m a)) numbers

kept_member : (n a : ℕ) (numbers : List ℕ) → eqb n a ≡ false → member n numbers ≡ true → member n (others a numbers) ≡ true
kept_member n a [] differ there = there
kept_member n a (m ∷ numbers) differ there = by (eqb m n) (eqb m a) refl refl there (λ later. kept_member n a numbers differ later)
  where
    by : (is out : Bool) → eqb m n ≡ is → eqb m a ≡ out → (is || member n numbers) ≡ true → (member n numbers ≡ true → member n (others a numbers) ≡ true)
        → member n (cond (not out) (m ∷ others a numbers) (others a numbers)) ≡ true
    by true true is out there rest = absurd (true≢false (sym out ∙ ap (λ x. eqb x a) (eqb-true m n is) ∙ differ))
    by true false is out there rest = ap (λ t. t || member n (others a numbers)) is
    by false true is out there rest = rest there
    by false false is out there rest = or_right (eqb m n) (member n (others a numbers)) (rest there)

no_more : (a : ℕ) (numbers : List ℕ) → length (others a numbers) ≤ length numbers
no_more a [] = omega arith
no_more a (m ∷ numbers) =
    let rest = no_more a numbers in
    elim (eqb m a) as (λ t. length (cond (not t) (m ∷ others a numbers) (others a numbers)) ≤ length (m ∷ numbers)) [ true ↦ omega (arith, rest) | false ↦ omega (arith, rest) ]

one_less : (a : ℕ) (numbers : List ℕ) → member a numbers ≡ true → length (others a numbers) < length numbers
one_less a [] there = absurd (true≢false (sym there))
one_less a (m ∷ numbers) there = by (eqb m a) there (λ later. one_less a numbers later)
  where
    by : (is : Bool) → (is || member a numbers) ≡ true → (member a numbers ≡ true → length (others a numbers) < length numbers)
        → length (cond (not is) (m ∷ others a numbers) (others a numbers)) < length (m ∷ numbers)
    by true there rest = let few = no_more a numbers in omega (arith, few)
    by false there rest = let less = rest there in omega (arith, less)

module _ (reuses : Bool) (first : ℕ) where
  parts : (a b : Bool) → (not a && b) ≡ true → (a ≡ false) × (b ≡ true)
  parts true b is = absurd (true≢false (sym is))
  parts false b is = (refl, is)

  -- before a free number is found, no more are had than there are
  few_steps : (had : ℕ → Bool) (numbers : List ℕ) → ((n : ℕ) → had n ≡ true → member n numbers ≡ true) → (steps x : ℕ) → Finds reuses first had steps x → steps ≤ length numbers
  few_steps had numbers theirs zero x finds = omega arith
  few_steps had numbers theirs (suc steps) x finds =
      let a : ℕ = turned reuses first x in
      let less = one_less a numbers (theirs a finds.0) in
      let rest : steps ≤ length (others a numbers) =
      few_steps (without reuses first a had) (others a numbers)
      (λ n has. let so = parts (eqb n a) (had n) has in kept_member n a numbers so.0 (theirs n so.1)) steps (a + 1)
      (still_finds reuses first had (suc steps) x steps (a + 1) finds (omega arith) finds.1) in
      omega (arith, less, rest)

  record FoundAfter (had : ℕ → Bool) (tries next : ℕ) : Type 0 where
    count : ℕ
    few : count < tries
    leads : Finds reuses first had count next

  finds_at : (had : ℕ → Bool) (tries next n : ℕ) → first_free reuses first had tries next ≡ Some n → FoundAfter had tries next
  unfolding first_free
  finds_at had zero next n found = absurd cc
  finds_at had (suc tries) next n found = by (had (turned reuses first next)) refl found (λ later. finds_at had tries (turned reuses first next + 1) n later)
    where
      by : (has : Bool) → had (turned reuses first next) ≡ has → cond has (first_free reuses first had tries (turned reuses first next + 1)) (Some (turned reuses first next)) ≡ Some n
          → (first_free reuses first had tries (turned reuses first next + 1) ≡ Some n → FoundAfter had tries (turned reuses first next + 1)) → FoundAfter had (suc tries) next
      by true is found rest = let more = rest found in record { count = suc more.count; few = let less = more.few in omega (arith, less); leads = (is, more.leads) }
      by false is found rest = record { count = zero; few = omega arith; leads = is }

  not_before : (had : ℕ → Bool) (tries next steps : ℕ) → first_free reuses first had tries next ≡ None → Finds reuses first had steps next → tries ≤ steps
  unfolding first_free
  not_before had zero next steps none finds = omega arith
  not_before had (suc tries) next zero none finds =
      let wrong : Some (turned reuses first next) ≡ None =
      sym (ap (λ t. cond t (first_free reuses first had tries (turned reuses first next + 1)) (Some (turned reuses first next))) finds) ∙ none in
      absurd cc
  not_before had (suc tries) next (suc steps) none finds =
      let rest =
      not_before had tries (turned reuses first next + 1) steps
      (sym (ap (λ t. cond t (first_free reuses first had tries (turned reuses first next + 1)) (Some (turned reuses first next))) finds.0) ∙ none) finds.1 in
      omega (arith, rest)

  -- one try more than there are numbers is enough
  pub enough_tries : (had : ℕ → Bool) (numbers : List ℕ) (tries next : ℕ) → ((n : ℕ) → had n ≡ true → list_any (λ m. eqb m n) numbers ≡ true) → length numbers < tries
      → first_free reuses first had tries next ≡ first_free reuses first had (suc (length numbers)) next
  enough_tries had numbers tries next theirs many = by (first_free reuses first had (suc (length numbers)) next) (first_free reuses first had tries next) refl refl
    where
      by : (few more : Option ℕ) → first_free reuses first had (suc (length numbers)) next ≡ few → first_free reuses first had tries next ≡ more → more ≡ few
      by (Some n) more found is = sym is ∙ found_with_more reuses first had (suc (length numbers)) tries next n (omega (arith, many)) found
      by None None none is = refl
      by None (Some n) none found =
          let late = finds_at had tries next n found in
          let least = not_before had (suc (length numbers)) next late.count none late.leads in
          let most = few_steps had numbers theirs late.count next late.leads in
          absurd (omega (arith, least, most))
