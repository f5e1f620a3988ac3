-- Who is asked for at a look, and who is not again.
use Rattle.std.proofs.Common.{◌≡◌, ℕ, ◌+◌, ◌^◌, ◌<◌, ◌≤◌, min, Bool, true, false, cond, List, [], ◌∷◌, ◌++◌, length, map, take, drop, Option, Some, None, is_some, ◌||◌, zero, suc, refl, sym, ap, subst, ◌∙◌, arith, inl, inr}
use Rattle.std.specs.List.{count_by, filter, find, list_any}
use Rattle.std.specs.Option.{option_map, option_or}
use Rattle.std.proofs.lemmas.List.{take-append-drop}
use Rattle.std.proofs.lemmas.List.Folds.{find-append}
use Rattle.ask_schedule.specs.declared.row.ScheduleRow.{ScheduleRow}
use Rattle.ask_schedule.specs.declared.row.TheConstants.{LAST_LOOK, MOST_TRIES}
use Rattle.ask_schedule.specs.Laws.{IsAskedFor}
use Rattle.ask_schedule.specs.Places.{AreApart, InOrder}
use Rattle.ask_schedule.specs.Plan.{again, all_placed, asked, due_after, has_name, is_due, left, placed}
use Rattle.ask_schedule.proofs.Found.{any_found, find-placed, is_itself, none-filter, none_first, none_first_of, other_way, placed-apart, same_name}
use Rattle.ask_schedule.proofs.Looks.{asked-front, asked-long}
use Rattle.ask_schedule.proofs.Order.{counts_due, due_tells, is_due_by, skips_other}

-- ---- a name that is due

one_of : (name : List ℕ) (row : ScheduleRow) (rest : List ScheduleRow) → has_name name row ≡ true → IsAskedFor name (row ∷ rest)
one_of name row rest is = rw is refl

or_later : (b c : Bool) → c ≡ true → (b || c) ≡ true
or_later true c holds = refl
or_later false c holds = holds

due_first : (now most : ℕ) (row : ScheduleRow) (after : List ScheduleRow) → row.due ≤ now → 0 < most → IsAskedFor row.name (asked now most (row ∷ after))
due_first now zero row after due some = absurd (omega arith)
due_first now (suc most) row after due some = rw (is_due_by now row due) (one_of row.name row (take most (filter (is_due now) after)) (is_itself row.name))

pub due_is_asked : (now most : ℕ) (before after : List ScheduleRow) (row : ScheduleRow) → row.due ≤ now → count_by (is_due now) before < most
    → IsAskedFor row.name (asked now most (before ++ row ∷ after))
due_is_asked now most [] after row due few = due_first now most row after due few
due_is_asked now zero (b ∷ before) after row due few = absurd (omega arith)
due_is_asked now (suc most) (b ∷ before) after row due few =
    elim (due_tells now b) as (λ _. IsAskedFor row.name (asked now (suc most) ((b ∷ before) ++ row ∷ after))) [
      | inl w ↦
          let count = counts_due now b before w.0 in
          rw w.0 (or_later (has_name row.name b) _ (due_is_asked now most before after row due (omega arith)))
      | inr w ↦
          let count = skips_other now b before w.0 in
          rw w.0 (due_is_asked now (suc most) before after row due (omega arith))
    ]

-- ---- rows of two lists

-- no row of the one has a name that the other has
abbrev pub AllAbsent : List ScheduleRow → List ScheduleRow → Type 0
AllAbsent [] kept = Unit {0}
AllAbsent (row ∷ rows) kept = (find (has_name row.name) kept ≡ None) × AllAbsent rows kept

none_of_either : (test : ScheduleRow → Bool) (xs ys : List ScheduleRow) → find test (xs ++ ys) ≡ None → (find test xs ≡ None) × (find test ys ≡ None)
none_of_either test [] ys none = (refl, none)
none_of_either test (x ∷ xs) ys none =
    let split = none_first test x (xs ++ ys) none in
    let on = none_of_either test xs ys split.1 in
    (none_first_of test x xs split.0 on.0, on.1)

record AreSplit (xs ys : List ScheduleRow) : Type 0 where
  front : AreApart xs
  absent : AllAbsent xs ys
  back : AreApart ys

split-apart : (xs ys : List ScheduleRow) → AreApart (xs ++ ys) → AreSplit xs ys
split-apart [] ys apart = record { front = tt; absent = tt; back = apart }
split-apart (x ∷ xs) ys apart =
    let here = none_of_either (has_name x.name) xs ys apart.0 in
    let on = split-apart xs ys apart.1 in
    record { front = (here.0, on.front); absent = (here.1, on.absent); back = on.back }

-- after one was placed among the others
absent-on : (now : ℕ) (g : ScheduleRow) (gone kept : List ScheduleRow) → find (has_name g.name) gone ≡ None → find (has_name g.name) kept ≡ None → AllAbsent gone kept
    → AllAbsent gone (placed (again now g) kept)
absent-on now g [] kept none there absent = tt
absent-on now g (h ∷ gone) kept none there absent =
    let split = none_first (has_name g.name) h gone none in
    let fails : has_name h.name g ≡ false = other_way g.name h.name split.0 in
    (find-placed h.name (again now g) kept there ∙ rw fails absent.0, absent-on now g gone kept split.1 there absent.1)

all-apart : (now : ℕ) (gone kept : List ScheduleRow) → AreApart gone → AllAbsent gone kept → AreApart kept → AreApart (all_placed (map (again now) gone) kept)
all-apart now [] kept apart absent others = others
all-apart now (g ∷ gone) kept apart absent others =
    all-apart now gone (placed (again now g) kept) apart.1 (absent-on now g gone kept apart.0 absent.0 absent.1) (placed-apart (again now g) kept absent.0 others)

by_asked : (b : Bool) (now : ℕ) (g : ScheduleRow) (found kept : Option ScheduleRow) → (b ≡ true → found ≡ None)
    → option_or (option_map (again now) found) (cond b (Some (again now g)) kept) ≡ option_or (option_map (again now) (cond b (Some g) found)) kept
by_asked true now g found kept none = ap (λ (f : Option ScheduleRow). option_or (option_map (again now) f) (Some (again now g))) (none refl)
by_asked false now g found kept none = refl

find-asked : (now : ℕ) (name : List ℕ) (gone kept : List ScheduleRow) → AreApart gone → AllAbsent gone kept
    → find (has_name name) (all_placed (map (again now) gone) kept) ≡ option_or (option_map (again now) (find (has_name name) gone)) (find (has_name name) kept)
find-asked now name [] kept apart absent = refl
find-asked now name (g ∷ gone) kept apart absent =
    find-asked now name gone (placed (again now g) kept) apart.1 (absent-on now g gone kept apart.0 absent.0 absent.1)
    ∙ ap (option_or (option_map (again now) (find (has_name name) gone))) (find-placed name (again now g) kept absent.0)
    ∙ by_asked (has_name name g) now g (find (has_name name) gone) (find (has_name name) kept)
    (λ is. subst (λ (x : List ℕ). find (has_name x) gone ≡ None) (sym (same_name name g.name is)) apart.0)

-- ---- a name that was asked for

find-self : (before after : List ScheduleRow) (row : ScheduleRow) → AreApart (before ++ row ∷ after) → find (has_name row.name) (before ++ row ∷ after) ≡ Some row
find-self [] after row apart = rw (is_itself row.name) refl
find-self (b ∷ before) after row apart =
    let split = none_of_either (has_name b.name) before (row ∷ after) apart.0 in
    let fails : has_name row.name b ≡ false = other_way b.name row.name (none_first (has_name b.name) row after split.1).0 in
    rw fails (find-self before after row apart.1)

the_row : (gone kept : Option ScheduleRow) (row : ScheduleRow) → is_some gone ≡ true → option_or gone kept ≡ Some row → gone ≡ Some row
the_row None kept row some e = absurd cc
the_row (Some g) kept row some e = e

any_one : (b : Bool) (test : ScheduleRow → Bool) (n : ℕ) (rows : List ScheduleRow) → (b || list_any test (take n rows)) ≡ true → (list_any test (take n rows) ≡ true → list_any test rows ≡ true)
    → (b || list_any test rows) ≡ true
any_one true test n rows holds on = refl
any_one false test n rows holds on = on holds

any_taken : (test : ScheduleRow → Bool) (n : ℕ) (rows : List ScheduleRow) → list_any test (take n rows) ≡ true → list_any test rows ≡ true
any_taken test zero rows holds = absurd cc
any_taken test (suc n) [] holds = absurd cc
any_taken test (suc n) (row ∷ rows) holds = any_one (test row) test n rows holds (any_taken test n rows)

kept_or_not : (b : Bool) (name : List ℕ) (first : ScheduleRow) (rows : List ScheduleRow) → has_name name first ≡ false → list_any (has_name name) rows ≡ false
    → list_any (has_name name) (cond b (first ∷ rows) rows) ≡ false
kept_or_not true name first rows fails none = rw fails none
kept_or_not false name first rows fails none = none

not_first : (later : ℕ) (name : List ℕ) (first : ScheduleRow) (rows : List ScheduleRow) (row : ScheduleRow) (b : Bool) → has_name name first ≡ b → AreApart (first ∷ rows)
    → find (has_name name) (first ∷ rows) ≡ Some row → later < row.due
    → (find (has_name name) rows ≡ Some row → list_any (has_name name) (filter (is_due later) rows) ≡ false)
    → list_any (has_name name) (filter (is_due later) (first ∷ rows)) ≡ false
not_first later name first rows row true is apart found less on =
    let here : Some first ≡ Some row = rw is at found in
    let same : first ≡ row = cc in
    let none : find (has_name name) rows ≡ None = subst (λ (x : List ℕ). find (has_name x) rows ≡ None) (sym (same_name name first.name is)) apart.0 in
    let others : list_any (has_name name) (filter (is_due later) rows) ≡ false =
    any_found (has_name name) (filter (is_due later) rows) ∙ ap is_some (none-filter (has_name name) (is_due later) rows none) in
    elim (due_tells later first) as (λ _. list_any (has_name name) (filter (is_due later) (first ∷ rows)) ≡ false) [
      | inl w ↦ let due = ap (λ (r : ScheduleRow). r.due) same in absurd (omega arith)
      | inr w ↦ rw w.0 others
    ]
not_first later name first rows row false is apart found less on =
    let there : find (has_name name) rows ≡ Some row = rw is at found in
    kept_or_not (is_due later first) name first (filter (is_due later) rows) is (on there)

-- a name whose row isn't due is not among those that are
not_among : (later : ℕ) (name : List ℕ) (rows : List ScheduleRow) (row : ScheduleRow) → AreApart rows → find (has_name name) rows ≡ Some row → later < row.due
    → list_any (has_name name) (filter (is_due later) rows) ≡ false
not_among later name [] row apart found less = refl
not_among later name (first ∷ rows) row apart found less =
    not_first later name first rows row (has_name name first) refl apart found less (λ on. not_among later name rows row apart.1 on less)

pub not_again : (now later most more : ℕ) (before after : List ScheduleRow) (row : ScheduleRow) → InOrder (before ++ row ∷ after) → AreApart (before ++ row ∷ after)
    → IsAskedFor row.name (asked now most (before ++ row ∷ after)) → later < now + 2 ^ min row.tries MOST_TRIES → later < LAST_LOOK
    → IsAskedFor row.name (asked later more (left now most (before ++ row ∷ after))) → ⊥
not_again now later most more before after row o apart was less last again_asked =
    let rows : List ScheduleRow = before ++ row ∷ after in
    let gone : List ScheduleRow = asked now most rows in
    let kept : List ScheduleRow = drop (length gone) rows in
    let front : gone ≡ take (length gone) rows = asked-front now most rows o ∙ ap (λ (n : ℕ). take n rows) (sym (asked-long now most rows o)) in
    let all : rows ≡ gone ++ kept = sym (take-append-drop (length gone) rows) ∙ ap (λ (xs : List ScheduleRow). xs ++ kept) (sym front) in
    let split = split-apart gone kept (subst AreApart all apart) in
    let here : option_or (find (has_name row.name) gone) (find (has_name row.name) kept) ≡ Some row =
    sym (find-append (has_name row.name) gone kept) ∙ ap (find (has_name row.name)) (sym all) ∙ find-self before after row apart in
    let found : find (has_name row.name) gone ≡ Some row =
    the_row (find (has_name row.name) gone) (find (has_name row.name) kept) row (sym (any_found (has_name row.name) gone) ∙ was) here in
    let then_found : find (has_name row.name) (left now most rows) ≡ Some (again now row) =
    find-asked now row.name gone kept split.front split.absent
    ∙ ap (λ (f : Option ScheduleRow). option_or (option_map (again now) f) (find (has_name row.name) kept)) found in
    let late : later < due_after now row.tries = omega arith in
    let fails = not_among later row.name (left now most rows) (again now row) (all-apart now gone kept split.front split.absent split.back) then_found late in
    let holds = any_taken (has_name row.name) more (filter (is_due later) (left now most rows)) again_asked in
    absurd cc
