-- Rows as they are found by their names.
use Rattle.std.proofs.Common.{◌≡◌, ℕ, ◌<◌, ◌≤◌, min, nat_le, if◌then◌else◌, Bool, true, false, not, cond, bytes_eq, List, [], ◌∷◌, length, map, get_or, Option, Some, None, is_some, ◌||◌, zero, suc, refl, sym, ap, subst, ◌∙◌, arith, inl, inr}
use Rattle.std.specs.Cmp.Lexicographic.{bytes_decides}
use Rattle.std.specs.List.{filter, find, list_any, remove}
use Rattle.std.specs.Option.{option_map}
use Rattle.std.proofs.lemmas.Bool.Decides.{leb_tells}
use Rattle.std.proofs.lemmas.List.{length-map}
use Rattle.std.proofs.lemmas.List.Sums.{count_by-le-length, length-filter}
use Rattle.ask_schedule.specs.declared.row.ScheduleRow.{ScheduleRow}
use Rattle.ask_schedule.specs.Places.{AreApart, AreRows, due_of}
use Rattle.ask_schedule.specs.declared.schedule.Added.{Added}
use Rattle.ask_schedule.specs.declared.schedule.Added.TheVariants.{Full, Known, New}
use Rattle.ask_schedule.specs.Plan.{Plan, answer_to, due_after, fresh, has_name, lacks_name, placed, sooner}
use Rattle.ask_schedule.proofs.Order.{filter-ordered, length-placed, lt_tells, placed-ordered, sooner-ordered}

-- ---- names

pub same_name : (a b : List ℕ) → bytes_eq a b ≡ true → a ≡ b
same_name a b = (bytes_decides a b).0

pub is_itself : (a : List ℕ) → bytes_eq a a ≡ true
is_itself a = (bytes_decides a a).1 refl

turned : (a b : List ℕ) (t : Bool) → bytes_eq b a ≡ t → bytes_eq a b ≡ false → t ≡ false
turned a b true holds fails =
    let same : b ≡ a = same_name b a holds in
    let again : bytes_eq a b ≡ true = subst (λ (x : List ℕ). bytes_eq a x ≡ true) (sym same) (is_itself a) in
    absurd cc
turned a b false holds fails = refl

pub other_way : (a b : List ℕ) → bytes_eq a b ≡ false → bytes_eq b a ≡ false
other_way a b fails = turned a b (bytes_eq b a) refl fails

either_way : (a b : List ℕ) (p q : Bool) → bytes_eq a b ≡ p → bytes_eq b a ≡ q → p ≡ q
either_way a b true true e f = refl
either_way a b false false e f = refl
either_way a b true false e f = turned b a true e f
either_way a b false true e f = sym (turned a b true f e)

pub same_either_way : (a b : List ℕ) → bytes_eq a b ≡ bytes_eq b a
same_either_way a b = either_way a b (bytes_eq a b) (bytes_eq b a) refl refl

-- ---- what is found, and what isn't

none_by : (b : Bool) (row : ScheduleRow) (rest : Option ScheduleRow) → cond b (Some row) rest ≡ None → (b ≡ false) × (rest ≡ None)
none_by true row rest e = absurd cc
none_by false row rest e = (refl, e)

-- the first row doesn't pass, and none of the others
pub none_first : (test : ScheduleRow → Bool) (row : ScheduleRow) (rows : List ScheduleRow) → find test (row ∷ rows) ≡ None → (test row ≡ false) × (find test rows ≡ None)
none_first test row rows e = none_by (test row) row (find test rows) e

pub none_first_of : (test : ScheduleRow → Bool) (row : ScheduleRow) (rows : List ScheduleRow) → test row ≡ false → find test rows ≡ None → find test (row ∷ rows) ≡ None
none_first_of test row rows fails none = rw fails none

-- with one row more
by_names : (p q : Bool) (row first : ScheduleRow) (rest : Option ScheduleRow) → (p ≡ true → q ≡ true → ⊥) → cond p (Some first) (cond q (Some row) rest) ≡ cond q (Some row) (cond p (Some first) rest)
by_names true true row first rest apart = absurd (apart refl refl)
by_names true false row first rest apart = refl
by_names false true row first rest apart = refl
by_names false false row first rest apart = refl

not_both : (name : List ℕ) (row first : ScheduleRow) → has_name row.name first ≡ false → has_name name first ≡ true → has_name name row ≡ true → ⊥
not_both name row first fails at_first at_row =
    let one : name ≡ first.name = same_name name first.name at_first in
    let two : name ≡ row.name = same_name name row.name at_row in
    let same : row.name ≡ first.name = sym two ∙ one in
    let holds : bytes_eq row.name first.name ≡ true = subst (λ (x : List ℕ). bytes_eq row.name x ≡ true) same (is_itself row.name) in
    absurd cc

pub find-placed : (name : List ℕ) (row : ScheduleRow) (rows : List ScheduleRow) → find (has_name row.name) rows ≡ None
    → find (has_name name) (placed row rows) ≡ cond (has_name name row) (Some row) (find (has_name name) rows)
find-placed name row [] none = refl
find-placed name row (first ∷ rows) none =
    let split = none_first (has_name row.name) first rows none in
    elim (lt_tells row.due first.due) as (λ _. find (has_name name) (placed row (first ∷ rows)) ≡ cond (has_name name row) (Some row) (find (has_name name) (first ∷ rows))) [
      | inl w ↦ rw w.0 refl
      | inr w ↦
          rw w.0 (
          ap (λ (rest : Option ScheduleRow). cond (has_name name first) (Some first) rest) (find-placed name row rows split.1)
          ∙ by_names (has_name name first) (has_name name row) row first (find (has_name name) rows) (not_both name row first split.0)
          )
    ]

pub placed-apart : (row : ScheduleRow) (rows : List ScheduleRow) → find (has_name row.name) rows ≡ None → AreApart rows → AreApart (placed row rows)
placed-apart row [] none apart = (refl, tt)
placed-apart row (first ∷ rows) none apart =
    let split = none_first (has_name row.name) first rows none in
    elim (lt_tells row.due first.due) as (λ _. AreApart (placed row (first ∷ rows))) [
      | inl w ↦ rw w.0 (none, apart)
      | inr w ↦
          let fails : has_name first.name row ≡ false = other_way row.name first.name split.0 in
          let there : find (has_name first.name) (placed row rows) ≡ None = find-placed first.name row rows split.1 ∙ rw fails apart.0 in
          rw w.0 (there, placed-apart row rows split.1 apart.1)
    ]

-- ---- without a name

found_by : (b : Bool) (test : ScheduleRow → Bool) (row : ScheduleRow) (rows : List ScheduleRow) → test row ≡ false → find test rows ≡ None → find test (cond b (row ∷ rows) rows) ≡ None
found_by true test row rows fails none = rw fails none
found_by false test row rows fails none = none

-- what no row passes, none of some of them does
pub none-filter : (test keep : ScheduleRow → Bool) (rows : List ScheduleRow) → find test rows ≡ None → find test (filter keep rows) ≡ None
none-filter test keep [] none = refl
none-filter test keep (row ∷ rows) none =
    let split = none_first test row rows none in
    found_by (keep row) test row (filter keep rows) split.0 (none-filter test keep rows split.1)

apart_by : (b : Bool) (row : ScheduleRow) (rows : List ScheduleRow) → find (has_name row.name) rows ≡ None → AreApart rows → AreApart (cond b (row ∷ rows) rows)
apart_by true row rows none apart = (none, apart)
apart_by false row rows none apart = apart

pub filter-apart : (keep : ScheduleRow → Bool) (rows : List ScheduleRow) → AreApart rows → AreApart (filter keep rows)
filter-apart keep [] apart = tt
filter-apart keep (row ∷ rows) apart =
    apart_by (keep row) row (filter keep rows) (none-filter (has_name row.name) keep rows apart.0) (filter-apart keep rows apart.1)

-- p: the row has the name that goes; q: it has the name that is looked for; b: these are the same name
by_going : (p q b : Bool) (row : ScheduleRow) (rows : List ScheduleRow) (test : ScheduleRow → Bool) (rest : Option ScheduleRow) → test row ≡ q → find test rows ≡ cond b None rest
    → (p ≡ true → q ≡ true → b ≡ true) → (q ≡ true → b ≡ true → p ≡ true)
    → find test (cond (not p) (row ∷ rows) rows) ≡ cond b None (cond q (Some row) rest)
by_going true true true row rows test rest is on one two = on
by_going true true false row rows test rest is on one two = absurd (let e : false ≡ true = one refl refl in cc)
by_going true false true row rows test rest is on one two = on
by_going true false false row rows test rest is on one two = on
by_going false true true row rows test rest is on one two = absurd (let e : false ≡ true = two refl refl in cc)
by_going false true false row rows test rest is on one two = rw is refl
by_going false false true row rows test rest is on one two = rw is on
by_going false false false row rows test rest is on one two = rw is on

nothing : (b : Bool) → let none : Option ScheduleRow = None in none ≡ cond b none none
nothing true = refl
nothing false = refl

pub find-without : (name other : List ℕ) (rows : List ScheduleRow) → find (has_name other) (filter (lacks_name name) rows) ≡ cond (bytes_eq name other) None (find (has_name other) rows)
find-without name other [] = nothing (bytes_eq name other)
find-without name other (row ∷ rows) =
    by_going (has_name name row) (has_name other row) (bytes_eq name other) row (filter (lacks_name name) rows) (has_name other) (find (has_name other) rows) refl (find-without name other rows)
    (λ p q. subst (λ (x : List ℕ). bytes_eq name x ≡ true) (same_name name row.name p ∙ sym (same_name other row.name q)) (is_itself name))
    (λ q b. subst (λ (x : List ℕ). bytes_eq name x ≡ true) (same_name name other b ∙ same_name other row.name q) (is_itself name))

-- where none has the name all stay
pub filter-none : (name : List ℕ) (rows : List ScheduleRow) → find (has_name name) rows ≡ None → filter (lacks_name name) rows ≡ rows
filter-none name [] none = refl
filter-none name (row ∷ rows) none =
    let split = none_first (has_name name) row rows none in
    rw split.0 (ap (λ (xs : List ScheduleRow). row ∷ xs) (filter-none name rows split.1))

-- the row at a place is among them
pub found_there : (test : ScheduleRow → Bool) (rows : List ScheduleRow) (place : ℕ) (d : ScheduleRow) → place < length rows → test (get_or rows place d) ≡ true → find test rows ≡ None → ⊥
found_there test [] place d within is none = absurd (omega arith)
found_there test (row ∷ rows) zero d within is none = let split = none_first test row rows none in absurd cc
found_there test (row ∷ rows) (suc place) d within is none = found_there test rows place d (omega arith) is (none_first test row rows none).1

not_twice : (name : List ℕ) (row : ScheduleRow) (rows : List ScheduleRow) (place : ℕ) (d : ScheduleRow) (b : Bool) → has_name name row ≡ b → find (has_name row.name) rows ≡ None → place < length rows
    → has_name name (get_or rows place d) ≡ true → b ≡ false
not_twice name row rows place d true same none within is =
    let e : name ≡ row.name = same_name name row.name same in
    let here : find (has_name name) rows ≡ None = subst (λ (x : List ℕ). find (has_name x) rows ≡ None) (sym e) none in
    absurd (found_there (has_name name) rows place d within is here)
not_twice name row rows place d false same none within is = refl

-- the row at a place that has the name is the one that goes
pub remove-there : (name : List ℕ) (rows : List ScheduleRow) (place : ℕ) (d : ScheduleRow) → AreApart rows → place < length rows → has_name name (get_or rows place d) ≡ true
    → remove rows place ≡ filter (lacks_name name) rows
remove-there name [] place d apart within is = absurd (omega arith)
remove-there name (row ∷ rows) zero d apart within is =
    let same : name ≡ row.name = same_name name row.name is in
    let none : find (has_name name) rows ≡ None = subst (λ (x : List ℕ). find (has_name x) rows ≡ None) (sym same) apart.0 in
    rw is (sym (filter-none name rows none))
remove-there name (row ∷ rows) (suc place) d apart within is =
    let fails : has_name name row ≡ false = not_twice name row rows place d (has_name name row) refl apart.0 (omega arith) is in
    rw fails (ap (λ (xs : List ScheduleRow). row ∷ xs) (remove-there name rows place d apart.1 (omega arith) is))

-- each row of the name is due when the name is
pub due_there : (name : List ℕ) (rows : List ScheduleRow) (place : ℕ) (d : ScheduleRow) → AreApart rows → place < length rows → has_name name (get_or rows place d) ≡ true
    → due_of name rows ≡ Some (get_or rows place d).due
due_there name [] place d apart within is = absurd (omega arith)
due_there name (row ∷ rows) zero d apart within is = rw is refl
due_there name (row ∷ rows) (suc place) d apart within is =
    let fails : has_name name row ≡ false = not_twice name row rows place d (has_name name row) refl apart.0 (omega arith) is in
    rw fails (due_there name rows place d apart.1 (omega arith) is)

-- ---- sooner

sooner_by : (b : Bool) (now tries : ℕ) (row : ScheduleRow) (rest : Option ScheduleRow)
    → cond b (Some (sooner now tries row)) (option_map (sooner now tries) rest) ≡ option_map (sooner now tries) (cond b (Some row) rest)
sooner_by true now tries row rest = refl
sooner_by false now tries row rest = refl

pub find-sooner : (name : List ℕ) (now tries : ℕ) (rows : List ScheduleRow) → find (has_name name) (map (sooner now tries) rows) ≡ option_map (sooner now tries) (find (has_name name) rows)
find-sooner name now tries [] = refl
find-sooner name now tries (row ∷ rows) =
    ap (λ (rest : Option ScheduleRow). cond (has_name name row) (Some (sooner now tries row)) rest) (find-sooner name now tries rows)
    ∙ sooner_by (has_name name row) now tries row (find (has_name name) rows)

pub sooner-apart : (now tries : ℕ) (rows : List ScheduleRow) → AreApart rows → AreApart (map (sooner now tries) rows)
sooner-apart now tries [] apart = tt
sooner-apart now tries (row ∷ rows) apart =
    (find-sooner row.name now tries rows ∙ ap (option_map (sooner now tries)) apart.0, sooner-apart now tries rows apart.1)

due_of_sooner : (now tries : ℕ) (found : Option ScheduleRow)
    → option_map (λ (row : ScheduleRow). row.due) (option_map (sooner now tries) found) ≡ option_map (λ (due : ℕ). min due (due_after now tries)) (option_map (λ (row : ScheduleRow). row.due) found)
due_of_sooner now tries None = refl
due_of_sooner now tries (Some row) = refl

pub due-sooner : (name : List ℕ) (now tries : ℕ) (rows : List ScheduleRow) → due_of name (map (sooner now tries) rows) ≡ option_map (λ (due : ℕ). min due (due_after now tries)) (due_of name rows)
due-sooner name now tries rows =
    ap (option_map (λ (row : ScheduleRow). row.due)) (find-sooner name now tries rows) ∙ due_of_sooner now tries (find (has_name name) rows)

-- ---- whether a name is there

any_by : (p : Bool) (row : ScheduleRow) (rest : Bool) (found : Option ScheduleRow) → rest ≡ is_some found → (p || rest) ≡ is_some (cond p (Some row) found)
any_by true row rest found e = refl
any_by false row rest found e = e

pub any_found : (test : ScheduleRow → Bool) (rows : List ScheduleRow) → list_any test rows ≡ is_some (find test rows)
any_found test [] = refl
any_found test (row ∷ rows) = any_by (test row) row (list_any test rows) (find test rows) (any_found test rows)

some_kept : (found : Option ScheduleRow) → is_some (option_map (λ (row : ScheduleRow). row.due) found) ≡ is_some found
some_kept None = refl
some_kept (Some row) = refl

pub due_is_some : (name : List ℕ) (rows : List ScheduleRow) → is_some (due_of name rows) ≡ list_any (has_name name) rows
due_is_some name rows = some_kept (find (has_name name) rows) ∙ sym (any_found (has_name name) rows)

-- ---- rows of a schedule

pub rows-placed : (limit : ℕ) (row : ScheduleRow) (rows : List ScheduleRow) → find (has_name row.name) rows ≡ None → length rows < limit → AreRows limit rows → AreRows limit (placed row rows)
rows-placed limit row rows none less are =
    record {
      ordered = placed-ordered 0 row rows (omega arith) are.ordered;
      apart = placed-apart row rows none are.apart;
      within = let len = length-placed row rows in omega arith;
    }

pub rows-without : (limit : ℕ) (name : List ℕ) (rows : List ScheduleRow) → AreRows limit rows → AreRows limit (filter (lacks_name name) rows)
rows-without limit name rows are =
    record {
      ordered = filter-ordered (lacks_name name) 0 rows are.ordered;
      apart = filter-apart (lacks_name name) rows are.apart;
      within = let len = length-filter (lacks_name name) rows in let less = count_by-le-length (lacks_name name) rows in let all = are.within in omega arith;
    }

pub rows-sooner : (limit now tries : ℕ) (rows : List ScheduleRow) → AreRows limit rows → AreRows limit (map (sooner now tries) rows)
rows-sooner limit now tries rows are =
    record {
      ordered = sooner-ordered now tries 0 0 rows (omega arith) (omega arith) are.ordered;
      apart = sooner-apart now tries rows are.apart;
      within = let len = length-map rows (sooner now tries) in let all = are.within in omega arith;
    }

-- ---- a name that is added

none_of_none : (found : Option ScheduleRow) → is_some (option_map (λ (row : ScheduleRow). row.due) found) ≡ false → found ≡ None
none_of_none None fails = refl
none_of_none (Some row) fails = absurd cc

-- a name of which no look is kept has no row
pub no_row : (name : List ℕ) (rows : List ScheduleRow) (due : Option ℕ) → due ≡ due_of name rows → is_some due ≡ false → find (has_name name) rows ≡ None
no_row name rows due e fails = none_of_none (find (has_name name) rows) (ap is_some (sym e) ∙ fails)

not_there : (name : List ℕ) (rows : List ScheduleRow) (due : Option ℕ) → due ≡ due_of name rows → is_some due ≡ false → list_any (has_name name) rows ≡ false
not_there name rows due e fails = sym (due_is_some name rows) ∙ ap is_some (sym e) ∙ fails

pub answer-known : (name : List ℕ) (plan : Plan) (due : Option ℕ) → due ≡ due_of name plan.rows → is_some due ≡ true → Known ≡ answer_to name plan
answer-known name plan due e holds =
    let there : list_any (has_name name) plan.rows ≡ true = sym (due_is_some name plan.rows) ∙ ap is_some (sym e) ∙ holds in
    rw there refl

is_le : (a b : ℕ) → a ≤ b → nat_le a b ≡ true
is_le a b le = elim (leb_tells a b) as (λ _. nat_le a b ≡ true) [ inl w ↦ w.0 | inr w ↦ absurd (omega arith) ]

is_not_le : (a b : ℕ) → b < a → nat_le a b ≡ false
is_not_le a b less = elim (leb_tells a b) as (λ _. nat_le a b ≡ false) [ inl w ↦ absurd (omega arith) | inr w ↦ w.0 ]

full_by : (b : Bool) (rest : Bool) → b ≡ false → rest ≡ true → let answer : Added = if b then Known else if rest then Full else New in Full ≡ answer
full_by true rest e f = absurd cc
full_by false true e f = refl
full_by false false e f = absurd cc

new_by : (b : Bool) (rest : Bool) → b ≡ false → rest ≡ false → let answer : Added = if b then Known else if rest then Full else New in New ≡ answer
new_by true rest e f = absurd cc
new_by false true e f = absurd cc
new_by false false e f = refl

pub answer-full : (name : List ℕ) (plan : Plan) (due : Option ℕ) → due ≡ due_of name plan.rows → is_some due ≡ false → plan.limit ≤ length plan.rows → Full ≡ answer_to name plan
answer-full name plan due e fails le =
    full_by (list_any (has_name name) plan.rows) (nat_le plan.limit (length plan.rows)) (not_there name plan.rows due e fails) (is_le plan.limit (length plan.rows) le)

pub answer-new : (name : List ℕ) (plan : Plan) (due : Option ℕ) → due ≡ due_of name plan.rows → is_some due ≡ false → length plan.rows < plan.limit → New ≡ answer_to name plan
answer-new name plan due e fails less =
    new_by (list_any (has_name name) plan.rows) (nat_le plan.limit (length plan.rows)) (not_there name plan.rows due e fails) (is_not_le plan.limit (length plan.rows) less)

-- when the others are due then
due_with : (b : Bool) (name : List ℕ) (found : Option ScheduleRow) → option_map (λ (row : ScheduleRow). row.due) (cond b (Some (fresh name)) found) ≡ cond b (Some 0) (option_map (λ (row : ScheduleRow). row.due) found)
due_with true name found = refl
due_with false name found = refl

pub due-added : (name other : List ℕ) (rows : List ScheduleRow) → find (has_name name) rows ≡ None → due_of other (placed (fresh name) rows) ≡ cond (bytes_eq name other) (Some 0) (due_of other rows)
due-added name other rows none =
    ap (option_map (λ (row : ScheduleRow). row.due)) (find-placed other (fresh name) rows none)
    ∙ due_with (bytes_eq other name) name (find (has_name other) rows)
    ∙ ap (λ (b : Bool). cond b (Some 0) (due_of other rows)) (same_either_way other name)

-- ---- a name that goes

due_without : (b : Bool) (found : Option ScheduleRow) → let none : Option ScheduleRow = None in let nothing : Option ℕ = None in
    option_map (λ (row : ScheduleRow). row.due) (cond b none found) ≡ cond b nothing (option_map (λ (row : ScheduleRow). row.due) found)
due_without true found = refl
due_without false found = refl

pub due-gone : (name other : List ℕ) (rows : List ScheduleRow) → let nothing : Option ℕ = None in due_of other (filter (lacks_name name) rows) ≡ cond (bytes_eq name other) nothing (due_of other rows)
due-gone name other rows =
    ap (option_map (λ (row : ScheduleRow). row.due)) (find-without name other rows) ∙ due_without (bytes_eq name other) (find (has_name other) rows)

-- where no row of a list has the name, none is found
pub none_of_all : (name : List ℕ) (rows : List ScheduleRow) → ((k : ℕ) (d : ScheduleRow) → k < length rows → has_name name (get_or rows k d) ≡ false) → find (has_name name) rows ≡ None
none_of_all name [] all = refl
none_of_all name (row ∷ rows) all =
    none_first_of (has_name name) row rows (all 0 row (omega arith)) (none_of_all name rows (λ k d less. all (suc k) d (omega arith)))

-- a row that is due at another look has another name
lacks_by : (b : Bool) → (b ≡ true → ⊥) → b ≡ false
lacks_by true fails = absurd (fails refl)
lacks_by false fails = refl

same_due : (a b : ℕ) → Some a ≡ Some b → a ≡ b
same_due a b e = cc

pub lacks_before : (name : List ℕ) (rows : List ScheduleRow) (due place : ℕ) (d : ScheduleRow) → AreApart rows → due_of name rows ≡ Some due → place < length rows
    → (get_or rows place d).due < due → has_name name (get_or rows place d) ≡ false
lacks_before name rows due place d apart is within less =
    lacks_by (has_name name (get_or rows place d)) (λ has.
    let same = same_due (get_or rows place d).due due (sym (due_there name rows place d apart within has) ∙ is) in
    omega arith)

none_due_of : (found : Option ScheduleRow) (due : ℕ) → found ≡ None → option_map (λ (row : ScheduleRow). row.due) found ≡ Some due → ⊥
none_due_of None due e is = cc
none_due_of (Some row) due e is = cc

-- a name that is due has a row
pub somewhere : (name : List ℕ) (rows : List ScheduleRow) (due : ℕ) → due_of name rows ≡ Some due → ((k : ℕ) (d : ScheduleRow) → k < length rows → has_name name (get_or rows k d) ≡ false) → ⊥
somewhere name rows due is all = none_due_of (find (has_name name) rows) due (none_of_all name rows all) is
