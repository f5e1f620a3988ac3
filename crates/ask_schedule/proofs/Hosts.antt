-- Newcomers of one host, and the lap of its last one.
use Rattle.std.proofs.Common.{◌≡◌, ℕ, ◌+◌, ◌-◌, ◌<◌, ◌≤◌, ◌≢◌, nat_eq, nat_le, Bool, true, false, cond, List, [], ◌∷◌, ◌++◌, length, get_or, take, drop, Option, Some, None, zero, suc, refl, sym, ap, subst, ◌∙◌, arith, inl, inr}
use Rattle.std.specs.List.{count_by}
use Rattle.std.specs.Option.{option_map, option_or, unwrap_or}
use Rattle.std.proofs.lemmas.Bool.Decides.{eqb_tells}
use Rattle.std.proofs.lemmas.List.{length-take}
use Rattle.ask_schedule.specs.declared.row.Newcomer.{Newcomer}
use Rattle.ask_schedule.specs.declared.row.TheConstants.{LAST_LAP}
use Rattle.ask_schedule.specs.Laws.{ahead_of, behind}
use Rattle.ask_schedule.specs.Queue.{Queue, is_by, is_of, last_lap, lined_up, newcomer, next_lap, with_newcomer}
use Rattle.ask_schedule.specs.Turns.{AreLater, AreNewcomers, InLapsFrom, TakeTurns, unless}
use Rattle.ask_schedule.proofs.Lines.{by_lap, counts-one, from_earlier, length-lined, lined-between, lined-ordered, skips-one, take-ordered}
use Rattle.ask_schedule.proofs.Order.{lt_tells}

-- ---- hosts

same_host : (a b : ℕ) → nat_eq a b ≡ true → a ≡ b
same_host a b holds = elim (eqb_tells a b) as (λ _. a ≡ b) [ inl w ↦ w.1 | inr w ↦ absurd cc ]

is_same : (a b : ℕ) → a ≡ b → nat_eq a b ≡ true
is_same a b e = elim (eqb_tells a b) as (λ _. nat_eq a b ≡ true) [ inl w ↦ w.0 | inr w ↦ absurd (w.1 e) ]

is_other : (a b : ℕ) → a ≢ b → nat_eq a b ≡ false
is_other a b fails = elim (eqb_tells a b) as (λ _. nat_eq a b ≡ false) [ inl w ↦ absurd (fails w.1) | inr w ↦ w.0 ]

pub either_host : (a b : ℕ) → nat_eq a b ≡ nat_eq b a
either_host a b =
    elim (eqb_tells a b) as (λ _. nat_eq a b ≡ nat_eq b a) [
      | inl w ↦ w.0 ∙ sym (is_same b a (sym w.1))
      | inr w ↦ w.0 ∙ sym (is_other b a (λ e. w.1 (sym e)))
    ]

-- ---- what is later, and what is earlier

-- each row of the host is of an earlier lap
abbrev pub AreEarlier : ℕ → ℕ → List Newcomer → Type 0
AreEarlier host lap [] = Unit {0}
AreEarlier host lap (row ∷ rows) = (is_of host row ≡ true → row.lap < lap) × AreEarlier host lap rows

later-on : (host lap low : ℕ) (rows : List Newcomer) → lap < low → InLapsFrom low rows → AreLater host lap rows
later-on host lap low [] less o = tt
later-on host lap low (row ∷ rows) less o = let first = o.0 in (λ is. omega arith, later-on host lap row.lap rows (omega arith) o.1)

lined-later : (host lap : ℕ) (row : Newcomer) (rows : List Newcomer) → (is_of host row ≡ true → lap < row.lap) → AreLater host lap rows → AreLater host lap (lined_up row rows)
lined-later host lap row [] less later = (less, tt)
lined-later host lap row (first ∷ rows) less later =
    elim (lt_tells row.lap first.lap) as (λ _. AreLater host lap (lined_up row (first ∷ rows))) [
      | inl w ↦ rw w.0 (less, later)
      | inr w ↦ rw w.0 (later.0, lined-later host lap row rows less later.1)
    ]

lined-turns : (low : ℕ) (row : Newcomer) (rows : List Newcomer) → InLapsFrom low rows → AreEarlier row.host row.lap rows → TakeTurns rows → TakeTurns (lined_up row rows)
lined-turns low row [] o earlier turns = (tt, tt)
lined-turns low row (first ∷ rows) o earlier turns =
    elim (lt_tells row.lap first.lap) as (λ _. TakeTurns (lined_up row (first ∷ rows))) [
      | inl w ↦ rw w.0 (later-on row.host row.lap first.lap (first ∷ rows) w.1 (omega arith, o.1), turns)
      | inr w ↦
          rw w.0 (
            lined-later first.host first.lap row rows (λ is. earlier.0 (either_host row.host first.host ∙ is)) turns.0,
            lined-turns first.lap row rows o.1 earlier.1 turns.1,
          )
    ]

take-later : (host lap n : ℕ) (rows : List Newcomer) → AreLater host lap rows → AreLater host lap (take n rows)
take-later host lap zero rows later = tt
take-later host lap (suc n) [] later = tt
take-later host lap (suc n) (row ∷ rows) later = (later.0, take-later host lap n rows later.1)

take-turns : (n : ℕ) (rows : List Newcomer) → TakeTurns rows → TakeTurns (take n rows)
take-turns zero rows turns = tt
take-turns (suc n) [] turns = tt
take-turns (suc n) (row ∷ rows) turns = (take-later row.host row.lap n rows turns.0, take-turns n rows turns.1)

-- ---- the last lap

none_of_both : (found : Option ℕ) (b : Bool) (lap : ℕ) → option_or found (cond b (Some lap) None) ≡ None → (found ≡ None) × (b ≡ false)
none_of_both None false lap none = (refl, refl)
none_of_both None true lap none = absurd cc
none_of_both (Some l) b lap none = absurd cc

-- a host without a last lap has no rows
none-earlier : (host lap : ℕ) (rows : List Newcomer) → last_lap host rows ≡ None → AreEarlier host lap rows
none-earlier host lap [] none = tt
none-earlier host lap (row ∷ rows) none =
    let split = none_of_both (last_lap host rows) (is_of host row) row.lap none in
    (λ is. absurd cc, none-earlier host lap rows split.0)

some_of_first : (b : Bool) (lap last : ℕ) → option_or None (cond b (Some lap) None) ≡ Some last → lap ≡ last
some_of_first true lap last e = cc
some_of_first false lap last e = absurd cc

last_by : (found : Option ℕ) (b : Bool) (low lap last : ℕ) → low ≤ lap → option_or found (cond b (Some lap) None) ≡ Some last → (found ≡ Some last → low ≤ last) → low ≤ last
last_by None b low lap last le e on = let same = some_of_first b lap last e in omega arith
last_by (Some l) b low lap last le e on = on e

-- the last lap is no earlier than the first one
last_from : (host low : ℕ) (rows : List Newcomer) (last : ℕ) → InLapsFrom low rows → last_lap host rows ≡ Some last → low ≤ last
last_from host low [] last o e = absurd cc
last_from host low (row ∷ rows) last o e =
    last_by (last_lap host rows) (is_of host row) low row.lap last o.0 e (λ is. let on = last_from host row.lap rows last o.1 is in let first = o.0 in omega arith)

latest_by : (found : Option ℕ) (b : Bool) (host lap last : ℕ) (rows : List Newcomer) → last_lap host rows ≡ found → InLapsFrom lap rows → option_or found (cond b (Some lap) None) ≡ Some last
    → (last_lap host rows ≡ Some last → AreEarlier host (last + 1) rows) → (lap < last + 1) × AreEarlier host (last + 1) rows
latest_by None b host lap last rows is o e on = let same = some_of_first b lap last e in (omega arith, none-earlier host (last + 1) rows is)
latest_by (Some l) b host lap last rows is o e on = let from = last_from host lap rows last o (is ∙ e) in (omega arith, on (is ∙ e))

-- no row of the host is of a later lap than its last one
last-latest : (host low last : ℕ) (rows : List Newcomer) → InLapsFrom low rows → last_lap host rows ≡ Some last → AreEarlier host (last + 1) rows
last-latest host low last [] o e = tt
last-latest host low last (row ∷ rows) o e =
    let both = latest_by (last_lap host rows) (is_of host row) host row.lap last rows refl o.1 e (λ is. last-latest host row.lap last rows o.1 is) in
    (λ is. both.0, both.1)

earlier-next : (host low : ℕ) (rows : List Newcomer) (found : Option ℕ) → last_lap host rows ≡ found → InLapsFrom low rows → AreEarlier host (unwrap_or found low + 1) rows
earlier-next host low rows None is o = none-earlier host (low + 1) rows is
earlier-next host low rows (Some last) is o = last-latest host low last rows o is

next-later : (host low : ℕ) (rows : List Newcomer) (found : Option ℕ) → last_lap host rows ≡ found → InLapsFrom low rows → low ≤ unwrap_or found low
next-later host low rows None is o = omega arith
next-later host low rows (Some last) is o = last_from host low rows last o is

no_by : (b : Bool) (found : Option ℕ) (lap : ℕ) → (b ≡ true → ⊥) → found ≡ None → option_or found (cond b (Some lap) None) ≡ None
no_by true found lap fails none = absurd (fails refl)
no_by false found lap fails none = rw none refl

no-last : (host lap low : ℕ) (rows : List Newcomer) → lap < low → InLapsFrom low rows → AreEarlier host lap rows → last_lap host rows ≡ None
no-last host lap low [] less o earlier = refl
no-last host lap low (row ∷ rows) less o earlier =
    let first = o.0 in
    no_by (is_of host row) (last_lap host rows) row.lap (λ is. let under = earlier.0 is in absurd (omega arith)) (no-last host lap row.lap rows (omega arith) o.1 earlier.1)

-- ---- with one row more

or_none : (found : Option ℕ) → option_or found None ≡ found
or_none None = refl
or_none (Some l) = refl

front_by : (b c : Bool) (lap : ℕ) (found : Option ℕ) → b ≡ c → (c ≡ true → found ≡ None) → option_or found (cond b (Some lap) None) ≡ cond c (Some lap) found
front_by true true lap found e none = rw (none refl) refl
front_by true false lap found e none = absurd cc
front_by false true lap found e none = absurd cc
front_by false false lap found e none = or_none found

behind_by : (b : Bool) (lap : ℕ) (found first : Option ℕ) → option_or (cond b (Some lap) found) first ≡ cond b (Some lap) (option_or found first)
behind_by true lap found first = refl
behind_by false lap found first = refl

pub last-lined : (host low : ℕ) (row : Newcomer) (rows : List Newcomer) → InLapsFrom low rows → AreEarlier row.host row.lap rows
    → last_lap host (lined_up row rows) ≡ cond (nat_eq row.host host) (Some row.lap) (last_lap host rows)
last-lined host low row [] o earlier = front_by (is_of host row) (nat_eq row.host host) row.lap None (either_host host row.host) (λ is. refl)
last-lined host low row (first ∷ rows) o earlier =
    elim (lt_tells row.lap first.lap) as (λ _. last_lap host (lined_up row (first ∷ rows)) ≡ cond (nat_eq row.host host) (Some row.lap) (last_lap host (first ∷ rows))) [
      | inl w ↦
          let none = no-last row.host row.lap first.lap (first ∷ rows) w.1 (omega arith, o.1) earlier in
          rw w.0 (front_by (is_of host row) (nat_eq row.host host) row.lap (last_lap host (first ∷ rows)) (either_host host row.host)
          (λ is. subst (λ (h : ℕ). last_lap h (first ∷ rows) ≡ None) (same_host row.host host is) none))
      | inr w ↦
          let other : Option ℕ = cond (is_of host first) (Some first.lap) None in
          rw w.0 (
          ap (λ (found : Option ℕ). option_or found other) (last-lined host first.lap row rows o.1 earlier.1)
          ∙ behind_by (nat_eq row.host host) row.lap (last_lap host rows) other
          )
    ]

pub rows-lined : (limit lap : ℕ) (row : Newcomer) (rows : List Newcomer) (found : Option ℕ) → AreNewcomers limit lap rows → last_lap row.host rows ≡ found → row.lap ≡ unwrap_or found lap + 1
    → AreEarlier row.host row.lap rows × AreNewcomers limit lap (take limit (lined_up row rows))
rows-lined limit lap row rows found are is next =
    let earlier : AreEarlier row.host row.lap rows = subst (λ (l : ℕ). AreEarlier row.host l rows) (sym next) (earlier-next row.host lap rows found is are.ordered) in
    let later = next-later row.host lap rows found is are.ordered in (
      earlier,
      record {
        ordered = take-ordered lap limit (lined_up row rows) (lined-ordered lap row rows (omega arith) are.ordered);
        apart = take-turns limit (lined_up row rows) (lined-turns lap row rows are.ordered earlier are.apart);
        within = omega (arith, length-take limit (lined_up row rows));
      },
    )

-- ---- a row is lined up, and the others that are too many go

pub long-lined : (row : Newcomer) (rows new : List Newcomer) → new ≡ lined_up row rows → length new ≡ length rows + 1
long-lined row rows new is = ap length is ∙ length-lined row rows

pub told-lined : (limit lap host : ℕ) (row : Newcomer) (rows new : List Newcomer) (found before after : Option ℕ) → new ≡ lined_up row rows → AreNewcomers limit lap rows
    → last_lap row.host rows ≡ found → row.lap ≡ unwrap_or found lap + 1 → before ≡ last_lap host rows → after ≡ cond (nat_eq row.host host) (Some row.lap) before → after ≡ last_lap host new
told-lined limit lap host row rows new found before after is are last next was set =
    let lined = rows-lined limit lap row rows found are last next in
    set
    ∙ ap (λ (o : Option ℕ). cond (nat_eq row.host host) (Some row.lap) o) was
    ∙ sym (last-lined host lap row rows are.ordered lined.0)
    ∙ ap (last_lap host) (sym is)

pub are-lined : (limit lap : ℕ) (row : Newcomer) (rows new kept : List Newcomer) (found : Option ℕ) → new ≡ lined_up row rows → kept ≡ take limit new → AreNewcomers limit lap rows
    → last_lap row.host rows ≡ found → row.lap ≡ unwrap_or found lap + 1 → AreNewcomers limit lap kept
are-lined limit lap row rows new kept found is first are last next =
    let lined = rows-lined limit lap row rows found are last next in
    subst (AreNewcomers limit lap) (sym (first ∙ ap (take limit) is)) lined.1

-- ---- with one row less

later_by : (found : Option ℕ) (b : Bool) (low lap last : ℕ) → (b ≡ true → low < lap) → option_or found (cond b (Some lap) None) ≡ Some last → (found ≡ Some last → low < last) → low < last
later_by None true low lap last first e on = let same : lap ≡ last = cc in let less = first refl in omega arith
later_by None false low lap last first e on = absurd cc
later_by (Some l) b low lap last first e on = on e

later-last : (host lap : ℕ) (rows : List Newcomer) (last : ℕ) → AreLater host lap rows → last_lap host rows ≡ Some last → lap < last
later-last host lap [] last later e = absurd cc
later-last host lap (row ∷ rows) last later e =
    later_by (last_lap host rows) (is_of host row) lap row.lap last later.0 e (λ is. later-last host lap rows last later.1 is)

unless-last : (lap : ℕ) (found : Option ℕ) → ((last : ℕ) → found ≡ Some last → lap < last) → unless lap (option_or found (Some lap)) ≡ found
unless-last lap None later = rw (is_same lap lap refl) refl
unless-last lap (Some last) later = rw (is_other last lap (λ e. let less = later last refl in absurd (omega arith))) refl

gone_by : (b c : Bool) (lap : ℕ) (found : Option ℕ) → b ≡ c → (b ≡ true → (last : ℕ) → found ≡ Some last → lap < last)
    → cond b (unless lap (option_or found (cond c (Some lap) None))) (option_or found (cond c (Some lap) None)) ≡ found
gone_by true true lap found e later = unless-last lap found (later refl)
gone_by true false lap found e later = absurd cc
gone_by false true lap found e later = absurd cc
gone_by false false lap found e later = or_none found

-- what a map has of a host once the first row is taken
pub first-gone : (host : ℕ) (row : Newcomer) (rows : List Newcomer) (before after : Option ℕ) → AreLater row.host row.lap rows → before ≡ last_lap host (row ∷ rows)
    → after ≡ cond (nat_eq row.host host) (unless row.lap before) before → after ≡ last_lap host rows
first-gone host row rows before after later was set =
    set
    ∙ ap (λ (o : Option ℕ). cond (nat_eq row.host host) (unless row.lap o) o) was
    ∙ gone_by (nat_eq row.host host) (is_of host row) row.lap (last_lap host rows) (either_host row.host host)
    (λ is last found. later-last row.host row.lap rows last later (subst (λ (h : ℕ). last_lap h rows ≡ Some last) (sym (same_host row.host host is)) found))

pub rows-first : (limit lap : ℕ) (row : Newcomer) (rows : List Newcomer) → AreNewcomers limit lap (row ∷ rows) → AreNewcomers limit row.lap rows
rows-first limit lap row rows are =
    record { ordered = are.ordered.1; apart = are.apart.1; within = let all = are.within in omega arith }

or_or : (a b c : Option ℕ) → option_or (option_or a b) c ≡ option_or a (option_or b c)
or_or None b c = refl
or_or (Some l) b c = refl

pub last-append : (host : ℕ) (xs ys : List Newcomer) → last_lap host (xs ++ ys) ≡ option_or (last_lap host ys) (last_lap host xs)
last-append host [] ys = sym (or_none (last_lap host ys))
last-append host (x ∷ xs) ys =
    let first : Option ℕ = cond (is_of host x) (Some x.lap) None in
    ap (λ (found : Option ℕ). option_or found first) (last-append host xs ys) ∙ or_or (last_lap host ys) (last_lap host xs) first

-- the last row is the host's last one, and no other host's
pub last-behind : (host : ℕ) (xs : List Newcomer) (row : Newcomer) → last_lap host (xs ++ row ∷ []) ≡ cond (nat_eq row.host host) (Some row.lap) (last_lap host xs)
last-behind host xs row =
    last-append host xs (row ∷ [])
    ∙ ap (λ (b : Bool). option_or (cond b (Some row.lap) None) (last_lap host xs)) (either_host host row.host)
    ∙ behind_by (nat_eq row.host host) row.lap None (last_lap host xs)

set_by : (b : Bool) (old lap : ℕ) (found : Option ℕ) → (b ≡ true → Some lap ≡ found) → cond b (option_map (λ (x : ℕ). lap) (cond b (Some old) found)) (cond b (Some old) found) ≡ found
set_by true old lap found is = is refl
set_by false old lap found is = refl

removed_by : (b : Bool) (old : ℕ) (found : Option ℕ) → (b ≡ true → None ≡ found) → let none : Option ℕ = None in cond b none (cond b (Some old) found) ≡ found
removed_by true old found is = is refl
removed_by false old found is = refl

-- what a map has of a host once the last row is gone, whose host has another one
pub last-set : (host : ℕ) (xs : List Newcomer) (row : Newcomer) (lap : ℕ) (before after : Option ℕ) → before ≡ last_lap host (xs ++ row ∷ []) → Some lap ≡ last_lap row.host xs
    → after ≡ cond (nat_eq row.host host) (option_map (λ (x : ℕ). lap) before) before → after ≡ last_lap host xs
last-set host xs row lap before after was is set =
    set
    ∙ ap (λ (o : Option ℕ). cond (nat_eq row.host host) (option_map (λ (x : ℕ). lap) o) o) (was ∙ last-behind host xs row)
    ∙ set_by (nat_eq row.host host) row.lap lap (last_lap host xs) (λ same. subst (λ (h : ℕ). Some lap ≡ last_lap h xs) (same_host row.host host same) is)

-- and whose host has none
pub last-removed : (host : ℕ) (xs : List Newcomer) (row : Newcomer) (before after : Option ℕ) → before ≡ last_lap host (xs ++ row ∷ []) → None ≡ last_lap row.host xs
    → let none : Option ℕ = None in after ≡ cond (nat_eq row.host host) none before → after ≡ last_lap host xs
last-removed host xs row before after was is set =
    let none : Option ℕ = None in
    set
    ∙ ap (λ (o : Option ℕ). cond (nat_eq row.host host) none o) (was ∙ last-behind host xs row)
    ∙ removed_by (nat_eq row.host host) row.lap (last_lap host xs) (λ same. subst (λ (h : ℕ). None ≡ last_lap h xs) (same_host row.host host same) is)

there_by : (b : Bool) (found : Option ℕ) (lap : ℕ) → found ≡ None → b ≡ true → Some lap ≡ option_or found (cond b (Some lap) None)
there_by true None lap none is = refl
there_by true (Some l) lap none is = absurd cc
there_by false found lap none is = absurd cc

-- the last row of a host is found from behind
pub last-there : (host : ℕ) (rows : List Newcomer) (place : ℕ) (d : Newcomer) → place < length rows → last_lap host (drop (suc place) rows) ≡ None → (get_or rows place d).host ≡ host
    → Some (get_or rows place d).lap ≡ last_lap host rows
last-there host [] place d within none is = absurd (omega arith)
last-there host (row ∷ rows) zero d within none is = there_by (is_of host row) (last_lap host rows) row.lap none (is_same host row.host (sym is))
last-there host (row ∷ rows) (suc place) d within none is =
    let other : Option ℕ = cond (is_of host row) (Some row.lap) None in
    ap (λ (found : Option ℕ). option_or found other) (last-there host rows place d (omega arith) none is)

-- ---- how many of a host stand ahead

-- each row of the host is of this lap or of a later one
abbrev AreFrom : ℕ → ℕ → List Newcomer → Type 0
AreFrom host lap [] = Unit {0}
AreFrom host lap (row ∷ rows) = (is_of host row ≡ true → lap ≤ row.lap) × AreFrom host lap rows

from-order : (host low : ℕ) (rows : List Newcomer) → InLapsFrom low rows → AreFrom host low rows
from-order host low [] o = tt
from-order host low (row ∷ rows) o = (λ is. o.0, from-order host low rows (from_earlier low row.lap rows o.0 o.1))

from-later : (host lap : ℕ) (rows : List Newcomer) → AreLater host lap rows → AreFrom host (lap + 1) rows
from-later host lap [] later = tt
from-later host lap (row ∷ rows) later = (λ is. let less = later.0 is in omega arith, from-later host lap rows later.1)

-- p: the row is of the last lap that counts, or of one before it; q: it is of the host
few_by : (p q : Bool) (test : Newcomer → Bool) (row : Newcomer) (kept : List Newcomer) (most : ℕ) → test row ≡ q → count_by test kept ≤ most → (p ≡ true → q ≡ true → count_by test kept + 1 ≤ most)
    → count_by test (cond p (row ∷ kept) kept) ≤ most
few_by false q test row kept most is few more = few
few_by true false test row kept most is few more = let same = skips-one test row kept is in omega arith
few_by true true test row kept most is few more = let one = counts-one test row kept is in let room = more refl refl in omega arith

few-ahead : (other top lap : ℕ) (rows : List Newcomer) → AreFrom other lap rows → TakeTurns rows → count_by (is_of other) (ahead_of top rows) ≤ top + 1 - lap
few-ahead other top lap [] from turns = omega arith
few-ahead other top lap (row ∷ rows) from turns =
    few_by (is_by top row) (is_of other row) (is_of other) row (ahead_of top rows) (top + 1 - lap) refl (few-ahead other top lap rows from.1 turns.1)
    (λ early own.
    let same : other ≡ row.host = same_host other row.host own in
    let later : AreLater other row.lap rows = subst (λ (h : ℕ). AreLater h row.lap rows) (sym same) turns.0 in
    let on = few-ahead other top (row.lap + 1) rows (from-later other row.lap rows later) turns.1 in
    let low = from.0 own in
    let high = by_lap top row early in
    omega arith)

pub two-ahead : (other lap : ℕ) (rows : List Newcomer) → InLapsFrom lap rows → TakeTurns rows → count_by (is_of other) (ahead_of (lap + 1) rows) ≤ 2
two-ahead other lap rows o turns = let few = few-ahead other (lap + 1) lap rows (from-order other lap rows o) turns in omega arith

-- a host without a name has its next one in the lap after the last one that was taken
pub stands-there : (host : ℕ) (name : List ℕ) (queue : Queue) → InLapsFrom queue.lap queue.rows → last_lap host queue.rows ≡ None
    → lined_up (newcomer host name queue) queue.rows ≡ ahead_of (queue.lap + 1) queue.rows ++ newcomer host name queue ∷ behind (queue.lap + 1) queue.rows
stands-there host name queue o none =
    let next : next_lap host queue ≡ queue.lap + 1 = ap (λ (found : Option ℕ). unwrap_or found queue.lap + 1) none in
    lined-between (newcomer host name queue) queue.lap queue.rows o
    ∙ ap (λ (lap : ℕ). ahead_of lap queue.rows ++ newcomer host name queue ∷ behind lap queue.rows) next

limit_by : (b : Bool) (rows : List Newcomer) (queue : Queue) → length queue.rows ≤ queue.limit → length (cond b (record queue { rows = take queue.limit rows }) queue).rows ≤ queue.limit
limit_by true rows queue within = let few : length (take queue.limit rows) ≤ queue.limit = omega (arith, length-take queue.limit rows) in few
limit_by false rows queue within = within

pub within-limit : (host : ℕ) (name : List ℕ) (queue : Queue) → length queue.rows ≤ queue.limit → length (with_newcomer host name queue).rows ≤ queue.limit
within-limit host name queue within = limit_by (nat_le (next_lap host queue) LAST_LAP) (lined_up (newcomer host name queue) queue.rows) queue within
