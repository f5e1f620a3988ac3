-- What is kept beside what a variable told last: its encodings under several types and counts.
use Rattle.std.specs.Prelude.{ℕ, List, ◌∷◌, [], ◌++◌, length, ◌-◌, drop, filter, Bool, false, not, ◌&&◌, ◌==◌, nat_le, nat_lt, is_some, Option, Some, None, if◌then◌else◌}
use Rattle.std.specs.List.{count_by, list_any}
use Rattle.value_cache.specs.Held.{Held, answer}

-- what is held, and the types and counts whose encodings are kept, in the order of keeping
pub record Keeping : Type 0 where
  pub held : Held
  pub kept : List (ℕ × ℕ)

-- this is held, and nothing is kept beside it
abbrev pub fresh : Held → Keeping
fresh held = record { held = held; kept = [] }

abbrev pub is_pair : ℕ → ℕ → ℕ × ℕ → Bool
is_pair dtype count pair = pair.0 == dtype && pair.1 == count

-- the last eight; all, where there are no more
abbrev pub last_eight : {X : Type 0} → List X → List X
last_eight xs = drop (length xs - 8) xs

-- with one more, as the last; nothing changes where it is there, or where it can't be had
abbrev pub with_pair : Bool → ℕ → ℕ → List (ℕ × ℕ) → List (ℕ × ℕ)
with_pair is_had dtype count kept =
    if list_any (is_pair dtype count) kept then kept
    else if is_had then last_eight (kept ++ (dtype, count) ∷ [])
    else kept

-- once it is asked to keep what is answered under a type and a count
abbrev pub keeping : ℕ → ℕ → Keeping → Keeping
keeping dtype count k = record { held = k.held; kept = with_pair (is_some (answer dtype count k.held)) dtype count k.kept }

-- what is given has 64 KiB or more
abbrev pub is_large_answer : Option (ℕ × List ℕ) → Bool
is_large_answer None = false
is_large_answer (Some given) = nat_le 65_536 (length given.1)

-- what is answered under a type and a count is large
abbrev pub is_large : Held → ℕ × ℕ → Bool
is_large held pair = is_large_answer (answer pair.0 pair.1 held)

abbrev pub is_small : Held → ℕ × ℕ → Bool
is_small held pair = not (is_large held pair)

-- without those that are large, where there are several
abbrev pub thinned_pairs : Held → List (ℕ × ℕ) → List (ℕ × ℕ)
thinned_pairs held kept = if nat_lt 1 (count_by (is_large held) kept) then filter (is_small held) kept else kept

-- once an update was told
abbrev pub thinned : Keeping → Keeping
thinned k = record { held = k.held; kept = thinned_pairs k.held k.kept }
