-- Reading a script: what is taken off the lines that are left of it, where its bytes are known.
use Rattle.std.specs.Prelude.{◌≡◌, ℕ, ◌+◌, ◌<◌, ◌≤◌, Bool, true, false, List, [], ◌∷◌, length, take, drop, Option, Some, None, IsSome, option_map}
use Rattle.std.specs.Io.BufRead.{take_through, drop_through}
use Rattle.std.specs.Io.Buffered.{reader_remaining}
use Rattle.replay_text.specs.Lines.{line_of}
use Rattle.replay.specs.declared.entry.ScriptEntry.{ScriptEntry}
use Rattle.replay.specs.declared.script.Script.{Script}
use Rattle.replay.specs.Script.{entry_of, first_bad, lines_of, own_lines, own_lines_of, text_of}

-- the bytes that are left of a script, and its lines
abbrev pub bytes_left : {R : Type 0} → (R → Option (List ℕ)) → Script R → Option (List ℕ)
bytes_left remaining script = reader_remaining (λ counted. remaining counted.reader) script.reader

abbrev pub lines_left : {R : Type 0} → (R → Option (List ℕ)) → Script R → Option (List (List ℕ))
lines_left remaining script = option_map lines_of (bytes_left remaining script)

-- a line and its end are taken off the bytes that are left; at their end there is none
abbrev pub TakesBytes : Option (List ℕ) → Option (List ℕ) → List ℕ → Bool → Type 0
TakesBytes None new line more = Unit {0}
TakesBytes (Some []) new line more = more ≡ false
TakesBytes (Some (b ∷ left)) new line more =
    (more ≡ true) × (line ≡ take_through 10 (b ∷ left)) × (new ≡ Some (drop_through 10 (b ∷ left)))

-- the first line is taken off the lines that are left; at their end there is none
abbrev pub TakesLine : Option (List (List ℕ)) → Option (List (List ℕ)) → List ℕ → Bool → Type 0
TakesLine None new line more = Unit {0}
TakesLine (Some []) new line more = more ≡ false
TakesLine (Some (first ∷ left)) new line more = (more ≡ true) × (line ≡ first) × (new ≡ Some left)

-- so many lines are taken off, and this is their text
abbrev pub TakesText : Option (List (List ℕ)) → ℕ → Option (List (List ℕ)) → List ℕ → Type 0
TakesText None count new text = Unit {0}
TakesText (Some lines) count new text =
    (count ≤ length lines) × (text ≡ text_of (take count lines)) × (new ≡ Some (drop count lines))

-- fewer lines are left
abbrev pub AreMissing : Option (List (List ℕ)) → ℕ → Type 0
AreMissing None count = Unit {0}
AreMissing (Some lines) count = length lines < count

-- so many lines are taken off, where these were to be had of the lines that are left; nothing is known of a script of
-- which they were not
abbrev pub Takes : {A : Type 0} → (List (List ℕ) → Option A) → Option (List (List ℕ)) → ℕ → Option (List (List ℕ)) → Option A → Type 0
Takes had None count new value = Unit {0}
Takes had (Some lines) count new None = had lines ≡ None
Takes had (Some lines) count new (Some value) = (had lines ≡ Some value) × (new ≡ Some (drop count lines))

-- the next line is good, and taken off with those that are its own; at the end there is none
abbrev pub TakesEntry : Option (List (List ℕ)) → Option (List (List ℕ)) → Option ScriptEntry → Type 0
TakesEntry None new next = Unit {0}
TakesEntry (Some []) new next = next ≡ None
TakesEntry (Some (line ∷ after)) new next =
    IsSome next × (next ≡ entry_of line after) × (new ≡ Some (drop (own_lines_of (line_of line)) after))

-- so many lines are taken with a next line
abbrev pub lines_with : Option ScriptEntry → ℕ
lines_with None = 0
lines_with (Some next) = own_lines next.line + 1

-- the next line is bad
abbrev pub IsNextBad : Option (List (List ℕ)) → Type 0
IsNextBad None = Unit {0}
IsNextBad (Some []) = ⊥
IsNextBad (Some (line ∷ after)) = entry_of line after ≡ None

-- what was read of a script, of which the first line had the first number, leads on to what is left, of which the first
-- has the second: the first bad line is the same
abbrev pub LeadsOn : Option (List (List ℕ)) → ℕ → Option (List (List ℕ)) → ℕ → Type 0
LeadsOn None start left number = Unit {0}
LeadsOn (Some lines) start None number = ⊥
LeadsOn (Some lines) start (Some left) number = first_bad start 0 lines ≡ first_bad number 0 left

-- the lines that are left of a script, of which the first has this number, are good; or their first bad line has the
-- second
abbrev pub IsGoodFrom : ℕ → Option (List (List ℕ)) → Type 0
IsGoodFrom start None = Unit {0}
IsGoodFrom start (Some lines) = first_bad start 0 lines ≡ None

abbrev pub IsBadFrom : ℕ → Option (List (List ℕ)) → ℕ → Type 0
IsBadFrom start None number = Unit {0}
IsBadFrom start (Some lines) number = first_bad start 0 lines ≡ Some number
