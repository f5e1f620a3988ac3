-- The lines of a script, what they ask for, and the first that is bad.
use Rattle.std.specs.Prelude.{◌≡◌, ℕ, zero, suc, ◌+◌, ◌==◌, nat_le, if◌then◌else◌, List, [], ◌∷◌, ◌++◌, length, take, drop, flat_map, Option, Some, None, option_map, option_and_then}
use Rattle.std.specs.Str.{is_utf8}
use Rattle.replay_text.specs.declared.line.Line.{Line}
use Rattle.replay_text.specs.declared.line.Line.TheVariants as lines
use Rattle.replay_text.specs.Lines.{all_three, line_of}
use Rattle.replay.specs.declared.entry.ScriptEntry.{ScriptEntry}
use Rattle.replay.specs.declared.entry.EditFiles.{EditFiles}
use Rattle.replay.specs.declared.sizes.Sizes.{Sizes}

-- lines, the first of them with one more byte at its front
abbrev pub longer : ℕ → List (List ℕ) → List (List ℕ)
longer b [] = (b ∷ []) ∷ []
longer b (line ∷ lines) = (b ∷ line) ∷ lines

-- the lines of a text: each ends at an LF (10), which is no part of it, and the last may end with the text
unfoldable pub lines_of : List ℕ → List (List ℕ)
lines_of [] = []
lines_of (b ∷ bytes) = if b == 10 then [] ∷ lines_of bytes else longer b (lines_of bytes)

-- a line with its end
abbrev pub with_end : List ℕ → List ℕ
with_end line = line ++ 10 ∷ []

-- lines as a text: each with its end
abbrev pub text_of : List (List ℕ) → List ℕ
text_of lines = flat_map with_end lines

-- bytes as a file, where they are text
abbrev pub text_file : List ℕ → Option (Option (List ℕ))
text_file bytes = if is_utf8 bytes then Some (Some bytes) else None

-- the file that so many of the lines are: none of no lines, and nothing where lines are missing or are no text
abbrev pub file_in : ℕ → List (List ℕ) → Option (Option (List ℕ))
file_in count after =
    if count == 0 then Some None
    else if nat_le count (length after) then text_file (text_of (take count after))
    else None

abbrev pub files : Option (List ℕ) → Option (List ℕ) → Option (List ℕ) → EditFiles
files rules groups access = record { rules = rules; groups = groups; access = access }

-- how many lines the files of a line have: the rule file, the group file and the access security file of an edit
abbrev pub sizes_of : Line → Sizes
sizes_of (lines.Edit rules groups access) = record { rules = rules; groups = groups; access = access }
sizes_of said = record { rules = 0; groups = 0; access = 0 }

-- files of such sizes, where they are to be had: the first of them is the first of the lines, and each follows the one
-- before it
abbrev pub files_in : Sizes → List (List ℕ) → Option EditFiles
files_in sizes after =
    all_three files (file_in sizes.rules after) (file_in sizes.groups (drop sizes.rules after))
    (file_in sizes.access (drop sizes.groups (drop sizes.rules after)))

-- how many lines such files have together
abbrev pub all_lines : Sizes → ℕ
all_lines sizes = sizes.rules + (sizes.groups + sizes.access)

abbrev pub entry : Line → EditFiles → ScriptEntry
entry said had = record { line = said; files = had }

-- what a line asks for with the lines after it, where it is good: it is a line of a script, and its files are there
abbrev pub entry_of : List ℕ → List (List ℕ) → Option ScriptEntry
entry_of line after = option_and_then (λ said. option_map (entry said) (files_in (sizes_of said) after)) (line_of line)

-- how many of the lines after it are a line's own, whatever is in them: those of an edit's files
abbrev pub own_lines : Line → ℕ
own_lines said = all_lines (sizes_of said)

abbrev pub own_lines_of : Option Line → ℕ
own_lines_of None = 0
own_lines_of (Some said) = own_lines said

-- the number of a line that is bad, or else what is found later
abbrev pub bad_at : ℕ → Option ScriptEntry → Option ℕ → Option ℕ
bad_at number (Some good) later = later
bad_at number None later = Some number

-- the number of the first bad line, where the first of the lines has this number and so many of them are an edit's
-- own, and no lines of the script: they have numbers as all lines do, and none of them is bad
unfoldable pub first_bad : ℕ → ℕ → List (List ℕ) → Option ℕ
first_bad number pending [] = None
first_bad number zero (line ∷ after) =
    bad_at number (entry_of line after) (first_bad (number + 1) (own_lines_of (line_of line)) after)
first_bad number (suc pending) (line ∷ after) = first_bad (number + 1) pending after

-- the number of a script's first bad line, where there is one
abbrev pub first_bad_line : List ℕ → Option ℕ
first_bad_line script = first_bad 1 0 (lines_of script)

-- every line of a script whose bytes are known is good
abbrev pub IsGood : Option (List ℕ) → Type 0
IsGood None = Unit {0}
IsGood (Some script) = first_bad_line script ≡ None

-- its first bad line has this number
abbrev pub IsBadAt : Option (List ℕ) → ℕ → Type 0
IsBadAt None number = Unit {0}
IsBadAt (Some script) number = first_bad_line script ≡ Some number
