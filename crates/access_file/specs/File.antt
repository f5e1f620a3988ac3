-- What an access security file says, or its first fault.
use Rattle.std.specs.Prelude.{◌≡◌, ℕ, ◌+◌, ◌==◌, if◌then◌else◌, List, [], ◌∷◌, Result, Ok, Err}
use Rattle.access_file.specs.declared.fault.AccessCause.{AccessCause}
use Rattle.access_file.specs.declared.fault.AccessFault.{AccessFault}
use Rattle.access_file.specs.declared.fault.AccessFault.TheVariants as fault
use Rattle.access_file.specs.declared.reader.Reader.{Reader}
use Rattle.access_file.specs.Grammar.{start, all_taken, groups_of}
use Rattle.access_file.specs.Groups.{AccessGroups}
use Rattle.access_file.specs.Tokens.{Scan, Between, scan_after, ended_by, ended_last}

-- LF (10) ends a line
abbrev pub line_after : ℕ → ℕ → ℕ
line_after line b = if b == 10 then line + 1 else line

-- a cause is told with the line where it is found
abbrev pub or_fault_at : ℕ → Result Reader AccessCause → (Reader → Result AccessGroups AccessFault) → Result AccessGroups AccessFault
or_fault_at line (Err cause) go_on = Err (fault.At line cause)
or_fault_at line (Ok s) go_on = go_on s

-- the rest of a text, in this line, behind what is begun and what was read
abbrev pub read_from : ℕ → Scan → Reader → List ℕ → Result AccessGroups AccessFault
read_from line scan s [] = or_fault_at line (all_taken (Ok s) (ended_last scan)) (λ all. Ok (groups_of all))
read_from line scan s (b ∷ rest) =
    or_fault_at line (all_taken (Ok s) (ended_by scan b)) (λ more. read_from (line_after line b) (scan_after scan b) more rest)

-- what the text says, or its first fault
abbrev pub access_of : List ℕ → Result AccessGroups AccessFault
access_of text = read_from 1 Between start text

-- the fault of the text, or memory ran out
abbrev pub IsFaultOf : Result AccessGroups AccessFault → AccessFault → Type 0
IsFaultOf read (fault.At line cause) = read ≡ Err (fault.At line cause)
IsFaultOf read fault.OutOfMemory = Unit {0}
