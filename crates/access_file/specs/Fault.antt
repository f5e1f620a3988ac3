-- Why a token, and so a file, is not read, and how that is told.
use Rattle.std.specs.Prelude.{◌≡◌, ℕ, List, ◌++◌, codes, Result, Err}
use Rattle.std.specs.Fmt.{decimal}
use Rattle.access_file.specs.declared.fault.AccessCause.{AccessCause}
use Rattle.access_file.specs.declared.fault.AccessCause.TheVariants.{BadByte, Unclosed, Unexpected, Unfinished, UnknownWord, Calculated, Unserved, BadName, BadLevel, BadRight, NoUsers, NoHosts, Twice, TooMany}
use Rattle.access_file.specs.declared.fault.AccessFault.{AccessFault}
use Rattle.access_file.specs.declared.fault.AccessFault.TheVariants as file
use Rattle.access_file.specs.declared.fault.TokenFault.{TokenFault}
use Rattle.access_file.specs.declared.fault.TokenFault.TheVariants as token

-- the fault of a file that has one in this line
abbrev pub fault_at : ℕ → TokenFault → AccessFault
fault_at line (token.Cause cause) = file.At line cause
fault_at line token.OutOfMemory = file.OutOfMemory

-- the cause, or memory ran out
abbrev pub IsCauseOf : {X : Type 0} → Result X AccessCause → TokenFault → Type 0
IsCauseOf read (token.Cause cause) = read ≡ Err cause
IsCauseOf read token.OutOfMemory = Unit {0}

-- what is wrong
abbrev pub cause_text : AccessCause → List ℕ
cause_text BadByte = codes "BadByte"
cause_text Unclosed = codes "Unclosed"
cause_text Unexpected = codes "Unexpected"
cause_text Unfinished = codes "Unfinished"
cause_text UnknownWord = codes "UnknownWord"
cause_text Calculated = codes "Calculated"
cause_text Unserved = codes "Unserved"
cause_text BadName = codes "BadName"
cause_text BadLevel = codes "BadLevel"
cause_text BadRight = codes "BadRight"
cause_text NoUsers = codes "NoUsers"
cause_text NoHosts = codes "NoHosts"
cause_text Twice = codes "Twice"
cause_text TooMany = codes "TooMany"

-- a fault of a file: its line, counted from 1, and what is wrong there
abbrev pub fault_text : AccessFault → List ℕ
fault_text (file.At line cause) = codes "line " ++ decimal line ++ codes ": " ++ cause_text cause
fault_text file.OutOfMemory = codes "out of memory"
