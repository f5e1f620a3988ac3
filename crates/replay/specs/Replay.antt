-- How a replay ends.
use Rattle.std.specs.Prelude.{◌≡◌, ℕ, ◌⊎◌, List, [], ◌++◌, codes, Option, Some, Result, Ok, Err}
use Rattle.std.specs.Fmt.{decimal}
use Rattle.std.specs.declared.io.ErrorKind.{ErrorKind}
use Rattle.std.specs.declared.io.ErrorKind.TheVariants as kinds
use Rattle.gateway_calls.specs.declared.fault.AskFault.{AskFault}
use Rattle.gateway_calls.specs.declared.fault.AskFault.TheVariants as asking
use Rattle.replay.specs.declared.fault.PlayFault.{PlayFault}
use Rattle.replay.specs.declared.fault.PlayFault.TheVariants.{StreamFailed, OutOfMemory, EngineFailed}
use Rattle.replay.specs.declared.fault.ReplayFault.{ReplayFault}
use Rattle.replay.specs.declared.fault.ReplayFault.TheVariants.{BadLine, Halted}

-- why a replay ends where a stream fails: a reader or a writer may want memory of its own
abbrev pub fault_of_stream : ErrorKind → PlayFault
fault_of_stream kinds.OutOfMemory = OutOfMemory
fault_of_stream _ = StreamFailed

-- and where the engine doesn't answer
abbrev pub fault_of_asking : AskFault → PlayFault
fault_of_asking asking.OutOfMemory = OutOfMemory
fault_of_asking asking.Failed = EngineFailed

-- the status that the program ends with
abbrev pub status_of : ReplayFault → ℕ
status_of (BadLine n) = 2
status_of (Halted StreamFailed) = 3
status_of (Halted OutOfMemory) = 4
status_of (Halted EngineFailed) = 4

-- the same, where it may have come to its script's end
abbrev pub status_at : {A : Type 0} → Result A ReplayFault → ℕ
status_at (Ok a) = 0
status_at (Err fault) = status_of fault

-- the statuses of a replay
abbrev pub IsStatus : ℕ → Type 0
IsStatus status = (status ≡ 0) ⊎ (status ≡ 2) ⊎ (status ≡ 3) ⊎ (status ≡ 4)

-- the line that names a bad line
abbrev pub bad_line : ℕ → List ℕ
bad_line n = codes "line " ++ decimal n ++ codes ": bad\n"

-- the line that says why a replay ended
abbrev pub fault_line : ReplayFault → List ℕ
fault_line (BadLine n) = bad_line n
fault_line (Halted EngineFailed) = codes "failed\n"
fault_line (Halted StreamFailed) = []
fault_line (Halted OutOfMemory) = []

-- the same, none at the script's end
abbrev pub last_line : {A : Type 0} → Result A ReplayFault → List ℕ
last_line (Ok a) = []
last_line (Err fault) = fault_line fault

-- a fact of the number of the bad line at which a replay ended, if it did
abbrev pub IfBadLine : {A : Type 0} → Result A ReplayFault → (ℕ → Type 0) → Type 0
IfBadLine (Ok a) P = Unit {0}
IfBadLine (Err (BadLine n)) P = P n
IfBadLine (Err (Halted fault)) P = Unit {0}

-- the bytes that were written end in this text
abbrev pub EndsIn : Option (List ℕ) → List ℕ → Type 0
EndsIn written text = (before : List ℕ) × (written ≡ Some (before ++ text))
