-- Facts on how a replay ends.
use Rattle.std.proofs.Common.{◌≡◌, ℕ, List, Option, Some, None}
use Rattle.std.specs.Prelude.{IsSome, OnOk, Result, Ok, Err}
use Rattle.std.specs.Io.KnownBytes.{Appends}
use Rattle.replay.specs.declared.fault.PlayFault.TheVariants.{StreamFailed, OutOfMemory, EngineFailed}
use Rattle.replay.specs.declared.fault.ReplayFault.{ReplayFault}
use Rattle.replay.specs.declared.fault.ReplayFault.TheVariants.{BadLine, Halted}
use Rattle.replay.specs.Replay.{EndsIn, IfBadLine, bad_line, last_line, status_at}

-- status 0 is the script's end alone
pub OnOk-good : {A P : Type 0} (ended : Result A ReplayFault) → status_at ended ≡ 0 → OnOk ended P → P
OnOk-good (Ok a) is p = p
OnOk-good (Err (BadLine n)) is p = absurd (cc)
OnOk-good (Err (Halted StreamFailed)) is p = absurd (cc)
OnOk-good (Err (Halted OutOfMemory)) is p = absurd (cc)
OnOk-good (Err (Halted EngineFailed)) is p = absurd (cc)

appended : (old new : Option (List ℕ)) (text : List ℕ) → IsSome old → Appends old new text → EndsIn new text
appended None new text known is = absurd (cc)
appended (Some old) None text known is = absurd is
appended (Some old) (Some new) text known is = (old, cc)

-- status 2 is a bad line alone, and its number is printed
pub IfBadLine-bad : {A : Type 0} {P : ℕ → Type 0} {K : Type 0} (ended : Result A ReplayFault) (old new : Option (List ℕ))
    → status_at ended ≡ 2 → IfBadLine ended P → (K → IsSome old) → Appends old new (last_line ended)
    → (n : ℕ) × P n × (K → EndsIn new (bad_line n))
IfBadLine-bad (Ok a) old new is p known text = absurd (cc)
IfBadLine-bad (Err (BadLine n)) old new is p known text = (n, p, λ k. appended old new (bad_line n) (known k) text)
IfBadLine-bad (Err (Halted StreamFailed)) old new is p known text = absurd (cc)
IfBadLine-bad (Err (Halted OutOfMemory)) old new is p known text = absurd (cc)
IfBadLine-bad (Err (Halted EngineFailed)) old new is p known text = absurd (cc)

pub IfBadLine-weaker : {A : Type 0} (ended : Result A ReplayFault) (P Q : ℕ → Type 0) → ((n : ℕ) → P n → Q n) → IfBadLine ended P → IfBadLine ended Q
IfBadLine-weaker (Ok a) P Q f h = tt
IfBadLine-weaker (Err (BadLine n)) P Q f h = f n h
IfBadLine-weaker (Err (Halted fault)) P Q f h = tt

pub IfBadLine-both : {A : Type 0} (P Q : ℕ → Type 0) (ended : Result A ReplayFault) → IfBadLine ended P → IfBadLine ended Q → IfBadLine ended (λ n. P n × Q n)
IfBadLine-both P Q (Ok a) p q = tt
IfBadLine-both P Q (Err (BadLine n)) p q = (p, q)
IfBadLine-both P Q (Err (Halted fault)) p q = tt
