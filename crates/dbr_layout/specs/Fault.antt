-- Answers that may be a fault.
use Rattle.std.specs.Prelude.{◌≡◌, Result, Ok, Err, IsOk}
use Rattle.dbr_layout.specs.declared.fault.LayoutFault.{LayoutFault}
use Rattle.dbr_layout.specs.declared.fault.LayoutFault.TheVariants.{OutOfMemory}

-- what follows on a good answer; a fault stays
infixl 10 ◌>>=◌
abbrev pub ◌>>=◌ : {A B : Type 0} → Result A LayoutFault → (A → Result B LayoutFault) → Result B LayoutFault
(Ok x) >>= f = f x
(Err fault) >>= f = Err fault

-- a fault may stand in place of this answer: the fault itself, and want of memory for a good one
abbrev pub IsFaultOf : {A : Type 0} → Result A LayoutFault → LayoutFault → Type 0
IsFaultOf answer OutOfMemory = IsOk answer
IsFaultOf answer fault = answer ≡ Err fault
