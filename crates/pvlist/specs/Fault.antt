-- Why a line, and so its file, is not read.
use Rattle.std.specs.Prelude.{◌≡◌, ℕ, Option, None}
use Rattle.pvlist.specs.declared.fault.RuleCause.{RuleCause}
use Rattle.pvlist.specs.declared.fault.RuleCause.TheVariants.{BadPattern}
use Rattle.pvlist.specs.declared.fault.TranslateFault.{TranslateFault}
use Rattle.pvlist.specs.declared.fault.TranslateFault.TheVariants as translation
use Rattle.pvlist.specs.declared.fault.RuleFault.{RuleFault}
use Rattle.pvlist.specs.declared.fault.RuleFault.TheVariants as file
use Rattle.pvlist.specs.declared.fault.RuleLineFault.{RuleLineFault}
use Rattle.pvlist.specs.declared.fault.RuleLineFault.TheVariants as line

-- the fault of a file whose line of this number has one
abbrev pub fault_at : ℕ → RuleLineFault → RuleFault
fault_at number (line.Cause cause) = file.At number cause
fault_at number line.OutOfMemory = file.OutOfMemory

-- nothing was found, which is this cause, or memory ran out
abbrev pub Lacks : {X : Type 0} → RuleCause → Option X → RuleLineFault → Type 0
Lacks cause found (line.Cause told) = (told ≡ cause) × (found ≡ None)
Lacks cause found line.OutOfMemory = Unit {0}

-- the fault of a line whose pattern is not translated
abbrev pub of_translation : TranslateFault → RuleLineFault
of_translation translation.BadPattern = line.Cause BadPattern
of_translation translation.OutOfMemory = line.OutOfMemory
