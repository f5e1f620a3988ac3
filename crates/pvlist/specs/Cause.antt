-- How it is told what is wrong with a line, and so with its file, or with a pattern.
use Rattle.std.specs.Prelude.{ℕ, List, ◌++◌, codes}
use Rattle.std.specs.Fmt.{decimal}
use Rattle.pvlist.specs.declared.fault.RuleCause.{RuleCause}
use Rattle.pvlist.specs.declared.fault.RuleCause.TheVariants.{LineTooLong, BadOrder, NoVerb, TooManyLines, BadFrom, BadGroup, BadPattern, BadReference}
use Rattle.pvlist.specs.declared.fault.RuleFault.{RuleFault}
use Rattle.pvlist.specs.declared.fault.RuleFault.TheVariants as file
use Rattle.pvlist.specs.declared.fault.TranslateFault.{TranslateFault}
use Rattle.pvlist.specs.declared.fault.TranslateFault.TheVariants as translation

-- what is wrong with a line
abbrev pub cause_text : RuleCause → List ℕ
cause_text LineTooLong = codes "LineTooLong"
cause_text BadOrder = codes "BadOrder"
cause_text NoVerb = codes "NoVerb"
cause_text TooManyLines = codes "TooManyLines"
cause_text BadFrom = codes "BadFrom"
cause_text BadGroup = codes "BadGroup"
cause_text BadPattern = codes "BadPattern"
cause_text BadReference = codes "BadReference"

-- a faulty line: its number, counted from 1, and what is wrong with it
abbrev pub line_text : ℕ → RuleCause → List ℕ
line_text line cause = codes "line " ++ decimal line ++ codes ": " ++ cause_text cause

-- want of memory
abbrev pub no_memory_text : List ℕ
no_memory_text = codes "out of memory"

-- a fault of a file
abbrev pub fault_text : RuleFault → List ℕ
fault_text (file.At line cause) = line_text line cause
fault_text file.OutOfMemory = no_memory_text

-- a fault of a pattern
abbrev pub pattern_fault_text : TranslateFault → List ℕ
pattern_fault_text translation.BadPattern = codes "bad pattern"
pattern_fault_text translation.OutOfMemory = no_memory_text
