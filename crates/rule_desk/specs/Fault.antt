-- How it is told why an edit is refused.
use Rattle.std.specs.Prelude.{ℕ, List, ◌++◌, codes}
use Rattle.access_file.specs.Fault as access
use Rattle.access_file.specs.declared.fault.AccessFault.TheVariants as access_fault
use Rattle.pvlist.specs.Cause.{line_text, no_memory_text}
use Rattle.rule_desk.specs.declared.fault.DeskFault.{DeskFault}
use Rattle.rule_desk.specs.declared.fault.DeskFault.TheVariants.{Rules, Groups, Access, OutOfMemory}

-- a faulty line of the rule file is told as by itself, and one of the group file or the access security file is said to be
-- that
abbrev pub fault_text : DeskFault → List ℕ
fault_text (Rules line cause) = line_text line cause
fault_text (Groups line cause) = codes "groups " ++ line_text line cause
fault_text (Access line cause) = codes "access " ++ access.fault_text (access_fault.At line cause)
fault_text OutOfMemory = no_memory_text
