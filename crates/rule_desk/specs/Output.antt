-- The lines that a check writes. A blank is 32, and a line's end 10.
use Rattle.std.specs.Prelude.{ℕ, List, [], ◌∷◌, ◌++◌, ◌==◌, if◌then◌else◌, length, codes, Option, Some, None}
use Rattle.std.specs.Fmt.{decimal}
use Rattle.pvlist.specs.Order.{order_text}
use Rattle.pvlist.specs.Ruling.{Ruling}
use Rattle.access_file.specs.declared.rule.Grant.{Grant}
use Rattle.pv_alias.specs.declared.lead.Lead.{Lead}
use Rattle.rule_desk.specs.Fault.{fault_text}
use Rattle.rule_desk.specs.declared.fault.DeskFault.{DeskFault}
use Rattle.rule_desk.specs.declared.answer.Answer.{Answer}
use Rattle.rule_desk.specs.declared.answer.Answer.TheVariants.{Admitted, Refused}

-- the line of good files: how many rows there are, and their order
abbrev pub ok_line : Ruling → List ℕ
ok_line rules = codes "ok " ++ decimal (length rules.rows) ++ codes " rows " ++ order_text rules.order ++ 10 ∷ []

-- a group, `-` for none
abbrev pub group_text : Option (List ℕ) → List ℕ
group_text (Some group) = group
group_text None = codes "-"

-- the rights 0, 1 (to read) and 3 (to read and write)
abbrev pub rights_text : ℕ → List ℕ
rights_text rights = if rights == 0 then codes "none" else if rights == 1 then codes "read" else codes "write"

-- that writes are recorded
abbrev pub recorded_text : Option Grant → List ℕ
recorded_text None = []
recorded_text (Some grant) = if grant.recorded then codes " recorded" else []

-- the line of a name that is admitted: the name that is served, the group, the rights, and whether writes are recorded
abbrev pub admitted_line : Lead → ℕ → List ℕ
admitted_line lead rights =
    codes "admitted " ++ lead.real ++ 32 ∷ group_text lead.group ++ 32 ∷ rights_text rights ++ recorded_text lead.grant ++ 10 ∷ []

-- the line of an answer, if there is one
abbrev pub answer_line : Option Answer → List ℕ
answer_line (Some (Admitted lead rights)) = admitted_line lead rights
answer_line (Some Refused) = codes "refused\n"
answer_line None = []

-- what is written of good files
abbrev pub good_lines : Ruling → Option Answer → List ℕ
good_lines rules answer = ok_line rules ++ answer_line answer

-- the line of a fault
abbrev pub fault_line : DeskFault → List ℕ
fault_line fault = fault_text fault ++ 10 ∷ []
