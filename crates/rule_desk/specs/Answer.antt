-- What a policy answers of a name.
use Rattle.std.specs.Prelude.{List, Option, Some, None}
use Rattle.pvlist.specs.declared.groups.GroupLine.{GroupLine}
use Rattle.pv_alias.specs.Resolution.{resolution}
use Rattle.pv_alias.specs.declared.lead.Lead.{Lead}
use Rattle.rule_desk.specs.Granting.{led, rights_by}
use Rattle.rule_desk.specs.Policy.{counts_as}
use Rattle.rule_desk.specs.declared.policy.Policy.{Policy}
use Rattle.rule_desk.specs.declared.answer.Answer.{Answer}
use Rattle.rule_desk.specs.declared.answer.Answer.TheVariants.{Admitted, Refused}
use Rattle.rule_desk.specs.declared.answer.Question.{Question}

-- a name that leads somewhere has the rights that are granted there, or those of its group, and one that leads nowhere is
-- refused
abbrev pub answer_by : List GroupLine → Option Lead → Answer
answer_by lines (Some lead) = Admitted lead (rights_by lines lead.group lead.grant)
answer_by lines None = Refused

-- what is answered of the name that a user on the host asks for
abbrev pub answer_of : Policy → Question → Answer
answer_of policy asked =
    answer_by policy.groups (led policy.access asked.user.items (counts_as policy asked.host) (resolution policy.rules (counts_as policy asked.host) asked.name))
