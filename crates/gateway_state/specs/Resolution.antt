-- What an asked name leads to under a policy.
use Rattle.std.specs.Prelude.{ℕ, List, Bool, false, bytes_eq, Option, Some, None}
use Rattle.std.specs.Option.{option_map}
use Rattle.pv_alias.specs.declared.lead.Lead.{Lead}
use Rattle.pv_alias.specs.Resolution.{resolution}
use Rattle.rule_desk.specs.declared.policy.Policy.{Policy}
use Rattle.rule_desk.specs.Granting.{rights_by}
use Rattle.rule_desk.specs.Policy.{counts_as}

-- where the name leads that a host asks for, which counts as each of its names, too; nothing where it is refused
abbrev pub lead_of : Policy → List ℕ → List ℕ → Option Lead
lead_of policy host name = resolution policy.rules (counts_as policy host) name

-- the real name of a lead
abbrev pub real_in : Option Lead → Option (List ℕ)
real_in lead = option_map (λ (l : Lead). l.real) lead

-- the name leads to this real name
abbrev pub is_real : Option Lead → List ℕ → Bool
is_real None name = false
is_real (Some lead) name = bytes_eq lead.real name

-- the access rights that the policy leaves to who was led so, none to who was refused
abbrev pub rights_left : Policy → Option Lead → ℕ
rights_left policy None = 0
rights_left policy (Some lead) = rights_by policy.groups lead.group lead.grant
