-- Policies.
use Rattle.std.specs.Prelude.{ℕ, true, List, [], None}
use Rattle.access_file.specs.HostNames.{hosts_of}
use Rattle.pvlist.specs.declared.groups.GroupLine.{GroupLine}
use Rattle.pvlist.specs.declared.rules.Order.TheVariants.{AllowDeny}
use Rattle.pvlist.specs.Ruling.{Ruling}
use Rattle.rule_desk.specs.declared.policy.Policy.{Policy}

-- where there is no rule file, each name leads to itself
abbrev pub open_rules : Ruling
open_rules = record { order = AllowDeny; rows = []; is_open = true }

-- where there is no group file, no group has a line
abbrev pub no_groups : List GroupLine
no_groups = []

abbrev pub open_policy : Policy
open_policy = record { rules = open_rules; groups = no_groups; access = None; names = [] }

-- what a client on the host counts as under the policy: that host, and each of its names
abbrev pub counts_as : Policy → List ℕ → List (List ℕ)
counts_as policy host = hosts_of policy.names host
