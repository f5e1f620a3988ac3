use Rattle.std.proofs.Common.{ap}
use Rattle.gateway_state.specs.Resolution.{lead_of}
use Rattle.rule_desk.specs.Granting.{led, rights_by}
use Rattle.rule_desk.specs.Policy.{counts_as}
use Rattle.gateway_core.proofs.Ungranted.{nothing_granted}
use Rattle.gateway_core.proofs.laws.users_count_for_nothing_without_access.Goals as goal

pub returns-clause-leads : goal.returns-clause-leads
returns-clause-leads c policy name row none =
    ap (λ access. led access row.user (counts_as policy row.host) (lead_of policy row.host name)) none

pub returns-clause-ungranted : goal.returns-clause-ungranted
returns-clause-ungranted c policy host name = nothing_granted policy.rules (counts_as policy host) name

pub returns-clause-rights : goal.returns-clause-rights
returns-clause-rights c policy lead none = ap (λ grant. rights_by policy.groups lead.group grant) none
