use Rattle.std.proofs.Common.{◌≡◌}
use Rattle.state_tables.specs.Leads.{AreLeads}
use Rattle.state_tables.proofs.searches.learn_all.Given as goal

-- each lead is what the policy says, and the rules stay
abbrev pub invariant-loop-one : goal.invariant-loop-one
invariant-loop-one l = AreLeads l.policy l.leads × (l.resolver ≡ l.policy.rules)
