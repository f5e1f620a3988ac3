use Rattle.std.proofs.Common.{sym, subst}
use Rattle.std.proofs.lemmas.List.Elements.{All-nil}
use Rattle.state_tables.specs.declared.leads.LeadRow.{LeadRow}
use Rattle.state_tables.specs.Leads.{AreLeads, IsLead}
use Rattle.state_tables.proofs.searches.Searches.set_policy.Goals as goal

pub invariant_of-self : goal.invariant_of-self
invariant_of-self c = (
  c.in_ok-rows.ensures.right,
  subst (AreLeads c.args.policy) (sym c.new.ensures) (All-nil (λ (row : LeadRow). IsLead c.args.policy row.host row.name row.lead)),
)
