use Rattle.link_table.specs.declared.links.Subject.TheVariants.{Properties}
use Rattle.gateway_state.proofs.SettledRuns.{run_subscribed_exactly, run_subscribed_to}
use Rattle.gateway_core.proofs.laws.run_subscribes_exactly.Goals as goal

pub returns-clause-values : goal.returns-clause-values
returns-clause-values c config policy events = run_subscribed_exactly config policy events

pub returns-clause-properties : goal.returns-clause-properties
returns-clause-properties c config policy events = run_subscribed_to Properties config policy events
