use Rattle.gateway_state.proofs.ToldRights.{reached_told}
use Rattle.gateway_core.proofs.Running.{running_kept}
use Rattle.gateway_core.proofs.engine.Engine.read.Goals as goal

-- whatever happened, clients know their rights
pub reading-requires : goal.reading-requires
reading-requires c = record { told = reached_told c.in-Some.rows.state (c.self.invariant c.in-Some.rows c.in-Some.is) }

-- and they go on to
pub invariant_of-self-2 : goal.invariant_of-self-2
invariant_of-self-2 c = λ x is. running_kept c.in-Some.rows c.reading.new.self x (c.self.invariant c.in-Some.rows c.in-Some.is) c.reading.ensures.looked.0 is
