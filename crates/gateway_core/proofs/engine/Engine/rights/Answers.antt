use Rattle.std.proofs.Common.{◌≡◌, Some, sym, ap, ◌∙◌}
use Rattle.std.specs.Option.{option_map}
use Rattle.gateway_core.specs.EngineState.{EngineState}
use Rattle.gateway_core.proofs.Running.{running_kept}
use Rattle.gateway_rows.specs.CountedState.{CountedState}
use Rattle.gateway_state.specs.Gateway.{Gateway}
use Rattle.gateway_state.specs.Rights.{rights_asked}
use Rattle.gateway_state.proofs.ReachedStates.{told_rights_hold}
use Rattle.gateway_core.proofs.engine.Engine.rights.Goals as goal

-- what the client was last told is what holds
pub returns-clause-found : goal.returns-clause-found
returns-clause-found c =
    let told = told_rights_hold c.in-Some.rows.state c.args.session c.args.sid (c.self.invariant c.in-Some.rows c.in-Some.is) in
    let held : Some c.in-Some.rows.state ≡ c.args.self.now.state = ap (option_map (λ (rows : CountedState). rows.state)) (sym c.in-Some.is) ∙ ap (λ (e : EngineState). e.state) c.self.view_is in
    ap Some (c.rights_told.ensures.found ∙ told) ∙ ap (option_map (λ (w : Gateway). rights_asked w c.args.session c.args.sid)) held

-- a question leaves the state as it is
pub invariant_of-self-2 : goal.invariant_of-self-2
invariant_of-self-2 c = λ x is. running_kept c.in-Some.rows c.rights_told.new.self x (c.self.invariant c.in-Some.rows c.in-Some.is) c.rights_told.ensures.looked.0 is
