use Rattle.std.proofs.Common.{rules}
use Rattle.std.proofs.lemmas.Fn.{filter_same}
use Rattle.serve_state.specs.Late.{is_unanswered}
use Rattle.serve_state.proofs.late.drop_answered.Goals as goal

-- the closure answers the test and stays as it is
pub returns : goal.returns
returns g c = filter_same _ (is_unanswered c.args.host c.args.port c.args.cids.now) _ (λ row kept closure called. search rules) _ _ c.retain.ensures.filtered
