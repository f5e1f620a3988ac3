use Rattle.std.proofs.Common.{rules}
use Rattle.std.proofs.lemmas.Fn.{filter_same}
use Rattle.serve_state.specs.Late.{is_young}
use Rattle.serve_state.proofs.late.drop_old.Goals as goal

-- the closure answers the test and stays as it is
pub returns : goal.returns
returns g c = filter_same _ (is_young c.args.now) _ (λ row kept closure called. search rules) _ _ c.retain.ensures.filtered
