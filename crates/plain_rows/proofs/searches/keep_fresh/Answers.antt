use Rattle.std.proofs.Common.{rules}
use Rattle.std.proofs.lemmas.Fn.{filter_same}
use Rattle.gateway_state.specs.Searches.{is_fresh}
use Rattle.plain_rows.proofs.searches.keep_fresh.Goals as goal

-- the closure answers the test and stays as it is
pub returns : goal.returns
returns c = filter_same _ is_fresh _ (λ row kept closure called. search rules) _ _ c.retain.ensures.filtered
