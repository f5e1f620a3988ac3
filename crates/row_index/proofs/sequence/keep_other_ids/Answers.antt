use Rattle.std.proofs.Common.{rules}
use Rattle.std.proofs.lemmas.Fn.{filter_same}
use Rattle.row_index.specs.Lists.{is_not_id}
use Rattle.row_index.proofs.sequence.keep_other_ids.Goals as goal

-- the closure answers the test and stays as it is
pub returns : goal.returns
returns c = filter_same _ (is_not_id c.args.id) _ (λ row kept closure called. search rules) _ _ c.retain.ensures.filtered
