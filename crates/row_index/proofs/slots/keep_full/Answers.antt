use Rattle.std.proofs.Common.{rules}
use Rattle.std.proofs.lemmas.Fn.{filter_same}
use Rattle.row_index.specs.Slots.{is_full}
use Rattle.row_index.proofs.slots.keep_full.Goals as goal

-- the closure answers the test and stays as it is
pub returns : goal.returns
returns g c = filter_same _ is_full _ (λ row kept closure called. search rules) _ _ c.retain.ensures.filtered
