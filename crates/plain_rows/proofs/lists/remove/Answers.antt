use Rattle.std.proofs.Common.{rules, not}
use Rattle.std.proofs.lemmas.Fn.{filter_same}
use Rattle.plain_rows.proofs.lists.remove.Goals as goal

-- the closure answers the test and stays as it is
pub returns : goal.returns
returns g c =
    filter_same _ (λ row. not (g.K.Picker.picks c.args.key row)) _ (λ row kept closure called. search rules) _ _ c.retain.ensures.filtered
