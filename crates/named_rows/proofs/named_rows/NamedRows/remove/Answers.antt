use Rattle.std.proofs.Common.{ap, ◌∙◌}
use Rattle.std.specs.List.{filter}
use Rattle.named_rows.specs.Indexes.{ListedRows, is_not_at}
use Rattle.named_rows.proofs.Keyed.{keyed_again, under_less, rows_less}
use Rattle.named_rows.proofs.named_rows.NamedRows.remove.Goals as goal

pub invariant_of-self : goal.invariant_of-self
invariant_of-self g c = keyed_again g.T.KeyedRow.key _ _ (under_less g.T.KeyedRow.key c.self.inside.rows c.self.invariant c.args.key _ c.remove-2.ensures)

pub returns-clause-rows : goal.returns-clause-rows
returns-clause-rows g c =
    rows_less g.T.KeyedRow.key c.self.inside.rows c.self.invariant c.args.key _ c.remove-2.ensures ∙ ap (λ (r : ListedRows _). filter (is_not_at g.T.KeyedRow.key c.args.key) r.rows) c.self.view_is
