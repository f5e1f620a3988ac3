use Rattle.std.proofs.Common.{ap, ◌∙◌}
use Rattle.rows.specs.Rows.{change_first}
use Rattle.named_rows.specs.Indexes.{ListedRows, is_at}
use Rattle.named_rows.proofs.Keyed.{rows_changed, keyed_again, under_change}
use Rattle.named_rows.proofs.named_rows.NamedRows.put.Goals as goal

pub invariant_of-self : goal.invariant_of-self
invariant_of-self g c =
    keyed_again g.T.KeyedRow.key _ _ (under_change g.T.KeyedRow.key c.self.inside.rows c.self.invariant c.args.key (g.T.Changing.changed c.args.change) _ (g.met.T.Changing.keeps_key c.args.change) c.put.ensures)

pub returns-clause-rows : goal.returns-clause-rows
returns-clause-rows g c =
    rows_changed g.T.KeyedRow.key c.self.inside.rows c.self.invariant c.args.key (g.T.Changing.changed c.args.change) _ (g.met.T.Changing.keeps_key c.args.change) c.put.ensures
    ∙ ap (λ (r : ListedRows _). change_first (is_at g.T.KeyedRow.key c.args.key) (g.T.Changing.changed c.args.change) r.rows) c.self.view_is
