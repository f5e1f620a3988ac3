use Rattle.std.proofs.Common.{ap, ◌∙◌}
use Rattle.std.specs.List.{count_by}
use Rattle.named_rows.specs.Indexes.{ListedRows, is_owned}
use Rattle.named_rows.proofs.Keyed.{entries_counted}
use Rattle.named_rows.proofs.named_rows.NamedRows.count_of.Goals as goal

pub returns : goal.returns
returns g c =
    c.count_of.ensures ∙ entries_counted g.T.KeyedRow.key c.self.inside.rows c.self.invariant c.args.owner
    ∙ ap (λ (r : ListedRows _). count_by (is_owned g.T.KeyedRow.key c.args.owner) r.rows) c.self.view_is
