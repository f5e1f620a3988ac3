use Rattle.std.proofs.Common.{is_some, ap, ◌∙◌}
use Rattle.std.specs.List.{list_any}
use Rattle.named_rows.specs.Indexes.{ListedRows, is_at}
use Rattle.named_rows.proofs.Keyed.{entry_found}
use Rattle.named_rows.proofs.Lists.{found_where_any}
use Rattle.named_rows.proofs.named_rows.NamedRows.contains.Goals as goal

pub returns : goal.returns
returns g c =
    c.contains.ensures ∙ ap is_some (entry_found g.T.KeyedRow.key c.self.inside.rows c.self.invariant c.args.key) ∙ found_where_any (is_at g.T.KeyedRow.key c.args.key) _
    ∙ ap (λ (r : ListedRows _). list_any (is_at g.T.KeyedRow.key c.args.key) r.rows) c.self.view_is
