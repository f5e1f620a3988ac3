use Rattle.std.proofs.Common.{slice_get, map, ap, ◌∙◌}
use Rattle.row_index.specs.Lists.{of}
use Rattle.row_index.specs.Rows.{row_of}
use Rattle.named_rows.specs.Indexes.{ListedRows, row_at}
use Rattle.named_rows.proofs.Keyed.{entry_found}
use Rattle.named_rows.proofs.named_rows.NamedRows.nth_on.Goals as goal

pub returns-in-Some : goal.returns-in-Some
returns-in-Some g c =
    c.get.ensures ∙ entry_found g.T.KeyedRow.key c.self.inside.rows c.self.invariant c.in-Some.key
    ∙ ap (row_at g.T.KeyedRow.key (map row_of c.self.inside.rows)) c.in-Some.ensures
    ∙ ap (λ (r : ListedRows _). row_at g.T.KeyedRow.key r.rows (slice_get (of r.on c.args.name.now) c.args.n)) c.self.view_is
