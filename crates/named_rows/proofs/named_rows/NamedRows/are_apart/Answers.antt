use Rattle.std.proofs.Common.{subst}
use Rattle.named_rows.specs.Indexes.{IsApart, ListedRows}
use Rattle.named_rows.proofs.Keyed.{rows_apart}
use Rattle.named_rows.proofs.named_rows.NamedRows.are_apart.Goals as goal

pub returns : goal.returns
returns g c =
    subst (λ (r : ListedRows _). IsApart g.T.KeyedRow.key r.rows) c.self.view_is (rows_apart g.T.KeyedRow.key c.self.inside.rows c.self.invariant c.has_keys_apart.ensures)
