use Rattle.std.proofs.Common.{ap, ◌∙◌}
use Rattle.std.specs.List.{find}
use Rattle.named_rows.specs.Indexes.{ListedRows, is_at}
use Rattle.named_rows.proofs.Keyed.{entry_found}
use Rattle.named_rows.proofs.named_rows.NamedRows.get.Goals as goal

-- the key's row is the first that has it
pub returns : goal.returns
returns g c =
    c.get.ensures ∙ entry_found g.T.KeyedRow.key c.self.inside.rows c.self.invariant c.args.key
    ∙ ap (λ (r : ListedRows _). find (is_at g.T.KeyedRow.key c.args.key) r.rows) c.self.view_is
