use Rattle.std.proofs.Common.{slice_get, ap, ◌∙◌}
use Rattle.std.specs.List.{filter}
use Rattle.named_rows.specs.Indexes.{ListedRows, is_owned}
use Rattle.named_rows.proofs.Keyed.{entries_owned}
use Rattle.named_rows.proofs.named_rows.NamedRows.nth_of.Goals as goal

pub returns : goal.returns
returns g c =
    c.of.ensures
    ∙ ap (λ rows. slice_get rows c.args.n) (entries_owned g.T.KeyedRow.key c.self.inside.rows c.self.invariant c.args.owner ∙ ap (λ (r : ListedRows _). filter (is_owned g.T.KeyedRow.key c.args.owner) r.rows) c.self.view_is)
