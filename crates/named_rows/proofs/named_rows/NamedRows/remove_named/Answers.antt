use Rattle.std.proofs.Common.{ap, subst, ◌∙◌}
use Rattle.std.specs.List.{filter, find}
use Rattle.named_rows.specs.Indexes.{IsUnlistedOn, ListedRows, is_at, is_not_at}
use Rattle.named_rows.proofs.Keyed.{entry_found, keyed_again, under_less, rows_less}
use Rattle.named_rows.proofs.named_rows.NamedRows.remove_named.Goals as goal

pub invariant_of-self : goal.invariant_of-self
invariant_of-self g c = keyed_again g.T.KeyedRow.key _ _ (under_less g.T.KeyedRow.key c.self.inside.rows c.self.invariant c.args.key _ c.remove.ensures)

pub returns-clause-rows : goal.returns-clause-rows
returns-clause-rows g c =
    rows_less g.T.KeyedRow.key c.self.inside.rows c.self.invariant c.args.key _ c.remove.ensures ∙ ap (λ (r : ListedRows _). filter (is_not_at g.T.KeyedRow.key c.args.key) r.rows) c.self.view_is

pub returns-clause-on : goal.returns-clause-on
returns-clause-on g c =
    subst (λ (r : ListedRows _). IsUnlistedOn g.T.Named.name (find (is_at g.T.KeyedRow.key c.args.key) r.rows) c.args.key r.on c.unlist.new.on) c.self.view_is
    (subst (λ o. IsUnlistedOn g.T.Named.name o c.args.key c.self.inside.on c.unlist.new.on) (entry_found g.T.KeyedRow.key c.self.inside.rows c.self.invariant c.args.key) c.unlist.ensures)
