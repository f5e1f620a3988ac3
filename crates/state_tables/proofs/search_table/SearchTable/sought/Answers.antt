use Rattle.std.proofs.Common.{ap, ◌∙◌}
use Rattle.std.specs.List.{find}
use Rattle.state_tables.specs.Kept.{is_sought, key_in}
use Rattle.state_tables.proofs.SearchRows.{sought_in}
use Rattle.state_tables.proofs.search_table.SearchTable.sought.Goals as goal

-- it is among those that are listed under the name
pub returns : goal.returns
returns c =
    c.sought.ensures
    ∙ sought_in c.self.inside.rows c.self.invariant.0 c.self.inside.lists c.self.invariant.1 c.has_keys_apart.ensures c.args.host.now c.args.name.now c.of.result.now c.of.ensures
    ∙ ap (λ rows. key_in (find (is_sought c.args.host.now c.args.name.now) rows)) c.self.view_is
