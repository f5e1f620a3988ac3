use Rattle.std.proofs.Common.{ap, ◌∙◌}
use Rattle.std.specs.List.{filter, find}
use Rattle.named_rows.specs.Indexes.{is_at, is_not_at}
use Rattle.named_rows.proofs.Keyed.{entry_found}
use Rattle.state_tables.specs.Kept.{kept_key, search_in}
use Rattle.state_tables.proofs.SearchRows.{listed_with_less, under_with_less, with_less}
use Rattle.state_tables.proofs.search_table.SearchTable.take.Goals as goal

pub invariant_of-self : goal.invariant_of-self
invariant_of-self c = (
  under_with_less c.self.inside.rows c.self.invariant.0 c.self.inside.lists c.self.invariant.1 c.has_keys_apart.ensures c.args.key _ c.taken.ensures.rows,
  listed_with_less c.self.inside.rows c.self.invariant.0 c.self.inside.lists c.self.invariant.1 c.has_keys_apart.ensures c.args.key _ c.taken.ensures.rows _ c.unlist.ensures,
)

pub returns-clause-taken : goal.returns-clause-taken
returns-clause-taken c =
    c.taken.ensures.taken
    ∙ ap search_in (entry_found kept_key c.self.inside.rows c.self.invariant.0 c.args.key ∙ ap (find (is_at kept_key c.args.key)) c.self.view_is)

pub returns-clause-rows : goal.returns-clause-rows
returns-clause-rows c =
    with_less c.self.inside.rows c.self.invariant.0 c.self.inside.lists c.self.invariant.1 c.has_keys_apart.ensures c.args.key _ c.taken.ensures.rows ∙ ap (filter (is_not_at kept_key c.args.key)) c.self.view_is
