use Rattle.std.proofs.Common.{map, ap, ◌∙◌}
use Rattle.std.specs.List.{list_any}
use Rattle.row_index.specs.Rows.{row_of}
use Rattle.named_rows.specs.Indexes.{is_at}
use Rattle.state_tables.specs.Kept.{kept_key}
use Rattle.state_tables.proofs.SearchRows.{as_before, listed_as_before, listed_with_one, new_key, under_as_before, under_with_more}
use Rattle.state_tables.proofs.search_table.SearchTable.add.Goals as goal

pub add-requires : goal.add-requires
add-requires c = record {
  new = new_key c.self.inside.rows c.self.invariant.0 c.self.inside.lists c.self.invariant.1 c.args.kept _ c.key-key.ensures (ap (list_any (is_at kept_key (kept_key c.args.kept))) c.self.view_is ∙ c.requires.new);
}

pub invariant_of-self-in-Ok : goal.invariant_of-self-in-Ok
invariant_of-self-in-Ok c = (
  under_with_more c.self.inside.rows c.self.invariant.0 c.self.inside.lists c.self.invariant.1 c.args.kept _ c.key-key.ensures (ap (list_any (is_at kept_key (kept_key c.args.kept))) c.self.view_is ∙ c.requires.new) _ c.in_ok-add.ensures.ok,
  listed_with_one c.self.inside.rows c.self.invariant.0 c.self.inside.lists c.self.invariant.1 c.args.kept _ c.key-key.ensures (ap (list_any (is_at kept_key (kept_key c.args.kept))) c.self.view_is ∙ c.requires.new) _ c.in_ok-add.ensures.ok _ c.in-Ok.ensures.ok,
)

-- the row goes again where it can't be listed
pub invariant_of-self-in-Err : goal.invariant_of-self-in-Err
invariant_of-self-in-Err c = (
  under_as_before c.self.inside.rows c.self.invariant.0 c.self.inside.lists c.self.invariant.1 c.args.kept _ c.key-key.ensures (ap (list_any (is_at kept_key (kept_key c.args.kept))) c.self.view_is ∙ c.requires.new) _ c.in_ok-add.ensures.ok _ c.remove.ensures,
  listed_as_before c.self.inside.rows c.self.invariant.0 c.self.inside.lists c.self.invariant.1 c.args.kept _ c.key-key.ensures (ap (list_any (is_at kept_key (kept_key c.args.kept))) c.self.view_is ∙ c.requires.new) _ c.in_ok-add.ensures.ok _ c.remove.ensures _ c.in-Err.ensures.err,
)

pub returns-in-Err-clause-err : goal.returns-in-Err-clause-err
returns-in-Err-clause-err c =
    ap (map row_of) (as_before c.self.inside.rows c.self.invariant.0 c.self.inside.lists c.self.invariant.1 c.args.kept _ c.key-key.ensures (ap (list_any (is_at kept_key (kept_key c.args.kept))) c.self.view_is ∙ c.requires.new) _ c.in_ok-add.ensures.ok _ c.remove.ensures) ∙ c.self.view_is
