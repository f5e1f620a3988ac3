use Rattle.std.proofs.Common.{refl, ap, ◌∙◌}
use Rattle.rows.specs.Rows.{change_first}
use Rattle.named_rows.specs.Indexes.{is_at}
use Rattle.state_tables.specs.Kept.{made_again, kept_key}
use Rattle.state_tables.proofs.SearchRows.{listed_with_changed, under_with_changed, with_changed}
use Rattle.state_tables.proofs.search_table.SearchTable.make_again.Goals as goal

-- no text of the row changes
pub invariant_of-self : goal.invariant_of-self
invariant_of-self c = (
  under_with_changed c.self.inside.rows c.self.invariant.0 c.self.inside.lists c.self.invariant.1 c.args.key made_again (λ kept. refl) _ c.make_again.ensures,
  listed_with_changed c.self.inside.rows c.self.invariant.0 c.self.inside.lists c.self.invariant.1 c.args.key made_again (λ kept. refl) _ c.make_again.ensures,
)

pub returns : goal.returns
returns c =
    with_changed c.self.inside.rows c.self.invariant.0 c.self.inside.lists c.self.invariant.1 c.args.key made_again (λ kept. refl) _ c.make_again.ensures
    ∙ ap (change_first (is_at kept_key c.args.key) made_again) c.self.view_is
