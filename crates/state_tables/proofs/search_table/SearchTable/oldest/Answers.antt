use Rattle.std.proofs.Common.{Some, slice_get, ap, ◌∙◌}
use Rattle.state_tables.specs.Kept.{key_in}
use Rattle.state_tables.proofs.SearchRows.{all_in}
use Rattle.state_tables.proofs.search_table.SearchTable.oldest.Goals as goal

pub returns-in-Some : goal.returns-in-Some
returns-in-Some c =
    ap Some c.key.ensures
    ∙ ap key_in (c.in-Some.ensures ∙ ap (λ rows. slice_get rows 0) (all_in c.self.inside.rows c.self.invariant.0 c.self.inside.lists c.self.invariant.1 ∙ c.self.view_is))

pub returns-in-None : goal.returns-in-None
returns-in-None c = ap key_in (c.in-None.ensures ∙ ap (λ rows. slice_get rows 0) (all_in c.self.inside.rows c.self.invariant.0 c.self.inside.lists c.self.invariant.1 ∙ c.self.view_is))
