use Rattle.std.proofs.Common.{slice_get, ap, ◌∙◌}
use Rattle.std.specs.List.{find}
use Rattle.state_tables.specs.Kept.{is_owned, key_in}
use Rattle.state_tables.proofs.SearchRows.{oldest_in}
use Rattle.state_tables.proofs.search_table.SearchTable.oldest_of.Goals as goal

-- the first key of the host is that of its first search
pub returns : goal.returns
returns c =
    c.first_of.ensures ∙ ap (λ keys. slice_get keys 0) c.of.ensures
    ∙ oldest_in c.self.inside.rows c.self.invariant.0 c.self.inside.lists c.self.invariant.1 c.args.owner.now
    ∙ ap (λ rows. key_in (find (is_owned c.args.owner.now) rows)) c.self.view_is
