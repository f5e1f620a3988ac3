use Rattle.std.proofs.Common.{ap, ◌∙◌}
use Rattle.std.specs.Prelude.{slice_get}
use Rattle.std.specs.List.{filter}
use Rattle.link_table.specs.Links.{is_of}
use Rattle.link_table.specs.LinkIndex.{key_of}
use Rattle.link_table.proofs.OwnerLemmas.{owned_rows}
use Rattle.link_table.proofs.link_set.LinkSet.nth_of.Goals as goal

-- the nth row that a server owns is its nth link
pub returns : goal.returns
returns c =
    let own = owned_rows key_of c.args.server c.self.inside.rows c.self.invariant.keyed in
    c.of.ensures ∙ ap (λ links. slice_get links c.args.n) own ∙ ap (λ links. slice_get (filter (is_of c.args.server) links) c.args.n) c.self.view_is
