use Rattle.std.proofs.Common.{length, ap, ◌∙◌}
use Rattle.std.specs.List.{filter}
use Rattle.link_table.specs.Links.{is_of}
use Rattle.link_table.specs.LinkIndex.{key_of}
use Rattle.link_table.proofs.OwnerLemmas.{owned_count}
use Rattle.link_table.proofs.link_set.LinkSet.count_of.Goals as goal

-- a server owns as many rows as it has links
pub returns : goal.returns
returns c =
    c.count_of.ensures ∙ owned_count key_of c.args.server c.self.inside.rows c.self.invariant.keyed ∙ ap (λ links. length (filter (is_of c.args.server) links)) c.self.view_is
