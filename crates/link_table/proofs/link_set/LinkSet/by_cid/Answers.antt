use Rattle.std.proofs.Common.{ap, ◌∙◌}
use Rattle.std.specs.List.{find}
use Rattle.link_table.specs.Links.{is_link}
use Rattle.link_table.specs.LinkIndex.{key, key_of}
use Rattle.link_table.proofs.KeyedLemmas.{row_at}
use Rattle.link_table.proofs.link_set.LinkSet.by_cid.Goals as goal

-- the link under the key is the first of this server with this ID
pub returns : goal.returns
returns c =
    let links = c.self.inside.rows in
    c.get.ensures ∙ row_at key_of (key c.args.server c.args.cid) links c.self.invariant.keyed ∙ ap (find (is_link c.args.server c.args.cid)) c.self.view_is
