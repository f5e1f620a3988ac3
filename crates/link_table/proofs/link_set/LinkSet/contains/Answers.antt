use Rattle.std.proofs.Common.{ap, ◌∙◌}
use Rattle.std.specs.List.{list_any}
use Rattle.link_table.specs.Links.{is_link}
use Rattle.link_table.specs.LinkIndex.{key, key_of}
use Rattle.link_table.proofs.KeyedLemmas.{some_row_at}
use Rattle.link_table.proofs.link_set.LinkSet.contains.Goals as goal

-- there is a link under the key where one is of this server with this ID
pub returns : goal.returns
returns c =
    let links = c.self.inside.rows in
    c.contains.ensures ∙ some_row_at key_of (key c.args.server c.args.cid) links c.self.invariant.keyed ∙ ap (list_any (is_link c.args.server c.args.cid)) c.self.view_is
