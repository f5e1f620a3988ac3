use Rattle.std.proofs.Common.{◌∙◌}
use Rattle.link_table.proofs.ServerLemmas.{cids_known}
use Rattle.link_table.proofs.table.numbers.has_cid.Goals as goal

-- each link is one of a server that stands
pub returns : goal.returns
returns c = c.has_cid_on.ensures ∙ cids_known c.args.servers.now c.args.cid c.args.links.now c.requires
