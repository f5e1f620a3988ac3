use Rattle.std.proofs.Common.{refl, sym, ap, ◌∙◌}
use Rattle.std.specs.List.{filter}
use Rattle.link_table.specs.Links.{is_link, is_of, is_not_of}
use Rattle.link_table.specs.LinkIndex.{key_of}
use Rattle.link_table.proofs.OwnerLemmas.{one_less, others_kept, others_are_all}
use Rattle.link_table.proofs.link_set.LinkSet.remove_of.Goals as goal

-- a link that is there goes each time
pub loop-cid-smaller : goal.loop-cid-smaller
loop-cid-smaller c = rw c.remove.ensures (one_less (is_link c.args.server c.in-Some.cid) c.loop-cid.self c.in-Some.ensures.found)

pub loop-cid-preserved : goal.loop-cid-preserved
loop-cid-preserved c =
    ap (filter (is_not_of c.args.server)) c.remove.ensures ∙ others_kept key_of c.args.server c.in-Some.cid c.loop-cid.self ∙ c.loop-cid.invariant

-- at the end the links are those of others
pub returns : goal.returns
returns c = sym (others_are_all (is_of c.args.server) c.loop-cid.self (c.in_default.ensures.none refl)) ∙ c.loop-cid.invariant
