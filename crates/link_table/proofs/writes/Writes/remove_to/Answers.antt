use Rattle.std.proofs.Common.{refl, sym, ap, ◌∙◌}
use Rattle.std.specs.List.{filter}
use Rattle.link_table.specs.Writes.{is_write, is_write_to, is_not_write_to}
use Rattle.link_table.specs.WriteIndex.{write_key}
use Rattle.link_table.proofs.OwnerLemmas.{one_less, others_kept, others_are_all}
use Rattle.link_table.proofs.writes.Writes.remove_to.Goals as goal

-- a write that is there goes each time
pub loop-id-smaller : goal.loop-id-smaller
loop-id-smaller c = rw c.remove.ensures (one_less (is_write c.args.server c.in-Some.id) c.loop-id.self c.in-Some.ensures.found)

pub loop-id-preserved : goal.loop-id-preserved
loop-id-preserved c =
    ap (filter (is_not_write_to c.args.server)) c.remove.ensures ∙ others_kept write_key c.args.server c.in-Some.id c.loop-id.self ∙ c.loop-id.invariant

-- at the end the writes are those to others
pub returns : goal.returns
returns c = sym (others_are_all (is_write_to c.args.server) c.loop-id.self (c.in_default.ensures.none refl)) ∙ c.loop-id.invariant
