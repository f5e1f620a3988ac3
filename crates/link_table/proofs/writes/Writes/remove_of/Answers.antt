use Rattle.std.proofs.Common.{refl, sym, ap, ◌∙◌}
use Rattle.std.specs.List.{filter}
use Rattle.link_table.specs.Writes.{is_write, is_write_of, is_not_write_of}
use Rattle.link_table.proofs.OwnerLemmas.{one_less, passing_kept, others_are_all}
use Rattle.link_table.proofs.writes.Writes.remove_of.Goals as goal

-- a write that is there goes each time
pub loop-key-smaller : goal.loop-key-smaller
loop-key-smaller c =
    let k = c.in-Some.key in
    rw c.remove.ensures (one_less (is_write k.owner k.id) c.loop-key.self c.in-Some.ensures.found)

pub loop-key-preserved : goal.loop-key-preserved
loop-key-preserved c =
    let k = c.in-Some.key in
    ap (filter (is_not_write_of c.args.session)) c.remove.ensures ∙ passing_kept (is_not_write_of c.args.session) (is_write k.owner k.id) c.loop-key.self c.in-Some.ensures.alone ∙ c.loop-key.invariant

-- at the end the others are all
pub returns : goal.returns
returns c = sym (others_are_all (is_write_of c.args.session) c.loop-key.self (c.in_default.ensures.none refl)) ∙ c.loop-key.invariant
