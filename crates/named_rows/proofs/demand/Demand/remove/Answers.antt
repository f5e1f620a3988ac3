use Rattle.std.proofs.Common.{is_some, refl, ap, sym, ◌∙◌, arith}
use Rattle.mask_merge.specs.Counts.{counted_without}
use Rattle.named_rows.proofs.Somebody.{somebody_less}
use Rattle.named_rows.proofs.TalliesByName.{demand_gone, demand_there}
use Rattle.named_rows.proofs.demand.Demand.remove.Goals as goal

pub returns-then-is_empty : goal.returns-then-is_empty
returns-then-is_empty c =
    let old = c.self.inside.tallies.entries in
    let there = demand_there c.args.name.now old c.in-Some.tally.now c.in-Some.ensures.value in
    let written = c.get_mut.follows.holds c.remove_from.new.tally in
    rw (← c.self.view_is) (
    demand_gone (counted_without c.args.ask) c.args.name.now old (c.get_mut.follows.lender c.remove_from.new.tally).entries c.forget.new.tallies.entries c.remove_from.new.tally
    (written.3 (sym (ap is_some c.in-Some.ensures.value))).0 c.forget.ensures.tallies
    (c.remove_from.ensures ∙ ap (counted_without c.args.ask) there) (c.if-is_empty.ensures.nothing refl)
    )

pub invariant_of-self-then-is_empty : goal.invariant_of-self-then-is_empty
invariant_of-self-then-is_empty c =
    let old = c.self.inside.tallies.entries in
    let mid = (c.get_mut.follows.lender c.remove_from.new.tally).entries in
    let written = c.get_mut.follows.holds c.remove_from.new.tally in
    let same = written.2 in
    let spare = c.self.invariant.spare in
    record {
      somebody = somebody_less c.args.name.now old mid c.forget.new.tallies.entries c.remove_from.new.tally (written.3 (sym (ap is_some c.in-Some.ensures.value))).0 c.forget.ensures.tallies c.self.invariant.somebody;
      spare = c.forget.ensures.hints (omega (arith, same, spare));
    }
