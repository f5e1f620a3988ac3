use Rattle.std.proofs.Common.{is_some, ap, sym, ◌∙◌}
use Rattle.mask_merge.specs.Counts.{Counts, exchanged, is_nothing}
use Rattle.named_rows.proofs.Somebody.{somebody_exchanged, somebody_there, somebody_updated, kept_as_long}
use Rattle.named_rows.proofs.TalliesByName.{demand_there, demand_updated}
use Rattle.named_rows.proofs.demand.Demand.exchange.Goals as goal

pub invariant_of-self-2 : goal.invariant_of-self-2
invariant_of-self-2 c =
    let old = c.self.inside.tallies.entries in
    let written = c.get_mut.follows.holds c.exchange.new.self in
    let new = (c.get_mut.follows.lender c.exchange.new.self).entries in
    let somebody = somebody_updated c.args.name.now old (c.get_mut.follows.lender c.exchange.new.self).entries c.exchange.new.self (written.3 (sym (ap is_some c.in-Some.ensures.value))).0
    (ap is_nothing c.exchange.ensures ∙ somebody_exchanged c.args.before c.args.after c.in-Some.tally.now (somebody_there c.args.name.now old c.in-Some.tally.now c.in-Some.ensures.value c.self.invariant.somebody))
    c.self.invariant.somebody in
    kept_as_long old new c.self.inside.hints c.self.invariant somebody written.2

pub returns : goal.returns
returns c =
    let change : Counts → Counts = exchanged c.args.before c.args.after in
    let old = c.self.inside.tallies.entries in
    let there = demand_there c.args.name.now old c.in-Some.tally.now c.in-Some.ensures.value in
    let written = c.get_mut.follows.holds c.exchange.new.self in
    rw (← c.self.view_is) (
    demand_updated change c.args.name.now old (c.get_mut.follows.lender c.exchange.new.self).entries c.exchange.new.self (written.3 (sym (ap is_some c.in-Some.ensures.value))).0
    (c.exchange.ensures ∙ ap change there)
    )
