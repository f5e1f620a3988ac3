use Rattle.std.proofs.Common.{is_some, ap, sym, ◌∙◌}
use Rattle.mask_merge.specs.Counts.{Counts, is_nothing}
use Rattle.named_rows.specs.Demand.{all_exchanged}
use Rattle.named_rows.proofs.Counting.{all_exchanged_of_nothing}
use Rattle.named_rows.proofs.Somebody.{somebody_all_exchanged, somebody_there, somebody_updated, kept_as_long}
use Rattle.named_rows.proofs.TalliesByName.{demand_there, demand_updated, demand_without}
use Rattle.named_rows.proofs.demand.Demand.exchange_on.Goals as goal

pub invariant_of-self-2 : goal.invariant_of-self-2
invariant_of-self-2 c =
    let rows = c.args.subs.now.rows in
    let old = c.self.inside.tallies.entries in
    let written = c.get_mut.follows.holds c.exchange_on.new.tally in
    let new = (c.get_mut.follows.lender c.exchange_on.new.tally).entries in
    let somebody = somebody_updated c.args.name.now old (c.get_mut.follows.lender c.exchange_on.new.tally).entries c.exchange_on.new.tally (written.3 (sym (ap is_some c.in-Some.ensures.value))).0
    (ap is_nothing c.exchange_on.ensures ∙ somebody_all_exchanged c.args.before c.args.after c.args.session c.args.sid rows c.in-Some.tally.now (somebody_there c.args.name.now old c.in-Some.tally.now c.in-Some.ensures.value c.self.invariant.somebody))
    c.self.invariant.somebody in
    kept_as_long old new c.self.inside.hints c.self.invariant somebody written.2

pub returns-in_default : goal.returns-in_default
returns-in_default c =
    let rows = c.args.subs.now.rows in
    rw (c.get_mut.follows.holds-at-none, ← c.self.view_is)
    (demand_without (all_exchanged c.args.before c.args.after c.args.session c.args.sid rows) c.args.name.now c.self.inside.tallies.entries c.in_default.ensures.value (all_exchanged_of_nothing c.args.before c.args.after c.args.session c.args.sid rows))

pub returns : goal.returns
returns c =
    let change : Counts → Counts = all_exchanged c.args.before c.args.after c.args.session c.args.sid c.args.subs.now.rows in
    let old = c.self.inside.tallies.entries in
    let there = demand_there c.args.name.now old c.in-Some.tally.now c.in-Some.ensures.value in
    let written = c.get_mut.follows.holds c.exchange_on.new.tally in
    rw (← c.self.view_is) (
    demand_updated change c.args.name.now old (c.get_mut.follows.lender c.exchange_on.new.tally).entries c.exchange_on.new.tally (written.3 (sym (ap is_some c.in-Some.ensures.value))).0
    (c.exchange_on.ensures ∙ ap change there)
    )
