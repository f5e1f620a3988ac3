use Rattle.std.proofs.Common.{◌≡◌, false, is_some, ap, sym, ◌∙◌}
use Rattle.std.specs.Prelude.{Ok, Err, OnOk, OnErr}
use Rattle.mask_merge.specs.Counts.{counted_with, is_nothing}
use Rattle.named_rows.proofs.Somebody.{somebody_there, somebody_updated, somebody_with, kept_as_long}
use Rattle.named_rows.proofs.demand.Demand.add.Goals as goal

pub invariant_of-self : goal.invariant_of-self
invariant_of-self c =
    let old = c.self.inside.tallies.entries in
    let written = c.get_mut.follows.holds c.add_to.new.tally in
    let was : is_nothing c.in-Some.tally.now ≡ false = somebody_there c.args.name.now old c.in-Some.tally.now c.in-Some.ensures.value c.self.invariant.somebody in
    let some : is_nothing c.add_to.new.tally ≡ false =
    elim c.add_to.result as (λ r. OnOk r (c.add_to.new.tally ≡ counted_with c.args.ask c.in-Some.tally.now) → OnErr r (c.add_to.new.tally ≡ c.in-Some.tally.now) → is_nothing c.add_to.new.tally ≡ false) [
      | Ok _ ↦ λ counts _. ap is_nothing counts ∙ somebody_with c.args.ask c.in-Some.tally.now
      | Err _ ↦ λ _ same. ap is_nothing same ∙ was
    ] c.add_to.ensures.ok c.add_to.ensures.err
    in
    let somebody = somebody_updated c.args.name.now old (c.get_mut.follows.lender c.add_to.new.tally).entries c.add_to.new.tally (written.3 (sym (ap is_some c.in-Some.ensures.value))).0 some c.self.invariant.somebody in
    kept_as_long old (c.get_mut.follows.lender c.add_to.new.tally).entries c.self.inside.hints c.self.invariant somebody written.2
