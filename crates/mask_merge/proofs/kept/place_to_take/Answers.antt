-- From the end where it is the greatest, and else where the first stands that is like it.
use Rattle.std.proofs.Common.{sym, ap, ◌∙◌}
use Rattle.std.specs.Option.{option_copied}
use Rattle.mask_merge.specs.Counts.{is_count}
use Rattle.mask_merge.proofs.RisingLemmas.{last_within, removed_at_end, taken_by}
use Rattle.mask_merge.proofs.kept.place_to_take.Goals as goal

pub returns-in-Some-clause-taken : goal.returns-in-Some-clause-taken
returns-in-Some-clause-taken c =
    let found = sym c.last.ensures.value ∙ ap option_copied c.in-Some.is in
    (removed_at_end c.args.count c.in-Some.last.now c.args.counts.now c.requires.rising found c.if-last-count.true, last_within c.in-Some.last.now c.args.counts.now found)

pub returns-in_default-clause-taken : goal.returns-in_default-clause-taken
returns-in_default-clause-taken c = taken_by (is_count c.args.count) c.args.counts.now c.place_of.result c.place_of.ensures
