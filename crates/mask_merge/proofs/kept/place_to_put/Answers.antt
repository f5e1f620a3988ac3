-- Behind all others where none is greater, and else where the first stands that is not less.
use Rattle.std.proofs.Common.{sym, ap, ◌∙◌}
use Rattle.std.specs.Option.{option_copied}
use Rattle.mask_merge.specs.Kept.{is_not_less}
use Rattle.mask_merge.proofs.PlaceLemmas.{put_at_place, place_within}
use Rattle.mask_merge.proofs.RisingLemmas.{put_at_end}
use Rattle.mask_merge.proofs.kept.place_to_put.Goals as goal

pub returns-in-Some-clause-put : goal.returns-in-Some-clause-put
returns-in-Some-clause-put c =
    put_at_end c.args.count c.in-Some.last.now c.args.counts.now c.requires.rising (sym c.last.ensures.value ∙ ap option_copied c.in-Some.is) c.if-last-count.true

pub returns-in_default-clause-put : goal.returns-in_default-clause-put
returns-in_default-clause-put c = rw c.place_for.ensures (put_at_place c.args.count c.args.counts.now)

pub returns-in_default-clause-within : goal.returns-in_default-clause-within
returns-in_default-clause-within c = rw c.place_for.ensures (place_within (is_not_less c.args.count) c.args.counts.now)
