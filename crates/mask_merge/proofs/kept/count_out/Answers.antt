-- There is one count less, and room for another.
use Rattle.std.proofs.Common.{◌≡◌, ◌+◌, length, ap, ◌∙◌, arith}
use Rattle.mask_merge.specs.Counts.{is_count}
use Rattle.mask_merge.specs.Kept.{counts_of}
use Rattle.mask_merge.proofs.CountLemmas.{left_length, within_left}
use Rattle.mask_merge.proofs.RisingLemmas.{removed_keeps}
use Rattle.mask_merge.proofs.kept.count_out.Goals as goal

pub returns-clause-fits : goal.returns-clause-fits
returns-clause-fits c =
    let held = rw c.in-Some.is at c.requires.held in
    let kept = counts_of c.args.kept.now in
    let less : length c.take_away.new.counts.items + 1 ≡ length kept.counts = ap (λ l. length l + 1) c.take_away.ensures.items ∙ left_length c.in-Some.ask kept held in
    record {
      within = rw (c.less_if-kept.ensures, c.asks_log.ensures, c.less_if-kept-2.ensures, c.less_if-kept-3.ensures, c.take_away.ensures.items) (within_left c.in-Some.ask kept c.requires.fits.within held);
      rising = rw c.take_away.ensures.items (removed_keeps (is_count c.in-Some.ask.want.count) kept.counts c.requires.fits.rising);
      room = omega arith;
    }

pub returns-clause-room : goal.returns-clause-room
returns-clause-room c =
    let held = rw c.in-Some.is at c.requires.held in
    let kept = counts_of c.args.kept.now in
    let less : length c.take_away.new.counts.items + 1 ≡ length kept.counts = ap (λ l. length l + 1) c.take_away.ensures.items ∙ left_length c.in-Some.ask kept held in
    omega arith
