-- There is one count more, and room for it.
use Rattle.std.proofs.Common.{◌≡◌, ◌+◌, Some, length, ap, ◌∙◌, arith}
use Rattle.mask_merge.specs.Kept.{counts_of}
use Rattle.mask_merge.proofs.CountLemmas.{put_length, within_with}
use Rattle.mask_merge.proofs.RisingLemmas.{put_keeps}
use Rattle.mask_merge.proofs.kept.count_in.Goals as goal

pub returns-clause-fits : goal.returns-clause-fits
returns-clause-fits c =
    let kept = counts_of c.args.kept.now in
    let more : length c.put.new.counts.items ≡ length kept.counts + 1 = ap length c.put.ensures.items ∙ put_length c.in-Some.ask.want.count kept.counts in
    record {
      within = rw (c.more_if-kept.ensures, c.asks_log.ensures, c.more_if-kept-2.ensures, c.more_if-kept-3.ensures, c.put.ensures.items) (within_with (Some c.in-Some.ask) kept c.requires.fits.within);
      rising = rw c.put.ensures.items (put_keeps c.in-Some.ask.want.count kept.counts c.requires.fits.rising);
      room = omega arith;
    }
