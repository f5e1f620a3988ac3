-- Of rising counts the last is read, and the native count where the first is 0.
use Rattle.std.proofs.Common.{◌≡◌, ◌<◌, ◌-◌, length, get_or, max, arith}
use Rattle.mask_merge.specs.Counts.{greatest_of}
use Rattle.mask_merge.proofs.PlaceLemmas.{greatest_native, greatest_last}
use Rattle.mask_merge.proofs.kept.greatest_of.Goals as goal

pub returns-then-counts-eq0 : goal.returns-then-counts-eq0
returns-then-counts-eq0 c =
    let found : max c.args.native (get_or c.args.counts.now (length c.args.counts.now - 1) 0) ≡ greatest_of c.args.native c.args.counts.now = greatest_native c.args.native c.args.counts.now c.requires c.if-counts-eq0.true in
    omega arith

pub returns-else-counts-eq0 : goal.returns-else-counts-eq0
returns-else-counts-eq0 c =
    let first : 0 < get_or c.args.counts.now 0 0 = omega arith in greatest_last c.args.native c.args.counts.now c.requires first
