use Rattle.std.proofs.Common.{◌≡◌, drop, fold, map, max}
use Rattle.mask_merge.specs.Merged.{count_of, greatest}
use Rattle.plain_rows.proofs.interest.greatest.Given as goal

-- the greatest count so far or of the wants that are left is that of all
abbrev pub invariant-loop-want : goal.invariant-loop-want
invariant-loop-want l = fold max l.greatest (map count_of (drop l.want-index l.wants)) ≡ greatest l.wants
