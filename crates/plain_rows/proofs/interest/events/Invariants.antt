use Rattle.std.proofs.Common.{◌≡◌, bit_or, drop, fold, map}
use Rattle.mask_merge.specs.Merged.{mask_of, events}
use Rattle.plain_rows.proofs.interest.events.Given as goal

-- the events so far and those of the wants that are left are those of all
abbrev pub invariant-loop-want : goal.invariant-loop-want
invariant-loop-want l = fold bit_or l.events (map mask_of (drop l.want-index l.wants)) ≡ events l.wants
