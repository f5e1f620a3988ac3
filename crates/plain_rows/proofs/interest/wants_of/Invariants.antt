use Rattle.std.proofs.Common.{◌≡◌, ◌++◌, map, drop}
use Rattle.mask_merge.specs.Counts.{as_native, want_asked}
use Rattle.plain_rows.proofs.interest.wants_of.Given as goal

-- the wants so far and those of the asks that are left are those of all
abbrev pub invariant-loop-ask : goal.invariant-loop-ask
invariant-loop-ask l =
    l.wants.items ++ map (as_native l.native) (map want_asked (drop l.ask-index l.asks)) ≡ map (as_native l.native) (map want_asked l.asks)
