use Rattle.std.proofs.Common.{◌≡◌, ◌++◌, map}
use Rattle.channel_table.specs.Looks.{GoesOn}
use Rattle.touched_rows.specs.Touched.{disconnected, gone_notices_among}
use Rattle.consequences.proofs.gone.gone_notices.Given as goal

-- the notices so far and those on the channels that are left are all
abbrev pub invariant-loop-channel : goal.invariant-loop-channel
invariant-loop-channel l =
    (l.notices.items ++ map disconnected (map (λ row. row.now) l.channel-iterator.rest.items) ≡ gone_notices_among l.names l.known.state)
    × GoesOn l.fn.visits l.visits
