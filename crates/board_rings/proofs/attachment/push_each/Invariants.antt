use Rattle.std.proofs.Common.{◌≡◌, ◌+◌, ◌≤◌, ◌++◌, length, map}
use Rattle.std.specs.Vec.Iter.{into_iter_items}
use Rattle.rtrb.specs.Ring.{sent, known_free, SameProducer}
use Rattle.fanout.specs.Waiting.{out_len}
use Rattle.board_rings.specs.declared.attachment.TheConstants.{RING_SIZE}
use Rattle.board_rings.proofs.attachment.push_each.Given as goal

-- what was pushed and what is still to be pushed are what was given, and so are the lengths
abbrev pub invariant-loop-out : goal.invariant-loop-out
invariant-loop-out l = record {
  ring : SameProducer l.initial.ring l.ring;
  pushed : sent l.ring ++ into_iter_items l.out-iterator ≡ sent l.initial.ring ++ into_iter_items l.initial.out-iterator;
  room : length (into_iter_items l.out-iterator) ≤ known_free l.ring;
  free : known_free l.ring + length (into_iter_items l.initial.out-iterator) ≡ known_free l.initial.ring + length (into_iter_items l.out-iterator);
  counted : length l.lengths + length (into_iter_items l.out-iterator) ≤ RING_SIZE;
  lengths : l.lengths ++ map out_len (into_iter_items l.out-iterator) ≡ l.initial.lengths ++ map out_len (into_iter_items l.initial.out-iterator);
}
