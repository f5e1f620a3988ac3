use Rattle.std.proofs.Common.{ℕ, ◌-◌, List, map, sym, ap, ◌∙◌, arith}
use Rattle.rtrb.specs.Ring.{sent, known_free}
use Rattle.fanout.specs.declared.outbox.Out.{Out}
use Rattle.fanout.specs.Waiting.{out_len}
use Rattle.board_rings.specs.OnTheWay.{last_of}
use Rattle.board_rings.specs.declared.attachment.TheConstants.{RING_SIZE}
use Rattle.board_rings.proofs.OnTheWay.{lengths_kept}
use Rattle.board_rings.proofs.attachment.Attachment.room.Goals as goal

-- the lengths that are kept are those of what is on the way now
pub invariant_of-self : goal.invariant_of-self
invariant_of-self c =
    let old = c.self.inside.write.end in
    let new = c.slots-free.new.self.end in
    let looked = c.slots-free.ensures.seen in record {
      places = looked.0.1 ∙ c.self.invariant.places;
      items = c.self.invariant.items;
      few = grind arith;
      lengths =
          c.keep_last.ensures
          ∙ ap (last_of (RING_SIZE - c.slots-free.result)) c.self.invariant.lengths
          ∙ lengths_kept out_len (RING_SIZE - c.slots-free.result) (RING_SIZE - known_free old) (sent old) (omega (arith, looked.2, c.slots-free.ensures.value))
          ∙ ap (λ (k : ℕ). map out_len (last_of (RING_SIZE - k) (sent old))) c.slots-free.ensures.value
          ∙ ap (λ (xs : List Out). map out_len (last_of (RING_SIZE - known_free new) xs)) (sym looked.1);
    }
