-- What contracts see of the ends of rings.
use Rattle.std.specs.Prelude.{ℕ, List, Bool, Option}
use Rattle.std.specs.declared.alloc.Global.{Global}
use denote.RawPtr.{Ptr}
use Rattle.rtrb.specs.Shared.{Names}
use Rattle.rtrb.specs.declared.end.End.{End}
use Rattle.gateway_state.specs.declared.event.Dest.{Dest}
use Rattle.fanout.specs.declared.outbox.Out.{Out}
use Rattle.board_rings.specs.declared.inbound.Inbound.{Inbound}
use Rattle.board_rings.specs.Told.{TimesTold}

-- which ring it is: what is the same at both of its ends
pub record Ring : Type 0 where
  pub words : Ptr
  pub slots : Ptr
  pub names : Names
  pub heap : Global

-- the ring that an end belongs to
abbrev pub ring_of : {T P : Type 0} → End T Global P → Ring
ring_of end = record { words = end.words; slots = end.slots; names = end.names; heap = end.heap }

-- a reader's end: whose it is, all that was ever offered by it, how many places are known to be free, and how often it
-- looked into the ring; and how often it was told that nothing is moved any more
pub record InletState : Type 0 where
  pub ring : Ring
  pub dest : Dest
  pub offered : List Inbound
  pub free : ℕ
  pub looks : ℕ
  pub stops : ℕ

-- a writer's end: all that was ever taken by it, what is known to be in the ring, and how often it looked into it; how
-- often it was told that nothing is moved any more, and that the messages for a connection come to an end
pub record OutletState : Type 0 where
  pub ring : Ring
  pub taken : List Out
  pub seen : List Out
  pub looks : ℕ
  pub stops : ℕ
  pub ends : TimesTold

-- the board's ends of both rings of one attachment: all that was ever received by the one, and pushed
-- by the other
pub record EndsState : Type 0 where
  pub in_ring : Ring
  pub received : List Inbound
  pub out_ring : Ring
  pub pushed : List Out

-- the attachment of a connection that is attached, how many places of its ring out are known to be free, and
-- how many items are known to be in its ring in; how often the board looked into each of them;
-- the channel of its last request, by its SID, where that reaches a server;
-- whether its end was said to come, and whether too much waited for it when it was last weighed
pub record AttachmentState : Type 0 where
  pub dest : Dest
  pub ends : EndsState
  pub free : ℕ
  pub seen : ℕ
  pub in_looks : ℕ
  pub out_looks : ℕ
  pub last : Option ℕ
  pub leaving : Bool
  pub full : Bool
