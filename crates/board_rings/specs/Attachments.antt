-- The attachments of attached connections.
use Rattle.std.specs.Prelude.{◌≡◌, ℕ, ◌+◌, ◌-◌, ◌==◌, List, [], ◌∷◌, ◌++◌, length, Bool, true, false, not, nat_lt, ◌&&◌, ◌||◌, if◌then◌else◌, Option, Some, None}
use Rattle.std.specs.List.{find, list_any}
use Rattle.std.specs.Option.{option_map}
use Rattle.ca_message.specs.declared.commands.TheConstants.{CA_PROTO_EVENT_ADD, CA_PROTO_EVENT_CANCEL, CA_PROTO_WRITE, CA_PROTO_WRITE_NOTIFY}
use Rattle.fanout.specs.declared.outbox.Out.{Out}
use Rattle.gateway_state.specs.Connections.{same_dest}
use Rattle.gateway_state.specs.declared.event.Dest.{Dest}
use Rattle.gateway_state.specs.declared.event.Dest.TheVariants.{Session, Upstream}
use Rattle.board_rings.specs.declared.inbound.Inbound.{Inbound}
use Rattle.board_rings.specs.declared.inbound.Inbound.TheVariants.{Message, Gone}
use Rattle.board_rings.specs.Rings.{AttachmentState, Ring}

-- the attachment of this connection
abbrev pub is_attachment_of : Dest → AttachmentState → Bool
is_attachment_of dest attachment = same_dest attachment.dest dest

-- the attachment of another
abbrev pub is_not_attachment_of : Dest → AttachmentState → Bool
is_not_attachment_of dest attachment = not (is_attachment_of dest attachment)

-- the attachment of a connection, nothing where it isn't attached
abbrev pub attachment_of : Dest → List AttachmentState → Option AttachmentState
attachment_of dest attachments = find (is_attachment_of dest) attachments

-- its rings, in and out
abbrev pub rings_of : Dest → List AttachmentState → Option (Ring × Ring)
rings_of dest attachments = option_map (λ attachment. (attachment.ends.in_ring, attachment.ends.out_ring)) (attachment_of dest attachments)

abbrev pub is_attached : Dest → List AttachmentState → Bool
is_attached dest attachments = list_any (is_attachment_of dest) attachments

-- clients come before servers, each by rising number
abbrev pub comes_before : Dest → Dest → Bool
comes_before (Session a) (Session b) = nat_lt a b
comes_before (Session a) (Upstream b) = true
comes_before (Upstream a) (Session b) = false
comes_before (Upstream a) (Upstream b) = nat_lt a b

-- it doesn't come before this connection's
abbrev pub is_from : Dest → AttachmentState → Bool
is_from dest attachment = not (comes_before attachment.dest dest)

-- each before all that follow
abbrev pub are_behind : Dest → List AttachmentState → Bool
are_behind dest [] = true
are_behind dest (attachment ∷ attachments) = comes_before dest attachment.dest && are_behind dest attachments

abbrev pub are_in_order : List AttachmentState → Bool
are_in_order [] = true
are_in_order (attachment ∷ attachments) = are_behind attachment.dest attachments && are_in_order attachments

-- a request that reaches a server: a write, a subscription or its cancel. A read doesn't, which is answered from the
-- cache. Each has the SID of its channel as its first parameter
abbrev pub reaches_server : ℕ → Bool
reaches_server command =
    command == CA_PROTO_WRITE || command == CA_PROTO_WRITE_NOTIFY || command == CA_PROTO_EVENT_ADD || command == CA_PROTO_EVENT_CANCEL

-- the SID of the last request, where that reaches a server, once this item came behind the others
abbrev pub sid_after : Inbound → Option ℕ → Option ℕ
sid_after (Message message) before = if reaches_server message.head.command then Some message.head.p1 else None
sid_after Gone before = before

-- the SID of a connection's last request, where that reaches a server, nothing where its end comes
abbrev pub last_sid : AttachmentState → Option ℕ
last_sid attachment = if attachment.leaving then None else attachment.last

abbrev pub sid_or_none : Option AttachmentState → Option ℕ
sid_or_none None = None
sid_or_none (Some attachment) = last_sid attachment

-- nothing where it isn't attached
abbrev pub last_sid_of : Dest → List AttachmentState → Option ℕ
last_sid_of dest attachments = sid_or_none (attachment_of dest attachments)

-- its ring in was looked into once, and nothing was there
abbrev pub with_look_in : AttachmentState → AttachmentState
with_look_in attachment = record attachment { in_looks = attachment.in_looks + 1 }

-- one item more was received, and so many are known to follow: by a look for each
abbrev pub with_received : Inbound → ℕ → AttachmentState → AttachmentState
with_received item seen attachment = record attachment {
  ends = record attachment.ends { received = attachment.ends.received ++ item ∷ [] };
  seen = seen;
  in_looks = attachment.in_looks + 1 + 1;
  last = sid_after item attachment.last;
}

-- its ring out was looked into once, and so many places were found free
abbrev pub with_free : ℕ → AttachmentState → AttachmentState
with_free free attachment = record attachment { free = free; out_looks = attachment.out_looks + 1 }

-- these messages were pushed
abbrev pub with_pushed : List Out → AttachmentState → AttachmentState
with_pushed outs attachment = record attachment {
  ends = record attachment.ends { pushed = attachment.ends.pushed ++ outs };
  free = attachment.free - length outs;
}

-- its end was said to come
abbrev pub with_leaving : AttachmentState → AttachmentState
with_leaving attachment = record attachment { leaving = true }

-- it was weighed
abbrev pub with_full : Bool → AttachmentState → AttachmentState
with_full full attachment = record attachment { full = full }

-- too much waited for the connection
abbrev pub full_or_not : Option AttachmentState → Bool
full_or_not None = false
full_or_not (Some attachment) = attachment.full

abbrev pub is_full : Dest → List AttachmentState → Bool
is_full dest attachments = full_or_not (attachment_of dest attachments)

-- too much waited for one of them
abbrev pub have_full : List AttachmentState → Bool
have_full attachments = list_any (λ (attachment : AttachmentState). attachment.full) attachments

-- an attachment through which nothing went yet
abbrev pub new_attachment : Dest → Ring → Ring → ℕ → AttachmentState
new_attachment dest in_ring out_ring free = record {
  dest = dest;
  ends = record { in_ring = in_ring; received = []; out_ring = out_ring; pushed = [] };
  free = free;
  seen = 0;
  in_looks = 0;
  out_looks = 0;
  last = None;
  leaving = false;
  full = false;
}

-- no item is known to be in the ring in of the connection
abbrev pub SeesNothing : Dest → List AttachmentState → Type 0
SeesNothing dest attachments = (attachment : AttachmentState) → attachment_of dest attachments ≡ Some attachment → attachment.seen ≡ 0

-- no place of its ring out is known to be free
abbrev pub HasNoPlace : Dest → List AttachmentState → Type 0
HasNoPlace dest attachments = (attachment : AttachmentState) → attachment_of dest attachments ≡ Some attachment → attachment.free ≡ 0

-- the attachments with one more, in order; all others are as before
pub record IsWith (attachment : AttachmentState) (old new : List AttachmentState) : Type 0 where
  pub ordered : are_in_order new ≡ true
  pub found : (dest : Dest) → attachment_of dest new ≡ (if same_dest attachment.dest dest then Some attachment else attachment_of dest old)
