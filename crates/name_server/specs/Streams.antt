-- What a name server sends: messages whose payloads are short.
use Rattle.std.specs.Prelude.{◌≡◌, ℕ, ◌+◌, ◌<◌, ◌≤◌, Bool, true, false, nat_lt, nat_le, if◌then◌else◌, List, length, take, drop, All, Option, Some, None, Result, Ok, Err}
use Rattle.ca_header.specs.Framing.{IsFramed, Rest}
use Rattle.ca_header.specs.Reading.{front_at, head_at}
use Rattle.ca_header.specs.Spelling.{AreSpelled}
use Rattle.ca_header.specs.declared.header.Message.{Message}
use Rattle.ca_header.specs.declared.header.TheConstants.{EXTENDED_LEN}
use Rattle.ca_header.specs.declared.reading.Front.TheVariants.{Partial}
use Rattle.ca_header.specs.declared.reading.Head.{Head}
use Rattle.ca_header.specs.declared.reading.Head.TheVariants.{Got, Misaligned, Need, TooLarge}
use Rattle.name_server.specs.declared.stream_replies.StreamFault.{StreamFault}
use Rattle.name_server.specs.declared.stream_replies.StreamFault.TheVariants.{NoAnswers}
use Rattle.name_server.specs.declared.stream_replies.TheConstants.{PAYLOAD_LIMIT}
use Rattle.name_server.specs.StreamReplies.{stream_reply_of}
use Rattle.pv_search.specs.Picked.{picked_from}
use Rattle.pv_search.specs.declared.replies.Reply.{Reply}

abbrev pub AreShort : List Message → Type 0
AreShort messages = All (λ (m : Message). m.head.size ≤ PAYLOAD_LIMIT) messages

-- whether the header is one that no name server sends
abbrev pub is_refused : Head → Bool
is_refused Need = false
is_refused (Got head len) = nat_lt PAYLOAD_LIMIT head.size
is_refused Misaligned = true
is_refused TooLarge = true

-- short messages, and then such a header
pub record IsNoStream (bytes : List ℕ) : Type 0 where
  pub messages : List Message
  pub len : ℕ
  pub spelled : AreSpelled messages (take len bytes)
  pub short : AreShort messages
  pub refused : is_refused (head_at (drop len bytes)) ≡ true

-- the first so many bytes are short messages, and what is left is the beginning of one
pub record IsWholePart (bytes : List ℕ) (len : ℕ) : Type 0 where
  pub messages : List Message
  pub spelled : AreSpelled messages (take len bytes)
  pub short : AreShort messages
  pub within : len ≤ length bytes
  pub partial : front_at (drop len bytes) ≡ Partial
  pub few : length (drop len bytes) < EXTENDED_LEN + PAYLOAD_LIMIT

-- how many bytes the message has at whose header bytes begin, of which there are so many; none where it isn't whole
abbrev pub len_of : Head → ℕ → Result (Option ℕ) StreamFault
len_of Need bytes = Ok None
len_of (Got head len) bytes =
    if nat_lt PAYLOAD_LIMIT head.size then Err NoAnswers
    else if nat_le (len + head.size) bytes then Ok (Some (len + head.size))
    else Ok None
len_of Misaligned bytes = Err NoAnswers
len_of TooLarge bytes = Err NoAnswers

-- the bytes are short messages, whose replies these are, and then what is left of the next one
pub record IsHeard (bytes : List ℕ) (replies : List Reply) (left : List ℕ) : Type 0 where
  pub messages : List Message
  pub framed : IsFramed bytes messages (Rest left)
  pub short : AreShort messages
  pub all : replies ≡ picked_from stream_reply_of messages
