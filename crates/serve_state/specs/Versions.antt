-- Which versions of the protocol a client says, by the bytes that come from it (Channel Access Protocol Specification, VERSION).
use Rattle.std.specs.Prelude.{◌≡◌, ◌↔◌, ℕ, ◌-◌, ◌==◌, ◌&&◌, ◌||◌, nat_lt, if◌then◌else◌, Bool, true, false, List, [], ◌∷◌, ◌++◌}
use Rattle.std.specs.List.{concat}
use Rattle.ca_header.specs.Reading.{head_at}
use Rattle.ca_header.specs.Spelling.{AreSpelled, IsBytes}
use Rattle.ca_header.specs.declared.header.Header.{Header}
use Rattle.ca_header.specs.declared.header.Message.{Message}
use Rattle.ca_header.specs.declared.reading.Head.{Head}
use Rattle.ca_header.specs.declared.reading.Head.TheVariants.{Need, Got}

-- the header of a VERSION, which is command 0, whose minor version, its count, is below 9
abbrev pub is_too_old : Header → Bool
is_too_old head = (head.command == 0) && nat_lt head.count 9

-- ---- piece by piece

-- what came of the header of the message that comes, and how many bytes of a payload are to come before it; whether no message comes any
-- more, since what came is none; and whether a version that is too old came
pub record VersionState : Type 0 where
  pub held : List ℕ
  pub skip : ℕ
  pub lost : Bool
  pub too_old : Bool

abbrev pub unheard : VersionState
unheard = record { held = []; skip = 0; lost = false; too_old = false }

-- the header that these bytes are comes to be known, where they are one
abbrev pub with_head : List ℕ → Head → VersionState → VersionState
with_head held Need state = record state { held = held }
with_head held (Got head len) state = record state { held = []; skip = head.size; too_old = state.too_old || is_too_old head }
with_head held _ state = record state { held = []; lost = true }

abbrev pub with_header_byte : ℕ → VersionState → VersionState
with_header_byte byte state = with_head (state.held ++ byte ∷ []) (head_at (state.held ++ byte ∷ [])) state

abbrev pub after_byte : ℕ → VersionState → VersionState
after_byte byte state =
    if state.lost then state
    else if nat_lt 0 state.skip then record state { skip = state.skip - 1 }
    else with_header_byte byte state

abbrev pub after_bytes : List ℕ → VersionState → VersionState
after_bytes [] state = state
after_bytes (byte ∷ bytes) state = after_bytes bytes (after_byte byte state)

-- ---- the whole stream

-- the stream's pieces, one after the other
abbrev pub after_pieces : List (List ℕ) → VersionState → VersionState
after_pieces [] state = state
after_pieces (piece ∷ pieces) state = after_pieces pieces (after_bytes piece state)

-- behind whole messages the stream has this header, whose payload may still be to come
pub record HasHeader (stream : List ℕ) (head : Header) : Type 0 where
  pub messages : List Message
  pub before : List ℕ
  pub rest : List ℕ
  pub len : ℕ
  pub spelled : AreSpelled messages before
  pub stands : head_at rest ≡ Got head len
  pub parts : stream ≡ before ++ rest

abbrev pub SaysTooOld : List ℕ → Type 0
SaysTooOld stream = (head : Header) × HasHeader stream head × (is_too_old head ≡ true)

-- however a stream comes in pieces, a version that is too old came exactly where the stream has such a header
abbrev pub IsByHeaders : List (List ℕ) → Type 0
IsByHeaders pieces = IsBytes (concat pieces) → ((after_pieces pieces unheard).too_old ≡ true) ↔ SaysTooOld (concat pieces)
