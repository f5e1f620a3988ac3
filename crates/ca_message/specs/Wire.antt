-- Messages by their fields, as the tables of the protocol give them.
use Rattle.std.specs.Prelude.{◌≡◌, ℕ, ◌%◌, ◌≤◌, List, length, min}
use Rattle.ca_header.specs.Spelling.{IsWellFormed}
use Rattle.ca_header.specs.declared.header.Message.{Message}
use Rattle.ca_header.specs.declared.header.TheConstants.{ALIGNMENT, MAX_PAYLOAD}
use Rattle.ca_message.specs.declared.payload.TheConstants.{LARGEST_SIZE}

-- what the size field says of a payload: how many bytes it has, up to the most that the field can say
abbrev pub size_field : List ℕ → ℕ
size_field payload = min (length payload) LARGEST_SIZE

-- a message with these fields, and a header that says the payload's size
abbrev pub message : (command dtype count p1 p2 : ℕ) → (payload : List ℕ) → Message
message command dtype count p1 p2 payload =
    record { head = record { command = command; dtype = dtype; p1 = p1; p2 = p2; count = count; size = size_field payload }; payload = payload }

-- what a payload may be: a multiple of 8 bytes, within the limit
pub record IsPayload (payload : List ℕ) : Type 0 where
  pub aligned : length payload % ALIGNMENT ≡ 0
  pub within_limit : length payload ≤ MAX_PAYLOAD

-- the header may head a message, and says how many bytes the payload has
pub record IsWholeMessage (m : Message) : Type 0 where
  pub well_formed : IsWellFormed m.head
  pub size : length m.payload ≡ m.head.size
