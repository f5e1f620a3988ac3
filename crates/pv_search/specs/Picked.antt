-- What is read from the messages of a datagram.
use Rattle.std.specs.Prelude.{◌≡◌, ℕ, List, filter_map, Option}
use Rattle.ca_header.specs.Framing.{Ending, IsFramed}
use Rattle.ca_header.specs.declared.header.Header.{Header}
use Rattle.ca_header.specs.declared.header.Message.{Message}

-- what is read from some of the messages, in order
abbrev pub picked_from : {X : Type 0} → (Header → List ℕ → Option X) → List Message → List X
picked_from pick messages = filter_map (λ (m : Message). pick m.head m.payload) messages

-- the datagram is framed as a stream is, and this is what is read from its messages
pub record IsPicked {X : Type 0} (pick : Header → List ℕ → Option X) (datagram : List ℕ) (picked : List X) : Type 0 where
  pub messages : List Message
  pub end : Ending
  pub framed : IsFramed datagram messages end
  pub all : picked ≡ picked_from pick messages
