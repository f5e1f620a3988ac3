-- How a whole stream is cut into messages.
use Rattle.std.specs.Prelude.{◌≡◌, ℕ, ◌⊎◌, List, ◌++◌}
use Rattle.ca_header.specs.declared.header.Header.{Header}
use Rattle.ca_header.specs.declared.header.Message.{Message}
use Rattle.ca_header.specs.declared.reading.FrameFault.{FrameFault}
use Rattle.ca_header.specs.Spelling.{AreSpelled, BeginsWith, HasFault, IsProperPrefix, IsSpelled, IsSpelling}

-- what follows the last whole message: less than a message, or a header that has a fault
pub data Ending : Type 0 where
  Rest : List ℕ → Ending
  Fault : FrameFault → Ending

-- the bytes are the beginning of a header
abbrev pub IsPartHead : List ℕ → Type 0
IsPartHead bytes = (h : Header) × (head : List ℕ) × IsSpelling h head × IsProperPrefix bytes head

-- the bytes are the beginning of a message
abbrev pub IsPartMessage : List ℕ → Type 0
IsPartMessage bytes = (m : Message) × (text : List ℕ) × IsSpelled m text × IsProperPrefix bytes text

abbrev pub IsPartial : List ℕ → Type 0
IsPartial bytes = IsPartHead bytes ⊎ IsPartMessage bytes

-- the bytes begin with a header that has this fault
abbrev pub IsFaulty : List ℕ → FrameFault → Type 0
IsFaulty bytes f = (h : Header) × (n : ℕ) × BeginsWith bytes h n × HasFault h f

abbrev pub Ends : List ℕ → Ending → Type 0
Ends bytes (Rest rest) = (rest ≡ bytes) × IsPartial bytes
Ends bytes (Fault f) = IsFaulty bytes f

-- the stream is these messages, one after the other, and then ends so
pub record IsFramed (stream : List ℕ) (messages : List Message) (end : Ending) : Type 0 where
  pub whole : List ℕ
  pub left : List ℕ
  pub spelled : AreSpelled messages whole
  pub ends : Ends left end
  pub parts : stream ≡ whole ++ left
