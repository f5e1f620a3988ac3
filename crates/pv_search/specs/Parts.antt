-- Parts of a client's datagram, and the one reply to them.
use Rattle.std.specs.Prelude.{◌≡◌, ℕ, ◌<◌, ◌≤◌, Bool, ◌==◌, if◌then◌else◌, List, [], ◌∷◌, ◌++◌, length, take, drop, count_by}
use Rattle.ca_header.specs.Framing.{Ending, IsFramed}
use Rattle.ca_header.specs.Header.{message_text}
use Rattle.ca_header.specs.Spelling.{AreSpelled}
use Rattle.ca_header.specs.declared.header.Message.{Message}
use Rattle.ca_message.specs.declared.commands.TheConstants.{CA_PROTO_SEARCH}
use Rattle.pv_search.specs.declared.answering.SearchAnswer.{SearchAnswer}
use Rattle.pv_search.specs.Answer.{IsAnswer}
use Rattle.pv_search.specs.Version.{version}

-- how many of the messages are searches
abbrev pub searches_among : List Message → ℕ
searches_among messages = count_by (λ (m : Message). m.head.command == CA_PROTO_SEARCH) messages

-- the first so many bytes are the first messages of the datagram: as many as have no more searches among them than may be
pub record IsFirstPart (datagram : List ℕ) (most bytes : ℕ) : Type 0 where
  pub part : List Message
  pub left : List Message
  pub end : Ending
  pub framed : IsFramed datagram (part ++ left) end
  pub spelled : AreSpelled part (take bytes datagram)
  pub within : bytes ≤ length datagram
  pub few : searches_among part ≤ most
  pub full : (next : Message) (later : List Message) → left ≡ next ∷ later → most < searches_among (part ++ next ∷ [])

-- one reply for two, which says the version once
abbrev pub joined : List ℕ → List ℕ → List ℕ
joined reply more = if length reply == 0 then more else reply ++ drop (length (message_text version)) more

abbrev pub nothing_answered : SearchAnswer
nothing_answered = record { reply = []; asked = [] }

-- what was answered so far, and the answer to one part more
abbrev pub with_answer : SearchAnswer → SearchAnswer → SearchAnswer
with_answer sofar part = record { reply = joined sofar.reply part.reply; asked = sofar.asked ++ part.asked }

-- the answers to all parts, joined one after the other
abbrev pub joined_answers : SearchAnswer → List SearchAnswer → SearchAnswer
joined_answers sofar [] = sofar
joined_answers sofar (part ∷ parts) = joined_answers (with_answer sofar part) parts

-- the datagram is taken apart, and these are the answers to its parts
abbrev pub AreAnswers : (List ℕ → Bool → Type 0) → ℕ → ℕ → List ℕ → List SearchAnswer → Type 0
AreAnswers answers most port datagram [] = IsFirstPart datagram most 0
AreAnswers answers most port datagram (part ∷ parts) =
    (bytes : ℕ) × IsFirstPart datagram most bytes × IsAnswer answers (take bytes datagram) port part × AreAnswers answers most port (drop bytes datagram) parts
