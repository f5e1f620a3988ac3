-- What the calls of `Frames::next` give.
use Rattle.std.specs.Prelude.{◌≡◌, ℕ, List, [], ◌∷◌, Option, Some, None}
use Rattle.ca_header.specs.declared.header.Message.{Message}
use Rattle.ca_header.specs.declared.reading.Front.{Front}
use Rattle.ca_header.specs.declared.reading.Front.TheVariants as fronts
use Rattle.ca_header.specs.declared.frames.Frame.{Frame}
use Rattle.ca_header.specs.declared.frames.Frame.TheVariants as frames
use Rattle.ca_header.specs.Framing.{Ending}
use Rattle.ca_header.specs.Framing as endings
use Rattle.ca_header.specs.Reading.{after_first, first_message, front_at}

-- what a call gives, from what stands at the front of the bytes, and what it leaves of them
abbrev pub IsNext : List ℕ → Front → Frame → List ℕ → Type 0
IsNext old (fronts.Whole h n) (frames.Message head payload) new =
    (record { head = head; payload = payload.now } ≡ first_message h n old) × (new ≡ after_first h n old)
IsNext old fronts.Partial (frames.Rest rest) new = (rest.now ≡ old) × (new ≡ old)
IsNext old (fronts.Fault f) (frames.Fault g) new = (g ≡ f) × (new ≡ old)
IsNext old _ _ new = ⊥

-- calls, one after the other, give these frames
abbrev pub AreNext : List ℕ → List Frame → Type 0
AreNext bytes [] = Unit {0}
AreNext bytes (frame ∷ frames) = (left : List ℕ) × IsNext bytes (front_at bytes) frame left × AreNext left frames

-- the messages among the frames
abbrev pub messages_in : List Frame → List Message
messages_in [] = []
messages_in (frames.Message head payload ∷ more) = record { head = head; payload = payload.now } ∷ messages_in more
messages_in (frames.Rest rest ∷ more) = messages_in more
messages_in (frames.Fault f ∷ more) = messages_in more

-- what a frame that is no message says of the end
abbrev pub ending_in : Frame → Option Ending
ending_in (frames.Message head payload) = None
ending_in (frames.Rest rest) = Some (endings.Rest rest.now)
ending_in (frames.Fault f) = Some (endings.Fault f)
