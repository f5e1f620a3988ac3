-- What an intake gives, and what it keeps.
use Rattle.std.specs.Prelude.{◌≡◌, ℕ, ◌<◌, List, [], ◌∷◌, ◌++◌, Option, Some, None, Result, Ok, Err}
use Rattle.ca_header.specs.declared.header.Message.{Message}
use Rattle.ca_header.specs.declared.reading.Front.{Front}
use Rattle.ca_header.specs.declared.reading.Front.TheVariants.{Whole, Partial, Fault}
use Rattle.ca_header.specs.declared.intake.IntakeFault.{IntakeFault}
use Rattle.ca_header.specs.declared.intake.IntakeFault.TheVariants.{OutOfMemory, Faulted}
use Rattle.ca_header.specs.Framing.{Ending}
use Rattle.ca_header.specs.Framing as endings
use Rattle.ca_header.specs.Reading.{after_first, first_message, front_at}

-- what `take` gives, from what stands at the front of the bytes held, and what it leaves of them; it takes memory for a
-- payload alone
abbrev pub IsTake : List ℕ → Front → Result (Option Message) IntakeFault → List ℕ → Type 0
IsTake old (Whole h n) (Ok (Some m)) new = (m ≡ first_message h n old) × (new ≡ after_first h n old)
IsTake old (Whole h n) (Err OutOfMemory) new = (0 < h.size) × (new ≡ old)
IsTake old Partial (Ok None) new = new ≡ old
IsTake old (Fault f) (Err (Faulted g)) new = (g ≡ f) × (new ≡ old)
IsTake old _ _ new = ⊥

-- what happened to an intake: a piece was fed, or a message was taken
pub data Happening : Type 0 where
  Fed : List ℕ → Happening
  Taken : Message → Happening

-- what an intake held, what happened, and what it holds then
abbrev pub LeadsTo : List ℕ → List Happening → List ℕ → Type 0
LeadsTo old [] new = new ≡ old
LeadsTo old (Fed piece ∷ more) new = LeadsTo (old ++ piece) more new
LeadsTo old (Taken m ∷ more) new = (left : List ℕ) × IsTake old (front_at old) (Ok (Some m)) left × LeadsTo left more new

-- the pieces, joined
abbrev pub fed : List Happening → List ℕ
fed [] = []
fed (Fed piece ∷ more) = piece ++ fed more
fed (Taken m ∷ more) = fed more

-- the messages
abbrev pub taken : List Happening → List Message
taken [] = []
taken (Fed piece ∷ more) = taken more
taken (Taken m ∷ more) = m ∷ taken more

-- the end of the stream that an intake sees, from what stands at the front of the bytes held
abbrev pub ending_at : List ℕ → Front → Option Ending
ending_at held (Whole h n) = None
ending_at held Partial = Some (endings.Rest held)
ending_at held (Fault f) = Some (endings.Fault f)
