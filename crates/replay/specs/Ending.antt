-- Connections that come and go in a replay.
use Rattle.std.specs.Prelude.{◌≡◌, ℕ, Bool, true, false, List, [], Option, Some, None, is_some}
use Rattle.std.specs.BTreeMap.{insert_entry}
use Rattle.std.specs.List.{find}
use Rattle.std.specs.Map.{lookup, remove_entry}
use Rattle.gateway_state.specs.Asked.{must_end, is_open}
use Rattle.gateway_state.specs.Step.{step}
use Rattle.gateway_state.specs.declared.event.Dest.{Dest}
use Rattle.gateway_state.specs.declared.event.Event.{Event}
use Rattle.replay_text.specs.Output.{end_line, shut_line}
use Rattle.replay.specs.Performing.{Becomes, Rests, Then, Until}
use Rattle.replay.specs.Played.{loss}
use Rattle.replay.specs.Player.{Playing, dest_cmp, is_dest, standing, stepped}
use Rattle.replay.specs.Printing.{IsPrinted}
use Rattle.replay.specs.declared.player.Misframed.{Misframed}

-- bytes of a connection are kept from now on, where none are yet and it stands: of one that is known already, what came
-- stays
abbrev pub kept_of : Bool → Bool → Dest → List (Dest × List ℕ) → List (Dest × List ℕ)
kept_of true is_open dest intakes = intakes
kept_of false true dest intakes = insert_entry dest_cmp intakes dest []
kept_of false false dest intakes = intakes

-- a connection opens, by this event
abbrev pub opened : Dest → Event → Playing → Playing
opened dest event p =
    record (stepped event p) { intakes = kept_of (is_some (lookup (is_dest dest) p.intakes)) (is_open (step p.gateway event) dest) dest p.intakes }

-- it is lost: what came from it and is no whole message is forgotten
abbrev pub without : Dest → Playing → Playing
without dest p = record (stepped (loss dest) p) { intakes = remove_entry (is_dest dest) p.intakes }

-- its end is printed, it is lost, and what waits for others then is printed
abbrev pub IsCutOff : List ℕ → Dest → Playing → Playing → List ℕ → Type 0
IsCutOff line dest = Then (Becomes (without dest) (λ p. line)) IsPrinted

-- a connection whose bytes are no messages is cut off, if there is one
abbrev pub IsShut : Option Misframed → Playing → Playing → List ℕ → Type 0
IsShut None = Rests
IsShut (Some misframed) = IsCutOff (shut_line misframed.dest misframed.fault) misframed.dest

-- the first connection that must end
abbrev pub first_ending : Playing → Option Dest
first_ending p = find (must_end p.gateway) (standing p)

-- none must end
abbrev pub AreAllWell : Playing → Playing → List ℕ → Type 0
AreAllWell old new text = (first_ending old ≡ None) × Rests old new text

-- the first one that must end is cut off
pub record IsFirstEnded (old new : Playing) (text : List ℕ) : Type 0 where
  pub dest : Dest
  pub first : first_ending old ≡ Some dest
  pub cut_off : IsCutOff (end_line dest) dest old new text

-- the first one is cut off, or there is none
abbrev pub IsEndedFirst : Bool → Playing → Playing → List ℕ → Type 0
IsEndedFirst true = IsFirstEnded
IsEndedFirst false = AreAllWell

-- those that must end are cut off, one after another, until none must
abbrev pub AreEnded : Playing → Playing → List ℕ → Type 0
AreEnded = Until IsFirstEnded AreAllWell
