-- What bytes that come from a connection are.
use Rattle.std.specs.Prelude.{◌≡◌, ℕ, List, [], ◌∷◌, ◌++◌, map, Option, Some, None, Ok, option_map}
use Rattle.std.specs.Map.{lookup, set_value}
use Rattle.ca_header.specs.declared.header.Message.{Message}
use Rattle.ca_header.specs.declared.reading.FrameFault.{FrameFault}
use Rattle.ca_header.specs.declared.reading.Front.{Front}
use Rattle.ca_header.specs.declared.reading.Front.TheVariants.{Whole, Partial, Fault}
use Rattle.ca_header.specs.Intake.{IsTake}
use Rattle.ca_header.specs.Reading.{front_at}
use Rattle.gateway_state.specs.Step.{run}
use Rattle.gateway_state.specs.declared.event.Dest.{Dest}
use Rattle.replay.specs.Performing.{Rests}
use Rattle.replay.specs.Played.{said}
use Rattle.replay.specs.Player.{Playing, is_dest}
use Rattle.replay.specs.declared.player.Misframed.{Misframed}

-- bytes are put behind those that are there, but not behind a fault
abbrev pub put_behind : Front → List ℕ → List ℕ → List ℕ
put_behind (Fault fault) held bytes = held
put_behind front held bytes = held ++ bytes

-- what is wrong with bytes that begin so
abbrev pub fault_in : Front → Option FrameFault
fault_in (Fault fault) = Some fault
fault_in (Whole h n) = None
fault_in Partial = None

-- no whole message stands there
abbrev pub IsNotWhole : Front → Type 0
IsNotWhole (Whole h n) = ⊥
IsNotWhole Partial = Unit {0}
IsNotWhole (Fault fault) = Unit {0}

-- these messages are whole: they are taken off the front of the bytes, one after another, and these bytes are left
abbrev pub AreTaken : List ℕ → List Message → List ℕ → Type 0
AreTaken bytes [] left = (left ≡ bytes) × IsNotWhole (front_at bytes)
AreTaken bytes (message ∷ messages) left =
    (rest : List ℕ) × IsTake bytes (front_at bytes) (Ok (Some message)) rest × AreTaken rest messages left

-- a connection and what is wrong with its bytes
abbrev pub misframed_at : Dest → FrameFault → Misframed
misframed_at dest fault = record { dest = dest; fault = fault }

-- bytes come from a connection: the messages that are whole then happen, in order, and what is left is kept
pub record IsHeard (dest : Dest) (held bytes : List ℕ) (misframed : Option Misframed) (old new : Playing) (text : List ℕ) : Type 0 where
  pub messages : List Message
  pub left : List ℕ
  pub taken : AreTaken (put_behind (front_at held) held bytes) messages left
  pub now : new ≡ record { gateway = run old.gateway (map (said dest) messages); intakes = set_value (is_dest dest) old.intakes left; held = old.held }
  pub fault : misframed ≡ option_map (misframed_at dest) (fault_in (front_at left))
  pub silent : text ≡ []

-- of a connection that doesn't stand nothing is heard
abbrev pub IsHeardWith : Option (List ℕ) → Dest → List ℕ → Option Misframed → Playing → Playing → List ℕ → Type 0
IsHeardWith None dest bytes misframed old new text = (misframed ≡ None) × Rests old new text
IsHeardWith (Some held) dest bytes misframed old new text = IsHeard dest held bytes misframed old new text

abbrev pub IsReceived : Dest → List ℕ → Option Misframed → Playing → Playing → List ℕ → Type 0
IsReceived dest bytes misframed old = IsHeardWith (lookup (is_dest dest) old.intakes) dest bytes misframed old
