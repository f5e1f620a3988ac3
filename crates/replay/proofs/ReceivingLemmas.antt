-- Facts on bytes that come from a connection.
use Rattle.std.proofs.Common.{◌≡◌, ℕ, List, [], ◌∷◌, ◌++◌, Option, Some, None, refl, sym, ap, subst, ◌∙◌}
use Rattle.std.specs.Prelude.{Ok, Err, map, option_map}
use Rattle.std.specs.Map.{lookup, set_value}
use Rattle.std.proofs.lemmas.List.{append_assoc, append-nil}
use Rattle.ca_header.specs.Intake.{IsTake}
use Rattle.ca_header.specs.Reading.{front_at}
use Rattle.ca_header.specs.declared.header.Message.{Message}
use Rattle.ca_header.specs.declared.intake.IntakeFault.TheVariants.{Faulted}
use Rattle.ca_header.specs.declared.reading.FrameFault.{FrameFault}
use Rattle.ca_header.specs.declared.reading.Front.{Front}
use Rattle.ca_header.specs.declared.reading.Front.TheVariants.{Whole, Partial, Fault}
use Rattle.gateway_state.specs.Gateway.{Gateway}
use Rattle.gateway_state.specs.Step.{run}
use Rattle.gateway_state.specs.declared.event.Dest.{Dest}
use Rattle.replay.specs.Performing.{Performs}
use Rattle.replay.specs.Played.{said}
use Rattle.replay.specs.Player.{Playing, is_dest, playing_at}
use Rattle.replay.specs.Receiving.{AreTaken, IsHeardWith, IsNotWhole, IsReceived, fault_in, misframed_at, put_behind}
use Rattle.replay.specs.declared.player.Misframed.{Misframed}
use Rattle.replay_text.proofs.OutputLemmas.{Appends-nil}

-- bytes that are fed stand behind those that are there
pub put_behind-fed : (front : Front) (held bytes new : List ℕ) → ((fault : FrameFault) → ¬ (front ≡ Fault fault)) → new ≡ held ++ bytes
    → new ≡ put_behind front held bytes
put_behind-fed (Whole h n) held bytes new none is = is
put_behind-fed Partial held bytes new none is = is
put_behind-fed (Fault fault) held bytes new none is = absurd (none fault refl)

-- but not behind a fault
pub put_behind-fault : (front : Front) (fault : FrameFault) (held bytes new : List ℕ) → front ≡ Fault fault → new ≡ held
    → new ≡ put_behind front held bytes
put_behind-fault front fault held bytes new here is = rw here is

not_whole-none : (old new : List ℕ) (front : Front) → IsTake old front (Ok None) new → (new ≡ old) × IsNotWhole front
not_whole-none old new (Whole h n) takes = absurd takes
not_whole-none old new Partial takes = (takes, tt)
not_whole-none old new (Fault fault) takes = absurd takes

not_whole-fault : (old new : List ℕ) (front : Front) (fault : FrameFault) → IsTake old front (Err (Faulted fault)) new → (new ≡ old) × IsNotWhole front
not_whole-fault old new (Whole h n) fault takes = absurd takes
not_whole-fault old new Partial fault takes = absurd takes
not_whole-fault old new (Fault f) fault takes = (takes.1, tt)

-- no whole message is left
pub AreTaken-none : (old new : List ℕ) → IsTake old (front_at old) (Ok None) new → AreTaken old [] new
AreTaken-none old new takes = not_whole-none old new (front_at old) takes

pub AreTaken-fault : (old new : List ℕ) (fault : FrameFault) → IsTake old (front_at old) (Err (Faulted fault)) new → AreTaken old [] new
AreTaken-fault old new fault takes = not_whole-fault old new (front_at old) fault takes

-- the events so far are those of all messages
pub events-end : {E : Type 0} (messages : List Message) (event : Message → E) (first events all : List E)
    → events ++ map event [] ≡ first ++ map event messages → events ≡ first ++ map event messages
events-end messages event first events all is = sym (append-nil events) ∙ is

pub events-next : {E : Type 0} (messages more : List Message) (message : Message) (event : Message → E) (first events pushed : List E) (said : E)
    → pushed ≡ events ++ said ∷ [] → said ≡ event message
    → events ++ map event (message ∷ more) ≡ first ++ map event messages
    → pushed ++ map event more ≡ first ++ map event messages
events-next messages more message event first events pushed said is so all =
    rw (is, so) (append_assoc events (event message ∷ []) (map event more) ∙ all)

-- of a connection that doesn't stand nothing is heard
pub Performs-unheard : (w : Option Gateway) (intakes : List (Dest × List ℕ)) (held : List Dest) (dest : Dest) (bytes : List ℕ) (x : Option (List ℕ))
    → lookup (is_dest dest) intakes ≡ None
    → Performs (IsReceived dest bytes None) (playing_at w intakes held) (playing_at w intakes held) x x
Performs-unheard None intakes held dest bytes x none = tt
Performs-unheard (Some u) intakes held dest bytes x none =
    let p : Playing = record { gateway = u; intakes = intakes; held = held } in
    let does : IsHeardWith None dest bytes None p p [] = (refl, (refl, refl)) in
    let P : Option (List ℕ) → Type 0 = λ found. IsHeardWith found dest bytes None p p [] in
    (p, [], refl, subst P (sym none) does, Appends-nil x)

-- what is heard of one that stands
pub Performs-heard : (w v : Option Gateway) (intakes kept : List (Dest × List ℕ)) (held : List Dest) (dest : Dest) (before bytes left : List ℕ)
    (messages : List Message) (fault : Option FrameFault) (cut : Option Misframed) (x : Option (List ℕ))
    → lookup (is_dest dest) intakes ≡ Some before
    → AreTaken (put_behind (front_at before) before bytes) messages left
    → v ≡ option_map (λ u. run u (map (said dest) messages)) w
    → kept ≡ set_value (is_dest dest) intakes left
    → fault ≡ fault_in (front_at left)
    → cut ≡ option_map (misframed_at dest) fault
    → Performs (IsReceived dest bytes cut) (playing_at w intakes held) (playing_at v kept held) x x
Performs-heard None v intakes kept held dest before bytes left messages fault cut x stands taken ran keeps wrong is = tt
Performs-heard (Some u) v intakes kept held dest before bytes left messages fault cut x stands taken ran keeps wrong is =
    let p : Playing = record { gateway = u; intakes = intakes; held = held } in
    let q : Playing = record { gateway = run u (map (said dest) messages); intakes = kept; held = held } in
    let P : Option (List ℕ) → Type 0 = λ found. IsHeardWith found dest bytes cut p q [] in
    let does : IsHeardWith (Some before) dest bytes cut p q [] = record {
      messages = messages;
      left = left;
      taken = taken;
      now = ap (λ (es : List (Dest × List ℕ)). record { gateway = run u (map (said dest) messages); intakes = es; held = held }) keeps;
      fault = is ∙ ap (option_map (misframed_at dest)) wrong;
      silent = refl;
    } in
    (q, [], ap (λ (o : Option Gateway). playing_at o kept held) ran, subst P (sym stands) does, Appends-nil x)
