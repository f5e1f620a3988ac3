-- Facts on what a player knows.
use Rattle.std.proofs.Common.{◌≡◌, ℕ, List, [], Option, Some, None, inl, inr, refl, sym, ap, subst}
use Rattle.std.specs.Prelude.{IfSome, option_map}
use Rattle.std.specs.Io.KnownBytes.{Appends}
use Rattle.std.specs.List.{find}
use Rattle.std.specs.Map.{keys_of}
use Rattle.gateway_state.specs.Asked.{must_end}
use Rattle.gateway_state.specs.Gateway.{Gateway}
use Rattle.gateway_state.specs.Step.{step}
use Rattle.gateway_state.specs.declared.event.Dest.{Dest}
use Rattle.gateway_state.specs.declared.event.Event.TheVariants.{Edit}
use Rattle.replay.specs.Editing.{IsEdited, refusal}
use Rattle.replay.specs.Editing.{IsPrinted as IsLinePrinted}
use Rattle.replay.specs.Ending.{AreEnded, IsCutOff, IsFirstEnded, IsShut, without}
use Rattle.replay.specs.Performed.{IsDone, IsEdit, IsFollowed, IsLine}
use Rattle.replay.specs.Performing.{Becomes, Performs, Then, silent}
use Rattle.replay.specs.Player.{OnGateway, Playing, playing_at}
use Rattle.replay.specs.Printing.{IsPrinted}
use Rattle.replay.specs.declared.entry.EditFiles.{EditFiles}
use Rattle.replay.specs.declared.entry.ScriptEntry.{ScriptEntry}
use Rattle.replay.specs.declared.player.Misframed.{Misframed}
use Rattle.replay_text.specs.Output.{end_line}
use Rattle.replay_text.proofs.OutputLemmas.{Appends-nil}
use Rattle.replay.proofs.PerformingLemmas.{Performs-becomes, Performs-then, Performs-weaker}

-- other connections are held back from then on
pub Performs-held : (f : List Dest → List Dest) (w : Option Gateway) (intakes : List (Dest × List ℕ)) (held still : List Dest) (x : Option (List ℕ))
    → still ≡ f held
    → Performs (Becomes (λ p. record p { held = f p.held }) silent) (playing_at w intakes held) (playing_at w intakes still) x x
Performs-held f None intakes held still x is = tt
Performs-held f (Some u) intakes held still x is =
    (record { gateway = u; intakes = intakes; held = still }, [], refl, (ap (λ (ks : List Dest). record { gateway = u; intakes = intakes; held = ks }) is, refl), Appends-nil x)

-- an edit is done to the gateway, or refused with a line
pub Performs-edited : (files : EditFiles) (old new : Option Gateway) (intakes : List (Dest × List ℕ)) (held : List Dest) (x y : Option (List ℕ))
    → IsEdited files old new x y → Performs (OnGateway (IsEdit files)) (playing_at old intakes held) (playing_at new intakes held) x y
Performs-edited files None new intakes held x y edited = tt
Performs-edited files (Some w) new intakes held x y (inl accepted) =
    let now : Playing = record { gateway = step w (Edit accepted.policy); intakes = intakes; held = held } in (
      now,
      [],
      ap (λ (state : Option Gateway). playing_at state intakes held) accepted.edited,
      (inl (record { policy = accepted.policy; said = accepted.said; edited = refl; silent = refl }), refl),
      subst (λ (z : Option (List ℕ)). Appends x z []) (sym accepted.silent) (Appends-nil x),
    )
Performs-edited files (Some w) new intakes held x y (inr refused) = by (refusal refused.fault) refl refused.printed
  where
    by : (said : Option (List ℕ)) → refusal refused.fault ≡ said → IsLinePrinted said x y
        → Performs (OnGateway (IsEdit files)) (playing_at (Some w) intakes held) (playing_at new intakes held) x y
    by None is printed = absurd printed
    by (Some line) is printed = (
      record { gateway = w; intakes = intakes; held = held },
      line,
      ap (λ (state : Option Gateway). playing_at state intakes held) refused.same,
      (inr (record { fault = refused.fault; first = refused.first; line = is; same = refl }), refl),
      printed,
    )

-- a connection is cut off
pub Performs-cut_off : (line : List ℕ) (dest : Dest) (p q r : Option Playing) (x y z : Option (List ℕ))
    → Appends x y line → q ≡ option_map (without dest) p → Performs IsPrinted q r y z
    → Performs (IsCutOff line dest) p r x z
Performs-cut_off line dest p q r x y z wrote is printed =
    let said : IfSome p (λ old. Appends x y line) = always p wrote in
    Performs-then (Becomes (without dest) (λ old. line)) IsPrinted p q r x y z
    (Performs-becomes (without dest) (λ old. line) p q x y is said) printed
  where
    always : {P : Type 0} (p : Option Playing) → P → IfSome p (λ old. P)
    always None h = tt
    always (Some old) h = h

-- the first one that must end is
pub Performs-first_ended : (w : Option Gateway) (intakes : List (Dest × List ℕ)) (held : List Dest) (dest : Dest) (r : Option Playing) (x z : Option (List ℕ))
    → IfSome w (λ u. Some dest ≡ find (must_end u) (keys_of intakes))
    → Performs (IsCutOff (end_line dest) dest) (playing_at w intakes held) r x z
    → Performs IsFirstEnded (playing_at w intakes held) r x z
Performs-first_ended None intakes held dest r x z first h = tt
Performs-first_ended (Some u) intakes held dest r x z first h =
    (h.0, h.1, h.2, record { dest = dest; first = sym first; cut_off = h.3 }, h.4)

-- a line is performed, with all that follows
pub Performs-line : (entry : ScriptEntry) (misframed : Option Misframed) (a b c d e : Option Playing) (v w x y z : Option (List ℕ))
    → Performs (IsDone entry.line entry.files misframed) a b v w → Performs IsPrinted b c w x
    → Performs (IsShut misframed) c d x y → Performs AreEnded d e y z
    → Performs (IsLine entry) a e v z
Performs-line entry misframed a b c d e v w x y z done printed shut ended =
    Performs-weaker (Then (IsDone entry.line entry.files misframed) (IsFollowed misframed)) (IsLine entry) (λ old new text h. (misframed, h)) a e v z
    (Performs-then (IsDone entry.line entry.files misframed) (IsFollowed misframed) a b e v w z done
    (Performs-then IsPrinted (Then (IsShut misframed) AreEnded) b c e w x z printed
    (Performs-then (IsShut misframed) AreEnded c d e x y z shut ended)))
