-- Facts on a script that is performed.
use Rattle.std.proofs.Common.{◌≡◌, ℕ, zero, suc, List, [], ◌∷◌, drop, Option, Some, None, refl, subst}
use Rattle.std.specs.Prelude.{OnOk, Result, Ok, Err, option_map}
use Rattle.std.specs.Io.KnownBytes.{Appends, Keeps}
use Rattle.gateway_state.specs.Gateway.{Gateway}
use Rattle.replay_text.specs.Lines.{line_of}
use Rattle.replay.specs.declared.entry.ScriptEntry.{ScriptEntry}
use Rattle.replay.specs.declared.fault.PlayFault.TheVariants.{StreamFailed, OutOfMemory, EngineFailed}
use Rattle.replay.specs.declared.fault.ReplayFault.{ReplayFault}
use Rattle.replay.specs.declared.fault.ReplayFault.TheVariants.{BadLine, Halted}
use Rattle.replay.specs.Performed.{AreLines, IsLine, IsPlayed, IsPlayedThen, PerformsLines, entries_after}
use Rattle.replay.specs.Performing.{Performs}
use Rattle.replay.specs.Player.{Playing, beginning}
use Rattle.replay.specs.Reading.{IsNextBad, TakesEntry}
use Rattle.replay.specs.Replay.{IfBadLine, bad_line, last_line, status_at}
use Rattle.replay.specs.Script.{lines_of, own_lines_of}
use Rattle.replay.proofs.PerformingLemmas.{Performs-kept, Performs-rests, Performs-then, Performs-then_kept}

entries_after-pending : (pending : ℕ) (lines : List (List ℕ)) → entries_after pending lines ≡ entries_after 0 (drop pending lines)
unfolding entries_after
entries_after-pending zero lines = refl
entries_after-pending (suc pending) [] = refl
entries_after-pending (suc pending) (line ∷ lines) = entries_after-pending pending lines

-- no line is left
pub PerformsLines-end : (left rest : Option (List (List ℕ))) (p : Option Playing) (x : Option (List ℕ))
    → TakesEntry left rest None → PerformsLines left p p x x
unfolding entries_after
PerformsLines-end None rest p x takes = tt
PerformsLines-end (Some []) rest p x takes = Performs-rests p x
PerformsLines-end (Some (line ∷ after)) rest p x takes = absurd (cc)

-- the next line is bad
pub PerformsLines-bad : (left : Option (List (List ℕ))) (p : Option Playing) (x : Option (List ℕ)) → IsNextBad left → PerformsLines left p p x x
unfolding entries_after
PerformsLines-bad None p x bad = tt
PerformsLines-bad (Some []) p x bad = absurd bad
PerformsLines-bad (Some (line ∷ after)) p x bad = rw bad (Performs-rests p x)

-- the next line is performed, and then those after it
pub PerformsLines-next : (left rest : Option (List (List ℕ))) (next : ScriptEntry) (p q r : Option Playing) (x y z : Option (List ℕ))
    → TakesEntry left rest (Some next) → Performs (IsLine next) p q x y → PerformsLines rest q r y z
    → PerformsLines left p r x z
unfolding entries_after
PerformsLines-next None rest next p q r x y z takes here more = tt
PerformsLines-next (Some []) rest next p q r x y z takes here more = absurd (cc)
PerformsLines-next (Some (line ∷ after)) rest next p q r x y z takes here more =
    let own = own_lines_of (line_of line) in
    let P : Option (List (List ℕ)) → Type 0 = λ lines. PerformsLines lines q r y z in
    let then = subst P takes.2 more in
    rw (← takes.1, entries_after-pending own after)
    (Performs-then (IsLine next) (AreLines (entries_after 0 (drop own after))) p q r x y z here then)

-- what is flushed before, and at the end
pub PerformsLines-kept : (left : Option (List (List ℕ))) (p q : Option Playing) (x y z : Option (List ℕ))
    → Keeps x y → PerformsLines left p q y z → PerformsLines left p q x z
PerformsLines-kept None p q x y z kept h = tt
PerformsLines-kept (Some lines) p q x y z kept h = Performs-kept (AreLines (entries_after 0 lines)) p q x y z kept h

PerformsLines-then_kept : (left : Option (List (List ℕ))) (p q : Option Playing) (x y z : Option (List ℕ))
    → PerformsLines left p q x y → Appends y z [] → PerformsLines left p q x z
PerformsLines-then_kept None p q x y z h kept = tt
PerformsLines-then_kept (Some lines) p q x y z h kept = Performs-then_kept (AreLines (entries_after 0 lines)) p q x y z h kept

-- with status 0 a script is played to its end
pub IsPlayed-good : {A : Type 0} (ended : Result A ReplayFault) (script : Option (List ℕ)) (gateway : Option Gateway) (x y z : Option (List ℕ))
    → status_at ended ≡ 0 → OnOk ended (IsPlayed script gateway x y) → Appends y z (last_line ended)
    → IsPlayed script gateway x z
IsPlayed-good (Ok a) script gateway x y z is played kept =
    (played.0, PerformsLines-then_kept (option_map lines_of script) (option_map beginning gateway) played.0 x y z played.1 kept)
IsPlayed-good (Err (BadLine n)) script gateway x y z is played kept = absurd (cc)
IsPlayed-good (Err (Halted StreamFailed)) script gateway x y z is played kept = absurd (cc)
IsPlayed-good (Err (Halted OutOfMemory)) script gateway x y z is played kept = absurd (cc)
IsPlayed-good (Err (Halted EngineFailed)) script gateway x y z is played kept = absurd (cc)

-- with status 2 up to its first bad line, whose number is written then
pub IsPlayed-bad : {A : Type 0} {P : ℕ → Type 0} (ended : Result A ReplayFault) (script : Option (List ℕ)) (gateway : Option Gateway) (x y z : Option (List ℕ))
    → status_at ended ≡ 2 → IfBadLine ended P → IfBadLine ended (λ n. IsPlayed script gateway x y) → Appends y z (last_line ended)
    → (n : ℕ) × P n × IsPlayedThen (bad_line n) script gateway x z
IsPlayed-bad (Ok a) script gateway x y z is p played wrote = absurd (cc)
IsPlayed-bad (Err (BadLine n)) script gateway x y z is p played wrote = (n, p, (y, played, wrote))
IsPlayed-bad (Err (Halted StreamFailed)) script gateway x y z is p played wrote = absurd (cc)
IsPlayed-bad (Err (Halted OutOfMemory)) script gateway x y z is p played wrote = absurd (cc)
IsPlayed-bad (Err (Halted EngineFailed)) script gateway x y z is p played wrote = absurd (cc)
