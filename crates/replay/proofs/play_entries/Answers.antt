use Rattle.std.proofs.Common.{◌≡◌, ℕ, ◌+◌, Option, Some, None, rules, arith, subst}
use Rattle.std.specs.Prelude.{Err}
use Rattle.std.specs.Io.KnownBytes.{Keeps}
use Rattle.std.proofs.lemmas.Result.{err_from_is_err_and}
use Rattle.replay.specs.declared.entry.ScriptEntry.{ScriptEntry}
use Rattle.replay.specs.Reading.{IsBadFrom, IsNextBad, LeadsOn, lines_left, lines_with}
use Rattle.replay.proofs.ReadingLemmas.{LeadsOn-bad, LeadsOn-end, LeadsOn-next}
use Rattle.replay.specs.Performed.{IsLine, PerformsLines}
use Rattle.replay.specs.Player.{playing}
use Rattle.replay.proofs.LinesLemmas.{PerformsLines-bad, PerformsLines-end, PerformsLines-kept, PerformsLines-next}
use Rattle.replay.proofs.PerformingLemmas.{Performs-kept}
use Rattle.replay.proofs.ReplayLemmas.{IfBadLine-both, IfBadLine-weaker}
use Rattle.replay.proofs.play_entries.Goals as goal

pub returns-in_err-entry-clause-bad : goal.returns-in_err-entry-clause-bad
returns-in_err-entry-clause-bad g c =
    let left = lines_left g.R.Read.remaining in
    let p = err_from_is_err_and c.from_residual.result c.from_residual.ensures.1 in
    let P : ℕ → Type 0 = λ n. (n ≡ c.loop.script.number + 1) × IsNextBad (left c.loop.script) in
    rw (p.1, p.2) (IfBadLine-weaker {A = Option ScriptEntry} (Err c.in_err-entry.field-0.0) P (IsBadFrom (c.args.script.now.number + 1) (left c.args.script.now))
    (λ n h. rw h.0 (LeadsOn-bad (left c.args.script.now) (left c.loop.script) (c.args.script.now.number + 1) (c.loop.script.number + 1) c.loop.invariant.leads h.1))
    c.in_err-entry.ensures.bad)

pub returns-in_err-entry-clause-told : goal.returns-in_err-entry-clause-told
returns-in_err-entry-clause-told g c =
    let left = lines_left g.R.Read.remaining in
    let known = playing g.G.GatewayCalls.state in
    let held = g.W.Write.contents in
    let p = err_from_is_err_and c.from_residual.result c.from_residual.ensures.1 in
    let P : ℕ → Type 0 = λ n. (n ≡ c.loop.script.number + 1) × IsNextBad (left c.loop.script) in
    let Q : ℕ → Type 0 = λ n. Keeps (held c.loop.writer) (held c.next.new.writer) in
    rw (p.1, p.2) (IfBadLine-weaker {A = Option ScriptEntry} (Err c.in_err-entry.field-0.0) (λ n. P n × Q n)
    (λ n. PerformsLines (left c.args.script.now) (known c.args.player.now) (known c.loop.player) (held c.args.writer.now) (held c.next.new.writer))
    (λ n h. c.loop.invariant.played (known c.loop.player) (held c.next.new.writer)
    (PerformsLines-kept (left c.loop.script) (known c.loop.player) (known c.loop.player) (held c.loop.writer) (held c.next.new.writer) (held c.next.new.writer)
    h.1 (PerformsLines-bad (left c.loop.script) (known c.loop.player) (held c.next.new.writer) h.0.1)))
    (IfBadLine-both {A = Option ScriptEntry} P Q (Err c.in_err-entry.field-0.0) c.in_err-entry.ensures.bad c.in_err-entry.ensures.same_bad))

pub returns-in_default-clause-good : goal.returns-in_default-clause-good
returns-in_default-clause-good g c =
    let left = lines_left g.R.Read.remaining in
    let none : ◌≡◌ {A = Option ScriptEntry} c.in_ok-entry.field-0 None = first_of (search rules, cc) in
    let takes = rw none at c.in_ok-entry.ensures.taken in
    LeadsOn-end (left c.args.script.now) (left c.loop.script) (left c.next.new.self) (c.args.script.now.number + 1) (c.loop.script.number + 1) c.loop.invariant.leads takes

pub returns-in_default-clause-played : goal.returns-in_default-clause-played
returns-in_default-clause-played g c =
    let left = lines_left g.R.Read.remaining in
    let known = playing g.G.GatewayCalls.state in
    let held = g.W.Write.contents in
    let none : ◌≡◌ {A = Option ScriptEntry} c.in_ok-entry.field-0 None = first_of (search rules, cc) in
    let takes = rw none at c.in_ok-entry.ensures.taken in
    c.loop.invariant.played (known c.loop.player) (held c.next.new.writer)
    (PerformsLines-kept (left c.loop.script) (known c.loop.player) (known c.loop.player) (held c.loop.writer) (held c.next.new.writer) (held c.next.new.writer)
    c.in_ok-entry.ensures.same
    (PerformsLines-end (left c.loop.script) (left c.next.new.self) (known c.loop.player) (held c.next.new.writer) takes))

pub loop-preserved : goal.loop-preserved
loop-preserved g c =
    let left = lines_left g.R.Read.remaining in
    let known = playing g.G.GatewayCalls.state in
    let held = g.W.Write.contents in
    let takes = rw c.in-Some.is at c.in_ok-entry.ensures.taken in
    let count = rw c.in-Some.is at c.in_ok-entry.ensures.counted in
    let same : (c.loop.script.number + 1) + lines_with (Some c.in-Some.entry) ≡ c.next.new.self.number + 1 = omega (arith, count) in
    let P : ℕ → Type 0 = λ n. LeadsOn (left c.args.script.now) (c.args.script.now.number + 1) (left c.next.new.self) n in
    record {
      leads = subst P same
          (LeadsOn-next (left c.args.script.now) (left c.loop.script) (left c.next.new.self) (c.args.script.now.number + 1) (c.loop.script.number + 1) c.in-Some.entry c.loop.invariant.leads takes);
      played = λ new after more. c.loop.invariant.played new after
          (PerformsLines-next (left c.loop.script) (left c.next.new.self) c.in-Some.entry (known c.loop.player) (known c.play.new.self) new
          (held c.loop.writer) (held c.play.new.out) after takes
          (Performs-kept (IsLine c.in-Some.entry) (known c.loop.player) (known c.play.new.self) (held c.loop.writer) (held c.next.new.writer) (held c.play.new.out)
          c.in_ok-entry.ensures.same c.in_ok-play.ensures) more);
    }
