use Rattle.std.proofs.Common.{◌+◌, ap}
use Rattle.std.specs.Prelude.{option_map}
use Rattle.std.proofs.lemmas.Result.{on_ok_weaker}
use Rattle.replay.specs.Reading.{IsBadFrom, lines_left}
use Rattle.replay.specs.Script.{IsBadAt, lines_of}
use Rattle.replay.specs.Performed.{IsPlayed, PerformsLines}
use Rattle.replay.specs.Player.{playing}
use Rattle.replay.proofs.ReadingLemmas.{IsBadAt-from, IsGood-from}
use Rattle.replay.proofs.ReplayLemmas.{IfBadLine-weaker}
use Rattle.replay.proofs.play_script.Goals as goal

pub returns-clause-good : goal.returns-clause-good
returns-clause-good g c =
    let script = c.in_ok-script.script in
    on_ok_weaker c.play_entries.result
    (IsGood-from (g.R.Read.remaining c.args.reader) script.number (lines_left g.R.Read.remaining script)
    c.in_ok-script.ensures.start (ap (option_map lines_of) c.in_ok-script.ensures.left))
    c.play_entries.ensures.good

pub returns-clause-bad : goal.returns-clause-bad
returns-clause-bad g c =
    let script = c.in_ok-script.script in
    IfBadLine-weaker c.play_entries.result (IsBadFrom (script.number + 1) (lines_left g.R.Read.remaining script)) (IsBadAt (g.R.Read.remaining c.args.reader))
    (IsBadAt-from (g.R.Read.remaining c.args.reader) script.number (lines_left g.R.Read.remaining script)
    c.in_ok-script.ensures.start (ap (option_map lines_of) c.in_ok-script.ensures.left))
    c.play_entries.ensures.bad

pub returns-clause-played : goal.returns-clause-played
returns-clause-played g c =
    let known = playing g.G.GatewayCalls.state in
    let held = g.W.Write.contents in
    let lines = ap (option_map lines_of) c.in_ok-script.ensures.left in
    on_ok_weaker c.play_entries.result
    (λ played. (known c.play_entries.new.player, rw (lines, c.new-player.ensures) at played))
    c.play_entries.ensures.played

pub returns-clause-told : goal.returns-clause-told
returns-clause-told g c =
    let left = lines_left g.R.Read.remaining in
    let known = playing g.G.GatewayCalls.state in
    let held = g.W.Write.contents in
    let lines = ap (option_map lines_of) c.in_ok-script.ensures.left in
    IfBadLine-weaker c.play_entries.result
    (λ n. PerformsLines (left c.in_ok-script.script) (known c.new-player.result) (known c.play_entries.new.player) (held c.args.writer.now) (held c.play_entries.new.writer))
    (λ n. IsPlayed (g.R.Read.remaining c.args.reader) (g.G.GatewayCalls.state c.args.gate) (held c.args.writer.now) (held c.play_entries.new.writer))
    (λ n played. (known c.play_entries.new.player, rw (lines, c.new-player.ensures) at played))
    c.play_entries.ensures.told
