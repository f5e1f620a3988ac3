use Rattle.std.proofs.Common.{sym, ◌∙◌}
use Rattle.replay.proofs.LinesLemmas.{IsPlayed-bad, IsPlayed-good}
use Rattle.replay.proofs.ReplayLemmas.{IfBadLine-bad, OnOk-good}
use Rattle.replay.proofs.play.Goals as goal

pub returns-in-Ok-clause-good : goal.returns-in-Ok-clause-good
returns-in-Ok-clause-good g c = λ is.
    OnOk-good c.play_script-ended.result (sym c.in-Ok.ensures.ok ∙ is) c.play_script-ended.ensures.good

pub returns-in-Ok-clause-bad : goal.returns-in-Ok-clause-bad
returns-in-Ok-clause-bad g c = λ is.
    let held = g.W.Write.contents in
    IfBadLine-bad c.play_script-ended.result (held c.play_script-ended.new.writer) (held c.report.new.writer) (sym c.in-Ok.ensures.ok ∙ is)
    c.play_script-ended.ensures.bad (λ known. known c.play_script-ended.new.writer) c.in-Ok.ensures.printed

pub returns-in-Ok-clause-played : goal.returns-in-Ok-clause-played
returns-in-Ok-clause-played g c = λ is.
    let held = g.W.Write.contents in
    IsPlayed-good c.play_script-ended.result (g.R.Read.remaining c.args.reader) (g.G.GatewayCalls.state c.args.gate)
    (held c.args.writer.now) (held c.play_script-ended.new.writer) (held c.report.new.writer)
    (sym c.in-Ok.ensures.ok ∙ is) c.play_script-ended.ensures.played c.in-Ok.ensures.printed

pub returns-in-Ok-clause-told : goal.returns-in-Ok-clause-told
returns-in-Ok-clause-told g c = λ is.
    let held = g.W.Write.contents in
    IsPlayed-bad c.play_script-ended.result (g.R.Read.remaining c.args.reader) (g.G.GatewayCalls.state c.args.gate)
    (held c.args.writer.now) (held c.play_script-ended.new.writer) (held c.report.new.writer)
    (sym c.in-Ok.ensures.ok ∙ is) c.play_script-ended.ensures.bad c.play_script-ended.ensures.told c.in-Ok.ensures.printed
