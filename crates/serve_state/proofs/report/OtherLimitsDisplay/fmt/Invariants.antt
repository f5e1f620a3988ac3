use Rattle.std.proofs.Common.{take}
use Rattle.std.specs.Fmt.{HasWritten, IsPlainFormatter}
use Rattle.serve_state.specs.ReportText.{behind_commas, limit_text}
use Rattle.serve_state.proofs.report.OtherLimitsDisplay.fmt.Given as goal

-- those so far are written
abbrev pub invariant-loop-limit : goal.invariant-loop-limit
invariant-loop-limit g l =
    IsPlainFormatter l.initial.f → HasWritten g.W.Write.write_str_gives l.initial.f (behind_commas (limit_text l.self.report.now) (take l.limit-index l.self.limits.now)) l.f
