use Rattle.std.proofs.Common.{take}
use Rattle.std.specs.Fmt.{HasWritten, IsPlainFormatter}
use Rattle.serve_state.specs.ReportText.{behind_commas, server_text}
use Rattle.serve_state.proofs.report.OtherServersDisplay.fmt.Given as goal

-- those so far are written
abbrev pub invariant-loop-server : goal.invariant-loop-server
invariant-loop-server g l =
    IsPlainFormatter l.initial.f → HasWritten g.W.Write.write_str_gives l.initial.f (behind_commas server_text (take l.server-index l.self.servers.now)) l.f
