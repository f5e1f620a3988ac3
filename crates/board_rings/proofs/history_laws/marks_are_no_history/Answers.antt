use Rattle.std.proofs.Common.{refl}
use Rattle.board_rings.specs.Attachments.{with_full, with_leaving}
use Rattle.board_rings.proofs.OnRun.{beside}
use Rattle.board_rings.proofs.history_laws.marks_are_no_history.Goals as goal

pub returns : goal.returns
returns c = record {
  leaving = λ config policy history dest old new on_run rows attachments. beside config policy history old new on_run with_leaving (λ _. refl) (λ _. refl) dest rows attachments;
  full = λ config policy history dest full old new on_run rows attachments. beside config policy history old new on_run (with_full full) (λ _. refl) (λ _. refl) dest rows attachments;
}
