use Rattle.std.proofs.Common.{◌≡◌, drop}
use Rattle.serve_state.specs.Roster.{taken_by}
use Rattle.serve_state.proofs.numbers.note_held.Given as goal

-- what is left decides
abbrev pub invariant-loop-row : goal.invariant-loop-row
invariant-loop-row g l = taken_by (drop l.row-index l.rows) l.taken ≡ taken_by l.rows l.initial.taken
