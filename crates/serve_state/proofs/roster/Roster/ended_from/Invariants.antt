use Rattle.std.proofs.Common.{◌≡◌, ◌<◌, ◌≤◌, false, ℕ, get_or}
use Rattle.serve_state.specs.Roster.{RowState, has_ended}
use Rattle.serve_state.proofs.roster.Roster.ended_from.Given as goal

-- the workers of all connections so far have not ended
abbrev pub invariant-loop-at : goal.invariant-loop-at
invariant-loop-at g l = (at : ℕ) (d : RowState) → l.place ≤ at → at < l.at → has_ended (get_or l.self.rows at d) ≡ false
