use Rattle.std.proofs.Common.{◌≡◌, ◌+◌, ◌-◌, ◌≤◌, drop, length}
use Rattle.serve_state.specs.InAll.{bytes_of}
use Rattle.serve_state.proofs.in_all.place_over.Given as goal

-- who was counted stays, and what is left of the room is for the others
abbrev pub invariant-loop-count : goal.invariant-loop-count
invariant-loop-count l = (l.count ≤ length l.clients) × (bytes_of (drop (length l.clients - l.count) l.clients) + l.room ≡ l.most)
