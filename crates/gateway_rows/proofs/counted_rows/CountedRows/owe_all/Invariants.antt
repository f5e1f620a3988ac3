use Rattle.std.proofs.Common.{◌≡◌, fold, drop}
use Rattle.gateway_rows.specs.Looked.{Looked}
use Rattle.gateway_state.specs.Updates.{owed_to, owed_to_all}
use Rattle.gateway_rows.proofs.counted_rows.CountedRows.owe_all.Given as goal

-- owing to those that are left leads from here to where owing to all leads, and so many were looked at
abbrev pub invariant-loop-sub : goal.invariant-loop-sub
invariant-loop-sub l =
    (fold owed_to l.self.state (drop l.sub-index l.subs) ≡ owed_to_all l.fn.self.state l.subs)
    × Looked l.sub-index l.fn.self l.self
