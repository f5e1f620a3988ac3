use Rattle.std.proofs.Common.{◌≡◌, fold, drop}
use Rattle.gateway_state.specs.Updates.{owed_to, owed_to_all}
use Rattle.plain_rows.proofs.state.PlainRows.owe_all.Given as goal

-- owing to those that are left leads from here to where owing to all leads
abbrev pub invariant-loop-sub : goal.invariant-loop-sub
invariant-loop-sub l = fold owed_to l.self (drop l.sub-index l.subs) ≡ owed_to_all l.fn.self l.subs
