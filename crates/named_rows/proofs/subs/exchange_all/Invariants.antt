use Rattle.std.proofs.Common.{◌≡◌, drop}
use Rattle.named_rows.specs.Demand.{all_exchanged}
use Rattle.named_rows.specs.Indexes.{rows_at, sub_key}
use Rattle.named_rows.proofs.subs.exchange_all.Given as goal

-- what is left to be exchanged decides
abbrev pub invariant-loop-key : goal.invariant-loop-key
invariant-loop-key l =
    all_exchanged l.before l.after l.session l.sid (rows_at sub_key l.rows.rows (drop l.key-index l.keys)) l.tally
    ≡ all_exchanged l.before l.after l.session l.sid (rows_at sub_key l.rows.rows l.keys) l.fn.tally
