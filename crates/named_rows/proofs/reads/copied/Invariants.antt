use Rattle.std.proofs.Common.{◌≡◌, ◌++◌, drop, map}
use Rattle.named_rows.proofs.reads.copied.Given as goal

-- those taken so far and those that are left are all
abbrev pub invariant-loop-row : goal.invariant-loop-row
invariant-loop-row l = l.reads.items ++ map (λ row. row.now.read) (drop l.row-index l.rows) ≡ map (λ row. row.now.read) l.rows
