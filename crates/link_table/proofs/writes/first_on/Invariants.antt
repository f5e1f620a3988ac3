use Rattle.std.proofs.Common.{◌≡◌, drop}
use Rattle.std.specs.List.{find}
use Rattle.link_table.specs.Writes.{is_write_on}
use Rattle.link_table.specs.WriteIndex.{leads_to}
use Rattle.link_table.proofs.writes.first_on.Given as goal

-- what is left decides
abbrev pub invariant-loop-key : goal.invariant-loop-key
invariant-loop-key l = find (leads_to (is_write_on l.session l.sid) l.rows) (drop l.key-index l.keys) ≡ find (leads_to (is_write_on l.session l.sid) l.rows) l.keys
