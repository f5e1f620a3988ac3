use Rattle.std.proofs.Common.{◌≡◌, length}
use Rattle.std.specs.List.{filter}
use Rattle.named_rows.specs.Reads.{is_not_read_on}
use Rattle.channel_table.proofs.table.Table.remove_reads_on.Given as goal

-- reads go alone, and none that is on another channel
abbrev pub invariant-loop : goal.invariant-loop
invariant-loop l =
    (l.self.rows ≡ record l.initial.self.rows { reads = l.self.rows.reads })
    × (filter (is_not_read_on l.session l.sid) l.self.rows.reads ≡ filter (is_not_read_on l.session l.sid) l.initial.self.rows.reads)
    × (l.self.brand ≡ l.initial.self.brand)

abbrev pub decreases-loop : goal.decreases-loop
decreases-loop l = length l.self.rows.reads
