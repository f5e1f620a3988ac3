use Rattle.std.proofs.Common.{◌≡◌, length}
use Rattle.std.specs.List.{filter}
use Rattle.named_rows.specs.Channels.{is_not_channel_of}
use Rattle.named_rows.specs.Reads.{is_not_read_of}
use Rattle.named_rows.specs.Subs.{is_not_sub_of}
use Rattle.channel_table.proofs.table.Table.remove_session.Given as goal

-- what is another session's stays
abbrev pub invariant-loop : goal.invariant-loop
invariant-loop l =
    (l.self.rows.sessions ≡ l.initial.self.rows.sessions)
    × (filter (is_not_channel_of l.number) l.self.rows.channels ≡ filter (is_not_channel_of l.number) l.initial.self.rows.channels)
    × (filter (is_not_sub_of l.number) l.self.rows.subs ≡ filter (is_not_sub_of l.number) l.initial.self.rows.subs)
    × (filter (is_not_read_of l.number) l.self.rows.reads ≡ filter (is_not_read_of l.number) l.initial.self.rows.reads)
    × (l.self.brand ≡ l.initial.self.brand)

abbrev pub decreases-loop : goal.decreases-loop
decreases-loop l = length l.self.rows.channels
