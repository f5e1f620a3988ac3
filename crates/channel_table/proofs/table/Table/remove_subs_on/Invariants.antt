use Rattle.std.proofs.Common.{◌≡◌, length}
use Rattle.std.specs.List.{filter}
use Rattle.named_rows.specs.Subs.{is_not_sub_on}
use Rattle.channel_table.proofs.table.Table.remove_subs_on.Given as goal

-- subscriptions go alone, and none that is on another channel
abbrev pub invariant-loop : goal.invariant-loop
invariant-loop l =
    (l.self.rows ≡ record l.initial.self.rows { subs = l.self.rows.subs })
    × (filter (is_not_sub_on l.session l.sid) l.self.rows.subs ≡ filter (is_not_sub_on l.session l.sid) l.initial.self.rows.subs)
    × (l.self.brand ≡ l.initial.self.brand)

abbrev pub decreases-loop : goal.decreases-loop
decreases-loop l = length l.self.rows.subs
