use Rattle.std.proofs.Common.{◌≤◌, length, rules}
use Rattle.std.proofs.lemmas.List.Sorted.{IsPartitionPoint-from_clause}
use Rattle.ask_schedule.specs.Queue.{is_by}
use Rattle.ask_schedule.proofs.Lines.{laps-counted, laps-partitioned}
use Rattle.ask_schedule.proofs.newcomers.by_lap.Goals as goal

pub returns-clause-count : goal.returns-clause-count
returns-clause-count c =
    let within : c.partition_point.result ≤ length c.args.rows.now.items = search rules in
    laps-counted c.args.lap c.args.rows.now.items c.partition_point.result within
    (IsPartitionPoint-from_clause (is_by c.args.lap) _ _ c.partition_point.ensures.partitioned (laps-partitioned c.args.lap c.args.rows.now.items c.requires) (λ a r f k. search rules))
