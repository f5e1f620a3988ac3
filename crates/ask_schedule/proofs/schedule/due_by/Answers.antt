use Rattle.std.proofs.Common.{◌≤◌, length, rules}
use Rattle.std.proofs.lemmas.List.Sorted.{IsPartitionPoint-from_clause}
use Rattle.ask_schedule.specs.Plan.{is_due}
use Rattle.ask_schedule.proofs.Order.{counted, partitioned}
use Rattle.ask_schedule.proofs.schedule.due_by.Goals as goal

pub returns-clause-count : goal.returns-clause-count
returns-clause-count c =
    let within : c.partition_point.result ≤ length c.args.rows.now.items = search rules in
    counted c.args.look c.args.rows.now.items c.partition_point.result within
    (IsPartitionPoint-from_clause (is_due c.args.look) _ _ c.partition_point.ensures.partitioned (partitioned c.args.look c.args.rows.now.items c.requires) (λ a r f k. search rules))
