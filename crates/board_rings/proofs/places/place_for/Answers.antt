use Rattle.std.proofs.Common.{rules}
use Rattle.std.proofs.lemmas.List.Sorted.{IsPartitionPoint-from_clause}
use Rattle.board_rings.specs.Rings.{AttachmentState}
use Rattle.board_rings.specs.Attachments.{comes_before}
use Rattle.board_rings.proofs.AttachmentOrder.{are_partitioned, first_from}
use Rattle.board_rings.proofs.places.place_for.Goals as goal

pub returns-clause-place : goal.returns-clause-place
returns-clause-place c =
    let parted = are_partitioned c.args.dest c.args.rows.now c.requires in
    first_from c.args.dest c.args.rows.now _ c.partition_point.ensures.bound
    (IsPartitionPoint-from_clause (λ (attachment : AttachmentState). comes_before attachment.dest c.args.dest) _ _ c.partition_point.ensures.partitioned parted (λ a r q k. search rules))
