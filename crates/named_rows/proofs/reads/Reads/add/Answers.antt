use Rattle.std.proofs.Common.{nat_eq, ap, ◌∙◌}
use Rattle.std.specs.List.{list_any}
use Rattle.row_index.specs.Lists.{AddsToOwner, RemovesFromOwner}
use Rattle.named_rows.specs.Indexes.{ReadRows, has_sid, is_kept, read_home, read_key}
use Rattle.named_rows.proofs.Listed.{listed_undone}
use Rattle.named_rows.proofs.reads.Reads.add.Goals as goal

-- what was listed is listed no longer
pub invariant_of-self-in-Err : goal.invariant_of-self-in-Err
invariant_of-self-in-Err c =
    let absent = ap (λ (reads : ReadRows). list_any (is_kept (read_key c.args.row)) reads.rows) c.self.view_is ∙ c.requires.new in
    let adds : AddsToOwner c.args.row.read.sid (read_key c.args.row) c.self.inside.by_sid c.add.new.self = rw (← c.key.ensures) c.in_ok-add.ensures.ok in
    let removes : RemovesFromOwner c.args.row.read.sid (read_key c.args.row) c.add.new.self c.remove.new.self = rw (← c.key-in-Err.ensures) c.remove.ensures in
    rw c.in-Err.ensures.err_rows (listed_undone nat_eq read_key (has_sid read_home) c.self.inside.rows.rows (read_key c.args.row) c.args.row.read.sid _ _ _ absent c.self.invariant adds removes)
