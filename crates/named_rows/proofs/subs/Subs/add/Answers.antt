use Rattle.std.proofs.Common.{nat_eq, ap, ◌∙◌}
use Rattle.std.specs.List.{list_any}
use Rattle.row_index.specs.Lists.{AddsToOwner, RemovesFromOwner}
use Rattle.named_rows.specs.Indexes.{SubRows, has_sid, sub_home, sub_key}
use Rattle.named_rows.specs.Subs.{is_sub}
use Rattle.named_rows.proofs.Listed.{listed_undone}
use Rattle.named_rows.proofs.subs.Subs.add.Goals as goal

-- what was listed is listed no longer
pub invariant_of-self-in-Err : goal.invariant_of-self-in-Err
invariant_of-self-in-Err c =
    let absent = ap (λ (subs : SubRows). list_any (is_sub c.args.sub.session c.args.sub.id) subs.rows) c.self.view_is ∙ c.requires.new in
    let adds : AddsToOwner c.args.sub.sid (sub_key c.args.sub) c.self.inside.by_sid c.add.new.self = rw (← c.key.ensures) c.in_ok-add.ensures.ok in
    let removes : RemovesFromOwner c.args.sub.sid (sub_key c.args.sub) c.add.new.self c.remove.new.self = rw (← c.key-in-Err.ensures) c.remove.ensures in
    rw c.in-Err.ensures.err_rows (listed_undone nat_eq sub_key (has_sid sub_home) c.self.inside.rows.rows (sub_key c.args.sub) c.args.sub.sid _ _ _ absent c.self.invariant adds removes)
