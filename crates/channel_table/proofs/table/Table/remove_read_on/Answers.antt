use Rattle.std.proofs.Common.{length, arith, sym, ap, ◌∙◌}
use Rattle.std.specs.List.{filter, list_any}
use Rattle.named_rows.specs.Indexes.{is_kept_on, read_in}
use Rattle.named_rows.specs.Reads.{is_not_read_on, is_read_on, same_read}
use Rattle.channel_table.specs.ClientRows.{ClientRows}
use Rattle.channel_table.specs.Looks.{BrandedRows}
use Rattle.named_rows.proofs.Lists.{fewer_without_first, kept_without_first, unfound_is_absent}
use Rattle.named_rows.proofs.Mapped.{any_mapped}
use Rattle.named_rows.proofs.Waiting.{first_on_waits, like_stays}
use Rattle.channel_table.proofs.table.Table.remove_read_on.Goals as goal

pub returns-in-Some-clause-elsewhere : goal.returns-in-Some-clause-elsewhere
returns-in-Some-clause-elsewhere c =
    ap (λ (t : ClientRows). filter (is_not_read_on c.args.session c.args.sid) t.reads) c.remove_read.ensures.rows
    ∙ kept_without_first (same_read c.in-Some.row.read) (is_not_read_on c.args.session c.args.sid) (like_stays c.args.session c.args.sid c.self.inside.reads.rows c.in-Some.row (sym c.in-Some.ensures)) c.args.self.now.rows.reads

pub returns-in-Some-clause-one : goal.returns-in-Some-clause-one
returns-in-Some-clause-one c = λ _.
    let there = ap (λ (t : BrandedRows). list_any (same_read c.in-Some.row.read) t.rows.reads) (sym c.self.view_is) ∙ first_on_waits c.self.inside.reads c.args.session c.args.sid c.in-Some.row (sym c.in-Some.ensures) in
    let fewer = fewer_without_first (same_read c.in-Some.row.read) c.args.self.now.rows.reads there in
    let left = ap (λ (t : ClientRows). length t.reads) c.remove_read.ensures.rows in
    omega (arith, fewer, left)

pub returns-in-None-clause-none : goal.returns-in-None-clause-none
returns-in-None-clause-none c = λ _.
    ap (λ (t : BrandedRows). list_any (is_read_on c.args.session c.args.sid) t.rows.reads) (sym c.self.view_is)
    ∙ any_mapped read_in (is_read_on c.args.session c.args.sid) c.self.inside.reads.rows ∙ unfound_is_absent (is_kept_on c.args.session c.args.sid) c.self.inside.reads.rows (sym c.in-None.ensures)
