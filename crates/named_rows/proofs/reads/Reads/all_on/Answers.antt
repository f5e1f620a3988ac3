use Rattle.std.proofs.Common.{map, sym, ap, ◌∙◌}
use Rattle.row_index.specs.Lists.{of}
use Rattle.named_rows.specs.declared.reads.KeptRead.{KeptRead}
use Rattle.named_rows.specs.Indexes.{ListedRows, read_in, read_key, rows_at}
use Rattle.named_rows.proofs.Joined.{read_both}
use Rattle.named_rows.proofs.reads.Reads.all_on.Goals as goal

-- those under the keys of pieces, and those behind them
pub returns : goal.returns
returns c =
    rw (c.in_ok-add_at.ensures.added, c.in_ok-add_pieces.ensures.added, c.new-reads.ensures.items) (
    sym (read_both read_key c.self.inside.rows.rows read_in _ _)
    ∙ ap (λ keys. map read_in (rows_at read_key c.self.inside.rows.rows keys)) c.keys_on.ensures
    ∙ ap (λ (rows : ListedRows KeptRead). map read_in (rows_at read_key rows.rows (of rows.on c.args.name.now))) c.self.view_is
    )
