use Rattle.std.proofs.Common.{sym}
use Rattle.named_rows.specs.Indexes.{sub_key}
use Rattle.row_index.specs.Pieces.{joined}
use Rattle.named_rows.proofs.Joined.{rows_both}
use Rattle.named_rows.proofs.subs.many_at.Goals as goal

-- those under the keys of pieces, and those behind them
pub returns : goal.returns
returns c = record {
  listed =
      rw (c.in_ok-list_at.ensures.listed, c.in_ok-list_pieces.ensures.listed, c.new-subs.ensures.items)
      (sym (rows_both sub_key c.args.rows.now.rows (joined c.args.pieces.now) c.args.last.now));
}
