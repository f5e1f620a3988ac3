use Rattle.std.proofs.Common.{◌≡◌, map, ap, ◌∙◌}
use Rattle.std.specs.List.{filter}
use Rattle.std.proofs.lemmas.Result.{IfOk-weaker}
use Rattle.row_index.specs.Rows.{has_one_of, row_of}
use Rattle.named_rows.specs.Indexes.{ListedRows, is_one_of}
use Rattle.named_rows.proofs.Keyed.{entries_of}
use Rattle.named_rows.proofs.named_rows.NamedRows.in_order.Goals as goal

-- the rows of the entries under these keys
pub returns : goal.returns
returns g c =
    IfOk-weaker c.in_order.result
    (λ rows. map (λ row. row.now) rows.items ≡ map row_of (filter (has_one_of c.args.keys.now) c.self.inside.rows))
    (λ rows. map (λ row. row.now) rows.items ≡ filter (is_one_of g.T.KeyedRow.key c.args.keys.now) c.args.self.now.rows)
    (λ rows is.
    is ∙ entries_of g.T.KeyedRow.key c.self.inside.rows c.self.invariant c.args.keys.now ∙ ap (λ (r : ListedRows _). filter (is_one_of g.T.KeyedRow.key c.args.keys.now) r.rows) c.self.view_is)
    c.in_order.ensures
