use Rattle.std.proofs.Common.{ap}
use Rattle.named_rows.specs.Indexes.{ListedRows}
use Rattle.named_rows.proofs.Keyed.{entry_new, rows_kept, rows_undone, under_kept}
use Rattle.named_rows.proofs.named_rows.NamedRows.add.Goals as goal

pub add-requires : goal.add-requires
add-requires g c = record {
  new = entry_new g.T.KeyedRow.key c.self.inside.rows c.self.invariant c.key-key.result c.args.row _ c.key-key.ensures (ap (λ (r : ListedRows _). r.rows) c.self.view_is) c.requires.new;
}

pub invariant_of-self-2 : goal.invariant_of-self-2
invariant_of-self-2 g c = under_kept g.T.KeyedRow.key c.self.inside.rows c.self.invariant c.add_new-listed.result c.key-key.result c.args.row _ _ c.key-key.ensures (entry_new g.T.KeyedRow.key c.self.inside.rows c.self.invariant c.key-key.result c.args.row _ c.key-key.ensures (ap (λ (r : ListedRows _). r.rows) c.self.view_is) c.requires.new) c.in_ok-add.ensures.ok c.keep_if.ensures.ok c.keep_if.ensures.err

pub returns-clause-ok_rows : goal.returns-clause-ok_rows
returns-clause-ok_rows g c =
    rw (← c.self.view_is, c.keep_if.ensures.same) (rows_kept g.T.KeyedRow.key c.self.inside.rows c.self.invariant c.add_new-listed.result c.key-key.result c.args.row _ _ c.key-key.ensures (entry_new g.T.KeyedRow.key c.self.inside.rows c.self.invariant c.key-key.result c.args.row _ c.key-key.ensures (ap (λ (r : ListedRows _). r.rows) c.self.view_is) c.requires.new) c.in_ok-add.ensures.ok c.keep_if.ensures.ok c.keep_if.ensures.err)

pub returns-clause-err_rows : goal.returns-clause-err_rows
returns-clause-err_rows g c =
    rw (← c.self.view_is, c.keep_if.ensures.same) (rows_undone g.T.KeyedRow.key c.self.inside.rows c.self.invariant c.add_new-listed.result c.key-key.result c.args.row _ _ c.key-key.ensures (entry_new g.T.KeyedRow.key c.self.inside.rows c.self.invariant c.key-key.result c.args.row _ c.key-key.ensures (ap (λ (r : ListedRows _). r.rows) c.self.view_is) c.requires.new) c.in_ok-add.ensures.ok c.keep_if.ensures.ok c.keep_if.ensures.err)
