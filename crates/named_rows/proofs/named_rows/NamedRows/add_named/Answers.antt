use Rattle.std.proofs.Common.{OnOk, length, subst, ap, ◌∙◌}
use Rattle.std.specs.List.{filter}
use Rattle.row_index.specs.Lists.{is_key, of}
use Rattle.named_rows.specs.Indexes.{IsListedOn, ListedRows}
use Rattle.named_rows.proofs.Keyed.{entry_new, found_added, rows_kept, rows_undone, under_kept}
use Rattle.named_rows.proofs.named_rows.NamedRows.add_named.Goals as goal

pub add-requires : goal.add-requires
add-requires g c = record {
  new = entry_new g.T.KeyedRow.key c.self.inside.rows c.self.invariant c.key-key.result c.args.row _ c.key-key.ensures (ap (λ (r : ListedRows _). r.rows) c.self.view_is) c.requires.new;
}

pub invariant_of-self-2 : goal.invariant_of-self-2
invariant_of-self-2 g c = under_kept g.T.KeyedRow.key c.self.inside.rows c.self.invariant c.list-listed.result c.key-key.result c.args.row _ _ c.key-key.ensures (entry_new g.T.KeyedRow.key c.self.inside.rows c.self.invariant c.key-key.result c.args.row _ c.key-key.ensures (ap (λ (r : ListedRows _). r.rows) c.self.view_is) c.requires.new) c.in_ok-add.ensures.ok c.keep_if.ensures.ok c.keep_if.ensures.err

pub returns-clause-ok_rows : goal.returns-clause-ok_rows
returns-clause-ok_rows g c =
    rw (← c.self.view_is, c.keep_if.ensures.same) (rows_kept g.T.KeyedRow.key c.self.inside.rows c.self.invariant c.list-listed.result c.key-key.result c.args.row _ _ c.key-key.ensures (entry_new g.T.KeyedRow.key c.self.inside.rows c.self.invariant c.key-key.result c.args.row _ c.key-key.ensures (ap (λ (r : ListedRows _). r.rows) c.self.view_is) c.requires.new) c.in_ok-add.ensures.ok c.keep_if.ensures.ok c.keep_if.ensures.err)

pub returns-clause-err_rows : goal.returns-clause-err_rows
returns-clause-err_rows g c =
    rw (← c.self.view_is, c.keep_if.ensures.same) (rows_undone g.T.KeyedRow.key c.self.inside.rows c.self.invariant c.list-listed.result c.key-key.result c.args.row _ _ c.key-key.ensures (entry_new g.T.KeyedRow.key c.self.inside.rows c.self.invariant c.key-key.result c.args.row _ c.key-key.ensures (ap (λ (r : ListedRows _). r.rows) c.self.view_is) c.requires.new) c.in_ok-add.ensures.ok c.keep_if.ensures.ok c.keep_if.ensures.err)

-- the row that stands under the key is the one that was added
pub list-listed-requires : goal.list-listed-requires
list-listed-requires g c =
    let none = entry_new g.T.KeyedRow.key c.self.inside.rows c.self.invariant c.key-key.result c.args.row _ c.key-key.ensures (ap (λ (r : ListedRows _). r.rows) c.self.view_is) c.requires.new in
    let found = found_added g.T.KeyedRow.key c.self.inside.rows c.self.invariant c.key-key.result c.args.row c.add.new.self none c.in_ok-add.ensures.ok in
    record { new = rw (found, c.key-key.ensures) (ap (λ (r : ListedRows _). length (filter (is_key (g.T.KeyedRow.key c.args.row)) (of r.on (g.T.Named.name c.args.row)))) c.self.view_is ∙ c.requires.unlisted) }

pub returns-clause-ok_on : goal.returns-clause-ok_on
returns-clause-ok_on g c =
    let none = entry_new g.T.KeyedRow.key c.self.inside.rows c.self.invariant c.key-key.result c.args.row _ c.key-key.ensures (ap (λ (r : ListedRows _). r.rows) c.self.view_is) c.requires.new in
    let found = found_added g.T.KeyedRow.key c.self.inside.rows c.self.invariant c.key-key.result c.args.row c.add.new.self none c.in_ok-add.ensures.ok in
    rw (← c.self.view_is, ← c.key-key.ensures, c.keep_if.ensures.same) (subst (λ o. OnOk c.list-listed.result (IsListedOn g.T.Named.name o c.key-key.result c.self.inside.on c.list-listed.new.on)) found c.list-listed.ensures.ok)
