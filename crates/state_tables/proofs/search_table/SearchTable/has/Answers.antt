use Rattle.std.proofs.Common.{is_some, ap, ◌∙◌}
use Rattle.std.specs.List.{list_any}
use Rattle.row_index.specs.Rows.{value_at}
use Rattle.named_rows.specs.Indexes.{is_at}
use Rattle.named_rows.proofs.Keyed.{entry_found}
use Rattle.named_rows.proofs.Lists.{found_where_any}
use Rattle.state_tables.specs.Kept.{kept_key, serial_key}
use Rattle.state_tables.proofs.search_table.SearchTable.has.Goals as goal

pub returns : goal.returns
returns c =
    c.contains.ensures
    ∙ ap (λ key. is_some (value_at key c.self.inside.rows)) c.key_of.ensures
    ∙ ap is_some (entry_found kept_key c.self.inside.rows c.self.invariant.0 (serial_key c.args.serial))
    ∙ found_where_any (is_at kept_key (serial_key c.args.serial)) _
    ∙ ap (list_any (is_at kept_key (serial_key c.args.serial))) c.self.view_is
