use Rattle.std.proofs.Common.{ap, ◌∙◌}
use Rattle.std.specs.List.{find}
use Rattle.named_rows.specs.Indexes.{is_at}
use Rattle.named_rows.proofs.Keyed.{entry_found}
use Rattle.state_tables.specs.Kept.{kept_key}
use Rattle.state_tables.proofs.search_table.SearchTable.get.Goals as goal

pub returns : goal.returns
returns c = c.get.ensures ∙ entry_found kept_key c.self.inside.rows c.self.invariant.0 c.args.key ∙ ap (find (is_at kept_key c.args.key)) c.self.view_is
