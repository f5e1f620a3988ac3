use Rattle.std.proofs.Common.{length, not, ◌==◌, ap, ◌∙◌}
use Rattle.std.specs.List.{list_any}
use Rattle.state_tables.specs.Kept.{is_led}
use Rattle.state_tables.proofs.SearchRows.{led_in}
use Rattle.state_tables.proofs.search_table.SearchTable.leads_to.Goals as goal

-- a search leads there exactly where one is listed
pub returns : goal.returns
returns c =
    ap not (c.is_empty.ensures ∙ ap (λ keys. length keys == 0) c.of.ensures)
    ∙ led_in c.self.inside.rows c.self.invariant.0 c.self.inside.lists c.self.invariant.1 c.args.name.now
    ∙ ap (list_any (is_led c.args.name.now)) c.self.view_is
