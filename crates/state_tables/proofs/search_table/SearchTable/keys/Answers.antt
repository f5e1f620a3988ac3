use Rattle.std.proofs.Common.{map, ap, ◌∙◌}
use Rattle.named_rows.proofs.Mapped.{map_twice}
use Rattle.state_tables.specs.Kept.{kept_key}
use Rattle.state_tables.proofs.search_table.SearchTable.keys.Goals as goal

pub returns : goal.returns
returns c =
    let all =
    ap (map (λ row. kept_key row.now)) c.deref.ensures.value ∙ map_twice kept_key (λ row. row.now) c.in_ok-rows.rows.items
    ∙ ap (map kept_key) (c.in_ok-rows.ensures ∙ c.self.view_is) in
    rw (← all) c.keys_of.ensures
