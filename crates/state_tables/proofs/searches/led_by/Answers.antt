use Rattle.std.proofs.Common.{map, ap, ◌∙◌}
use Rattle.named_rows.proofs.Mapped.{map_twice}
use Rattle.state_tables.specs.Kept.{search_of, searches_of}
use Rattle.state_tables.proofs.searches.led_by.Goals as goal

pub returns : goal.returns
returns c =
    let all =
    ap (map (λ row. search_of row.now)) c.deref.ensures.value ∙ map_twice search_of (λ row. row.now) c.in_ok-rows.rows.items
    ∙ ap searches_of c.in_ok-rows.ensures in
    rw (← all) c.all_led_by.ensures
