use Rattle.std.proofs.Common.{ap}
use Rattle.value_cache.specs.Held.{Held, with_value}
use Rattle.gateway_state.specs.declared.cached.LastMessage.{LastMessage}
use Rattle.state_tables.specs.LatestRows.{with_held}
use Rattle.state_tables.proofs.ConnectionRows.{written_is_changed}
use Rattle.state_tables.proofs.latest.put_value.Goals as goal

pub returns-in-Some : goal.returns-in-Some
returns-in-Some c =
    let row : LastMessage = c.in-Some.row.now in
    written_is_changed c.args.key (with_held (with_value c.args.dtype c.args.count c.args.payload c.args.asked_with)) c.args.rows.now row _ c.in-Some.ensures.value (ap (λ (held : Held). record row { held = held }) c.put.ensures)
