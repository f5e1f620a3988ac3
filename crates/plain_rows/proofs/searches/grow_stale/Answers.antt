use Rattle.std.proofs.Common.{arith}
use Rattle.std.proofs.lemmas.List.{get_or_default}
use Rattle.std.proofs.lemmas.List.Edits.{map_over_more}
use Rattle.gateway_state.specs.Searches.{grown_stale}
use Rattle.plain_rows.proofs.searches.grow_stale.Goals as goal

-- one more grew stale
pub loop-row-preserved : goal.loop-row-preserved
loop-row-preserved c =
    map_over_more grown_stale c.args.rows.now.items c.loop-row.row-items c.loop-row.row-index _ (omega (arith, c.loop-row-test.true)) c.loop-row.invariant
    (get_or_default c.loop-row.row-items c.loop-row.row-index _ _ (omega arith))
