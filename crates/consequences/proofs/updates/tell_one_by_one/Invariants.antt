use Rattle.std.proofs.Common.{◌≡◌, drop, fold}
use Rattle.gateway_rows.specs.Looked.{LookedOn}
use Rattle.gateway_state.specs.Told.{KnowRights}
use Rattle.consequences.specs.InTurn.{told_in_turn}
use Rattle.consequences.proofs.updates.tell_one_by_one.Given as goal

-- telling those that are left leads from here to where telling all leads
abbrev pub invariant-loop-sub : goal.invariant-loop-sub
invariant-loop-sub l = record {
  rest : fold told_in_turn l.rows.state (drop l.sub-index l.subs) ≡ fold told_in_turn l.fn.rows.state l.subs;
  told : KnowRights l.rows.state;
  looked : LookedOn l.fn.rows l.rows;
}
