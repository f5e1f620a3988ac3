use Rattle.std.proofs.Common.{◌≡◌, ◌*◌, true, drop, fold}
use Rattle.std.specs.List.{All}
use Rattle.gateway_rows.specs.Looked.{Looked}
use Rattle.gateway_state.specs.Told.{KnowRights}
use Rattle.gateway_state.specs.Updates.{is_sub_to}
use Rattle.consequences.specs.Giving.{GivesOf}
use Rattle.consequences.specs.InTurn.{told_once}
use Rattle.touched_rows.specs.Concern.{passes}
use Rattle.consequences.proofs.walk.tell_each.Given as goal

-- telling those that are left leads from here to where telling all leads, with three looks for each that was told
abbrev pub invariant-loop-sub : goal.invariant-loop-sub
invariant-loop-sub l = record {
  rest : fold (told_once (passes l.concern)) l.rows.state (drop l.sub-index l.subs) ≡ fold (told_once (passes l.concern)) l.fn.rows.state l.subs;
  told : KnowRights l.rows.state;
  on : All (λ sub. is_sub_to l.rows.state l.name sub ≡ true) l.subs;
  gives : GivesOf l.rows.state l.name l.giving;
  looked : Looked (3 * l.sub-index) l.fn.rows l.rows;
}
