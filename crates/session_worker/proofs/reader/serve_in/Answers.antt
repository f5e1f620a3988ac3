use Rattle.std.proofs.Common.{◌∙◌, ◌++◌, List, refl, sym, ap}
use Rattle.board_rings.specs.declared.inbound.Inbound.{Inbound}
use Rattle.session_worker.proofs.Hearing.{says_gone, served, served_in_vain, served_no_more}
use Rattle.session_worker.proofs.reader.serve_in.Goals as goal

pub returns-in-GateFailed-clause-served : goal.returns-in-GateFailed-clause-served
returns-in-GateFailed-clause-served g c = served_no_more _ _ c.in-GateFailed.ensures.stops

-- the gate didn't take that the connection is gone
pub returns-then-not-hand_over-clause-served : goal.returns-then-not-hand_over-clause-served
returns-then-not-hand_over-clause-served g c =
    served_in_vain c.hear_all.result _ _ _ _ c.hear_all.ensures.stops (c.if-not-hand_over.ensures.none search) (c.if-not-hand_over.ensures.stopped search)

pub returns-clause-served : goal.returns-clause-served
returns-clause-served g c =
    served c.hear_all.result _ _ _ _ c.hear_all.ensures.stops
    ((c.if-not-hand_over.ensures.some search)
    ∙ ap (λ (xs : List Inbound). c.hear_all.new.inlet.offered ++ xs) (sym (says_gone c.hear_all.result c.in_default.not-GateFailed)))
    c.hand_over.ensures.told
