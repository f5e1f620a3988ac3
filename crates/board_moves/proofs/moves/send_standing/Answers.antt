use Rattle.std.proofs.lemmas.Bool.Decides.{nat_tests}
use Rattle.std.proofs.Common.{◌≡◌, ◌<◌, List, Option, Some, Err, subst, sym, ap, ◌∙◌, arith}
use Rattle.std.specs.Prelude.{IsNone}
use Rattle.std.specs.Option.{option_map}
use Rattle.gateway_state.specs.Gateway.{Gateway}
use Rattle.gateway_state.specs.Step.{step, taken}
use Rattle.gateway_state.specs.declared.event.Event.TheVariants.{Drain}
use Rattle.board_rings.proofs.AttachmentChanges.{free_as_found}
use Rattle.board_rings.specs.Attachments.{attachment_of}
use Rattle.board_rings.specs.Rings.{AttachmentState}
use Rattle.board_rings.specs.Calls.{uses_up}
use Rattle.board_moves.proofs.Changed.{looked_dests, looked_rings, no_more_taken, pushed_dests, pushed_rings, rings_stay}
use Rattle.board_moves.proofs.Moved.{held_back, places_of_attached, send_faults, sent_nothing, sent_out, share_is_few, share_of_way}
use Rattle.board_moves.specs.Answers.{board_of}
use Rattle.board_moves.proofs.moves.send_standing.Goals as goal

pub returns-then-found-eq0-clause-sent : goal.returns-then-found-eq0-clause-sent
returns-then-found-eq0-clause-sent g c =
    sent_nothing c.args.dest c.room-found.result (g.G.GatewayCalls.state c.args.gate.now) c.args.attachments.now c.room-found.new.self c.requires.stands (grind (arith, nat_tests, c.if-found-eq0.true)) c.room-found.ensures.found c.room-found.ensures.more

pub returns-then-asked-eq0-clause-sent : goal.returns-then-asked-eq0-clause-sent
returns-then-asked-eq0-clause-sent g c =
    let some : 0 < c.room-found.result = grind (arith, nat_tests, c.if-found-eq0.false) in
    let is = share_of_way c.args.dest c.room-found.result c.on_its_way-on_the_way.result c.share-asked.result (g.G.GatewayCalls.state c.args.gate.now) c.args.attachments.now c.room-found.new.self c.room-found.ensures.found c.on_its_way-on_the_way.ensures c.share-asked.ensures.share in
    held_back c.args.dest c.room-found.result c.share-asked.result (g.G.GatewayCalls.state c.args.gate.now) (g.G.GatewayCalls.state c.share-asked.new.gate) c.args.attachments.now c.room-found.new.self c.requires.stands
    (places_of_attached c.args.dest c.room-found.result c.args.attachments.now c.room-found.ensures.none some) some c.share-asked.ensures.same c.room-found.ensures.found is (grind (arith, nat_tests, c.if-asked-eq0.true))

pub push_all-requires : goal.push_all-requires
push_all-requires g c = λ attachment there.
    let some : 0 < c.room-found.result = grind (arith, nat_tests, c.if-found-eq0.false) in
    let is = share_of_way c.args.dest c.room-found.result c.on_its_way-on_the_way.result c.share-asked.result (g.G.GatewayCalls.state c.args.gate.now) c.args.attachments.now c.room-found.new.self c.room-found.ensures.found c.on_its_way-on_the_way.ensures c.share-asked.ensures.share in
    let known = free_as_found c.args.dest c.room-found.result c.args.attachments.now attachment (subst (λ (ls : List AttachmentState). attachment_of c.args.dest ls ≡ Some attachment) c.room-found.ensures.found there) in
    let fewer = no_more_taken c.args.dest c.share-asked.result (g.G.GatewayCalls.state c.share-asked.new.gate) c.in-Ok.outs.items c.in-Ok.ensures.found in
    let few = share_is_few c.args.dest c.room-found.result c.share-asked.result (board_of (g.G.GatewayCalls.state c.args.gate.now) c.args.attachments.now) some is in
    omega (arith, known, fewer, few)

pub returns-in-Ok-clause-sent : goal.returns-in-Ok-clause-sent
returns-in-Ok-clause-sent g c =
    let some : 0 < c.room-found.result = grind (arith, nat_tests, c.if-found-eq0.false) in
    let some_asked : 0 < c.share-asked.result = grind (arith, nat_tests, c.if-asked-eq0.false) in
    let is = share_of_way c.args.dest c.room-found.result c.on_its_way-on_the_way.result c.share-asked.result (g.G.GatewayCalls.state c.args.gate.now) c.args.attachments.now c.room-found.new.self c.room-found.ensures.found c.on_its_way-on_the_way.ensures c.share-asked.ensures.share in
    sent_out c.args.dest c.room-found.result c.share-asked.result c.len-count.result c.in-Ok.outs.items (g.G.GatewayCalls.state c.args.gate.now) (g.G.GatewayCalls.state c.drain.new.self) c.args.attachments.now c.room-found.new.self c.push_all.new.self
    c.requires.stands (places_of_attached c.args.dest c.room-found.result c.args.attachments.now c.room-found.ensures.none some) some some_asked is
    (ap (uses_up (Drain c.args.dest c.share-asked.result)) (sym c.share-asked.ensures.same) ∙ c.in-Ok.ensures.in_range)
    (c.in-Ok.ensures.found ∙ ap (option_map (λ (w : Gateway). taken w (Drain c.args.dest c.share-asked.result) c.args.dest)) c.share-asked.ensures.same)
    (c.in-Ok.ensures.ok ∙ ap (option_map (λ (w : Gateway). step w (Drain c.args.dest c.share-asked.result))) c.share-asked.ensures.same)
    c.room-found.ensures.found c.push_all.ensures (c.len-count.ensures ∙ c.in-Ok.outs.ok.0)

pub returns-in-Ok-clause-dests : goal.returns-in-Ok-clause-dests
returns-in-Ok-clause-dests g c =
    pushed_dests c.args.dest c.in-Ok.outs.items c.room-found.new.self c.push_all.new.self c.push_all.ensures ∙ looked_dests c.args.dest c.room-found.result c.args.attachments.now c.room-found.new.self c.room-found.ensures.found

pub returns-in-Ok-clause-rings : goal.returns-in-Ok-clause-rings
returns-in-Ok-clause-rings g c =
    rings_stay c.args.attachments.now c.room-found.new.self c.push_all.new.self (looked_rings c.args.dest c.room-found.result c.args.attachments.now c.room-found.new.self c.room-found.ensures.found)
    (pushed_rings c.args.dest c.in-Ok.outs.items c.room-found.new.self c.push_all.new.self c.push_all.ensures)

pub returns-in-Err-clause-sent : goal.returns-in-Err-clause-sent
returns-in-Err-clause-sent g c =
    let some : 0 < c.room-found.result = grind (arith, nat_tests, c.if-found-eq0.false) in
    let is = share_of_way c.args.dest c.room-found.result c.on_its_way-on_the_way.result c.share-asked.result (g.G.GatewayCalls.state c.args.gate.now) c.args.attachments.now c.room-found.new.self c.room-found.ensures.found c.on_its_way-on_the_way.ensures c.share-asked.ensures.share in
    send_faults c.args.dest c.room-found.result c.share-asked.result c.in-Err.fault (g.G.GatewayCalls.state c.args.gate.now) (g.G.GatewayCalls.state c.drain.new.self) c.args.attachments.now c.room-found.new.self
    c.requires.stands (places_of_attached c.args.dest c.room-found.result c.args.attachments.now c.room-found.ensures.none some) c.in-Err.ensures.err c.room-found.ensures.found is
    (λ e. ap (uses_up (Drain c.args.dest c.share-asked.result)) (sym c.share-asked.ensures.same) ∙ c.in-Err.ensures.used_up (ap Err e))
    (λ e. subst (λ (r : Option Gateway). IsNone r) c.share-asked.ensures.same (c.in-Err.ensures.failed.0 (ap Err e)))
