use Rattle.std.proofs.lemmas.Bool.Decides.{nat_tests}
use Rattle.std.proofs.lemmas.List.{length-map}
use Rattle.std.proofs.Common.{◌≡◌, ◌≤◌, length, refl, sym, ap, ◌∙◌, arith}
use Rattle.board_moves.proofs.Changed.{rings_stay}
use Rattle.board_moves.proofs.RoundCalls.{all_performed, all_performed_there, next_performed}
use Rattle.board_moves.specs.Noted.{noted_of}
use Rattle.board_rings.specs.Rings.{AttachmentState}
use Rattle.board_moves.specs.declared.rounds.RoundCall.TheVariants.{Weigh}
use Rattle.board_moves.proofs.free_rounds.weigh_all.Goals as goal

-- one more was weighed
pub loop-n-preserved : goal.loop-n-preserved
loop-n-preserved g c = (
  λ news. next_performed (Weigh c.args.clients) c.loop-n.attachments c.args.attachments.now c.loop-n.n c.in-Some.dest (noted_of (g.G.GatewayCalls.state c.args.gate.now) c.args.attachments.now news) (noted_of (g.G.GatewayCalls.state c.loop-n.gate) c.loop-n.attachments news)
      (noted_of (g.G.GatewayCalls.state c.weigh.new.gate) c.weigh.new.attachments news) 0 0 0 c.loop-n.invariant.1.0 (sym c.in-Some.ensures) (c.loop-n.invariant.0 news) (refl, (c.weigh.ensures.weighed, refl)) (omega arith),
  (c.weigh.ensures.dests ∙ c.loop-n.invariant.1.0, rings_stay c.args.attachments.now c.loop-n.attachments c.weigh.new.attachments c.loop-n.invariant.1.1 c.weigh.ensures.rings),
)

-- no connection is left
pub returns-in_default-clause-calls : goal.returns-in_default-clause-calls
returns-in_default-clause-calls g c = λ news.
    all_performed_there (Weigh c.args.clients) c.loop-n.attachments c.args.attachments.now c.loop-n.n (noted_of (g.G.GatewayCalls.state c.args.gate.now) c.args.attachments.now news) (noted_of (g.G.GatewayCalls.state c.loop-n.gate) c.loop-n.attachments news) 0
    c.loop-n.invariant.1.0 (sym c.dest.ensures ∙ c.in_default.is) (c.loop-n.invariant.0 news)

pub returns-after-loop-n-clause-calls : goal.returns-after-loop-n-clause-calls
returns-after-loop-n-clause-calls g c = λ news.
    let attachment_dest = λ (attachment : AttachmentState). attachment.dest in
    let as_many : length c.loop-n.attachments ≡ length c.args.attachments.now = sym (length-map c.loop-n.attachments attachment_dest) ∙ ap length c.loop-n.invariant.1.0 ∙ length-map c.args.attachments.now attachment_dest in
    let enough : length c.loop-n.attachments ≤ c.loop-n.n = grind (arith, nat_tests, c.loop-n-test.false, c.len-n-end.ensures, as_many) in
    all_performed (Weigh c.args.clients) c.loop-n.attachments c.args.attachments.now c.loop-n.n (noted_of (g.G.GatewayCalls.state c.args.gate.now) c.args.attachments.now news) (noted_of (g.G.GatewayCalls.state c.loop-n.gate) c.loop-n.attachments news) 0
    c.loop-n.invariant.1.0 enough (c.loop-n.invariant.0 news)
