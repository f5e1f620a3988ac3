use Rattle.std.proofs.Common.{sym, ◌∙◌, arith}
use Rattle.board_moves.proofs.Changed.{rings_stay}
use Rattle.board_moves.proofs.RoundCalls.{all_performed_there, next_performed, next_refused}
use Rattle.board_moves.proofs.Told.{noted_through}
use Rattle.board_moves.specs.Noted.{noted_of}
use Rattle.board_moves.specs.declared.rounds.RoundCall.TheVariants.{SendOut}
use Rattle.board_moves.proofs.rounds.send_all.Goals as goal

-- the call was refused
pub returns-in-Err-clause-calls : goal.returns-in-Err-clause-calls
returns-in-Err-clause-calls g c =
    next_refused SendOut c.loop-n.attachments c.args.attachments.now c.loop-n.n c.in-Some.dest (noted_of (g.G.GatewayCalls.state c.args.gate.now) c.args.attachments.now c.args.news.now) (noted_of (g.G.GatewayCalls.state c.loop-n.gate) c.loop-n.attachments c.loop-n.news)
    (noted_of (g.G.GatewayCalls.state c.send_out.new.gate) c.send_out.new.attachments c.send_out.new.news) c.loop-n.moved c.in-Err.fault c.loop-n.invariant.1.0 (sym c.in-Some.ensures) c.loop-n.invariant.0 (c.in-Err.ensures.sent, (c.in-Err.ensures.told, c.send_out.ensures.kept))

-- one call more was performed
pub loop-n-preserved : goal.loop-n-preserved
loop-n-preserved g c = (
  next_performed SendOut c.loop-n.attachments c.args.attachments.now c.loop-n.n c.in-Some.dest (noted_of (g.G.GatewayCalls.state c.args.gate.now) c.args.attachments.now c.args.news.now) (noted_of (g.G.GatewayCalls.state c.loop-n.gate) c.loop-n.attachments c.loop-n.news)
      (noted_of (g.G.GatewayCalls.state c.send_out.new.gate) c.send_out.new.attachments c.send_out.new.news) c.loop-n.moved c.in-Ok.count c.saturating_add-moved.result c.loop-n.invariant.1.0 (sym c.in-Some.ensures) c.loop-n.invariant.0
      (c.in-Ok.ensures.sent, (c.in-Ok.ensures.told, c.send_out.ensures.kept)) (omega (arith, c.saturating_add-moved.ensures)),
  (
    c.send_out.ensures.dests ∙ c.loop-n.invariant.1.0,
    (
      rings_stay c.args.attachments.now c.loop-n.attachments c.send_out.new.attachments c.loop-n.invariant.1.1.0 c.send_out.ensures.rings,
      noted_through c.args.news.now c.loop-n.news c.send_out.new.news c.loop-n.invariant.1.1.1 c.send_out.ensures.kept,
    ),
  ),
)

-- no connection is left
pub returns-in_default-clause-calls : goal.returns-in_default-clause-calls
returns-in_default-clause-calls g c =
    all_performed_there SendOut c.loop-n.attachments c.args.attachments.now c.loop-n.n (noted_of (g.G.GatewayCalls.state c.args.gate.now) c.args.attachments.now c.args.news.now) (noted_of (g.G.GatewayCalls.state c.loop-n.gate) c.loop-n.attachments c.loop-n.news) c.loop-n.moved
    c.loop-n.invariant.1.0 (sym c.dest.ensures ∙ c.in_default.is) c.loop-n.invariant.0

pub returns-in-Err-clause-rings : goal.returns-in-Err-clause-rings
returns-in-Err-clause-rings g c = rings_stay c.args.attachments.now c.loop-n.attachments c.send_out.new.attachments c.loop-n.invariant.1.1.0 c.send_out.ensures.rings
