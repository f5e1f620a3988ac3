use Rattle.std.proofs.Common.{sym, ◌∙◌, arith}
use Rattle.board_moves.proofs.Changed.{rings_stay}
use Rattle.board_moves.proofs.RoundCalls.{all_performed_there, next_performed, next_refused}
use Rattle.board_moves.proofs.Told.{noted_through}
use Rattle.board_moves.specs.Noted.{begun, noted_of}
use Rattle.board_moves.specs.declared.rounds.RoundCall.TheVariants.{PumpFree}
use Rattle.board_moves.proofs.free_rounds.pump_free.Goals as goal

-- the call was refused
pub returns-in-Err-clause-calls : goal.returns-in-Err-clause-calls
returns-in-Err-clause-calls g c =
    next_refused PumpFree c.loop-n.attachments c.args.attachments.now c.loop-n.n c.in-Some.dest (begun (noted_of (g.G.GatewayCalls.state c.args.gate.now) c.args.attachments.now c.args.news.now)) (noted_of (g.G.GatewayCalls.state c.loop-n.gate) c.loop-n.attachments c.loop-n.news)
    (noted_of (g.G.GatewayCalls.state c.pump_unless_held.new.gate) c.pump_unless_held.new.attachments c.pump_unless_held.new.news) c.loop-n.moved c.in-Err.fault c.loop-n.invariant.1.0 (sym c.in-Some.ensures) c.loop-n.invariant.0 c.in-Err.ensures.performed

-- one call more was performed
pub loop-n-preserved : goal.loop-n-preserved
loop-n-preserved g c = (
  next_performed PumpFree c.loop-n.attachments c.args.attachments.now c.loop-n.n c.in-Some.dest (begun (noted_of (g.G.GatewayCalls.state c.args.gate.now) c.args.attachments.now c.args.news.now)) (noted_of (g.G.GatewayCalls.state c.loop-n.gate) c.loop-n.attachments c.loop-n.news)
      (noted_of (g.G.GatewayCalls.state c.pump_unless_held.new.gate) c.pump_unless_held.new.attachments c.pump_unless_held.new.news) c.loop-n.moved c.in-Ok.count c.saturating_add-moved.result c.loop-n.invariant.1.0 (sym c.in-Some.ensures) c.loop-n.invariant.0
      c.in-Ok.ensures.performed (omega (arith, c.saturating_add-moved.ensures)),
  (
    c.pump_unless_held.ensures.dests ∙ c.loop-n.invariant.1.0,
    (
      rings_stay c.args.attachments.now c.loop-n.attachments c.pump_unless_held.new.attachments c.loop-n.invariant.1.1.0 c.pump_unless_held.ensures.rings,
      (
        c.in-Ok.ensures.stands,
        (
          c.loop-n.invariant.1.1.1.1.0 ∙ sym c.pump_unless_held.ensures.full,
          noted_through c.args.news.now c.loop-n.news c.pump_unless_held.new.news c.loop-n.invariant.1.1.1.1.1 c.pump_unless_held.ensures.kept,
        ),
      ),
    ),
  ),
)

-- no connection is left
pub returns-in_default-clause-calls : goal.returns-in_default-clause-calls
returns-in_default-clause-calls g c =
    all_performed_there PumpFree c.loop-n.attachments c.args.attachments.now c.loop-n.n (begun (noted_of (g.G.GatewayCalls.state c.args.gate.now) c.args.attachments.now c.args.news.now)) (noted_of (g.G.GatewayCalls.state c.loop-n.gate) c.loop-n.attachments c.loop-n.news) c.loop-n.moved
    c.loop-n.invariant.1.0 (sym c.dest.ensures ∙ c.in_default.is) c.loop-n.invariant.0

pub returns-in-Err-clause-rings : goal.returns-in-Err-clause-rings
returns-in-Err-clause-rings g c = rings_stay c.args.attachments.now c.loop-n.attachments c.pump_unless_held.new.attachments c.loop-n.invariant.1.1.0 c.pump_unless_held.ensures.rings
