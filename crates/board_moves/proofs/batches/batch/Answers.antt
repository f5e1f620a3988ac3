use Rattle.std.proofs.Common.{◌≡◌, ◌∙◌, ◌+◌, ◌-◌, min, map, Bool, Ok, Err, false, suc, ap, refl, sym, subst, arith}
use Rattle.std.specs.Prelude.{◌^◌}
use Rattle.board_moves.proofs.Changed.{rings_stay}
use Rattle.board_moves.proofs.Told.{noted_through}
use Rattle.board_moves.specs.Noted.{noted_of}
use Rattle.board_moves.specs.Rounds.{dests_of, PerformsUpTo}
use Rattle.board_moves.specs.declared.rounds.RoundCall.TheVariants.{Weigh}
use Rattle.board_moves.proofs.batches.batch.Goals as goal

-- the first round met a fault
pub returns-in-Err : goal.returns-in-Err
returns-in-Err g c =
    let weighed = subst (λ (b : Bool). PerformsUpTo (map (Weigh b) (dests_of c.args.attachments.now)) (noted_of (g.G.GatewayCalls.state c.args.gate.now) c.args.attachments.now c.args.news.now) (Ok 0) (noted_of (g.G.GatewayCalls.state c.weigh_all.new.gate) c.weigh_all.new.attachments c.args.news.now))
    c.weighs_clients-clients.ensures (c.weigh_all.ensures.calls c.args.news.now) in
    record {
      batch = (noted_of (g.G.GatewayCalls.state c.weigh_all.new.gate) c.weigh_all.new.attachments c.args.news.now, (weighed, (0, c.in-Err.ensures.round)));
      rings = rings_stay c.args.attachments.now c.weigh_all.new.attachments c.free_round.new.attachments c.weigh_all.ensures.rings c.free_round.ensures.rings;
      kept = c.free_round.ensures.kept;
    }

-- the first round was performed
pub loop-init : goal.loop-init
loop-init g c =
    let weighed = subst (λ (b : Bool). PerformsUpTo (map (Weigh b) (dests_of c.args.attachments.now)) (noted_of (g.G.GatewayCalls.state c.args.gate.now) c.args.attachments.now c.args.news.now) (Ok 0) (noted_of (g.G.GatewayCalls.state c.weigh_all.new.gate) c.weigh_all.new.attachments c.args.news.now))
    c.weighs_clients-clients.ensures (c.weigh_all.ensures.calls c.args.news.now) in (
      (noted_of (g.G.GatewayCalls.state c.weigh_all.new.gate) c.weigh_all.new.attachments c.args.news.now, (weighed, (0, c.in-Ok.ensures.round))),
      (rings_stay c.args.attachments.now c.weigh_all.new.attachments c.free_round.new.attachments c.weigh_all.ensures.rings c.free_round.ensures.rings, c.free_round.ensures.kept),
    )

-- a later one met a fault
pub returns-in-Err-free_round-clause-batch : goal.returns-in-Err-free_round-clause-batch
returns-in-Err-free_round-clause-batch g c =
    let so_far = c.loop.invariant.0 in
    let still : c.loop.news.grown ≡ false = sym c.has_grown.ensures ∙ c.if-has_grown.false in
    (so_far.0, (so_far.1.0, (suc so_far.1.1.0, (c.loop.moved, (Err c.in-Err-free_round.fault, (noted_of (g.G.GatewayCalls.state c.loop.gate) c.loop.attachments c.loop.news, (so_far.1.1.1, (still, (c.in-Err-free_round.ensures.round, refl)))))))))

-- one round more was performed
pub loop-preserved : goal.loop-preserved
loop-preserved g c =
    let so_far = c.loop.invariant.0 in
    let still : c.loop.news.grown ≡ false = sym c.has_grown.ensures ∙ c.if-has_grown.false in
    let told : c.saturating_add-moved.result ≡ min (c.loop.moved + c.in-Ok-free_round.count) (2 ^ 64 - 1) = omega (arith, c.saturating_add-moved.ensures) in (
      (so_far.0, (so_far.1.0, (suc so_far.1.1.0, (c.loop.moved, (Ok c.in-Ok-free_round.count, (noted_of (g.G.GatewayCalls.state c.loop.gate) c.loop.attachments c.loop.news, (so_far.1.1.1, (still, (c.in-Ok-free_round.ensures.round, ap Ok told))))))))),
      (
        rings_stay c.args.attachments.now c.loop.attachments c.free_round-in-loop.new.attachments c.loop.invariant.1.0 c.free_round-in-loop.ensures.rings,
        noted_through c.args.news.now c.loop.news c.free_round-in-loop.new.news c.loop.invariant.1.1 c.free_round-in-loop.ensures.kept,
      ),
    )
