use Rattle.std.proofs.Common.{◌≡◌, Some, None, rules}
use Rattle.std.specs.Map.{lookup, set_value}
use Rattle.replay.specs.Player.{is_dest}
use Rattle.replay.proofs.ReceivingLemmas.{Performs-heard, Performs-unheard}
use Rattle.replay.proofs.player.Player.receive.Goals as goal

pub returns-in_default : goal.returns-in_default
returns-in_default g c = λ out.
    let state = g.G.GatewayCalls.state in
    let none : lookup (is_dest c.args.dest) c.args.self.now.intakes.entries ≡ None = search rules in
    rw c.get_mut.follows.holds-at-none
    (Performs-unheard (state c.args.self.now.gate) c.args.self.now.intakes.entries c.args.self.now.held.keys c.args.dest c.args.bytes.now out none)

pub returns : goal.returns
returns g c = λ out.
    let state = g.G.GatewayCalls.state in
    let taken = c.in_ok-fault.ensures.taken in
    let stands : lookup (is_dest c.args.dest) c.args.self.now.intakes.entries ≡ Some c.in-Some.intake.now = search rules in
    let keeps : (c.get_mut.follows.lender c.take_messages.new.intake).entries
    ≡ set_value (is_dest c.args.dest) c.args.self.now.intakes.entries c.take_messages.new.intake = search rules in
    Performs-heard (state c.args.self.now.gate) (state c.run.new.self) c.args.self.now.intakes.entries
    (c.get_mut.follows.lender c.take_messages.new.intake).entries c.args.self.now.held.keys c.args.dest c.in-Some.intake.now c.args.bytes.now
    c.take_messages.new.intake taken.0 c.in_ok-fault.fault c.with_fault.result out
    stands (rw (← c.in_ok-feed.ensures) taken.1) (rw (taken.2, c.new-events.ensures.items) at c.in_ok-run.ensures.ok)
    keeps c.in_ok-fault.ensures.fault c.with_fault.ensures
