use Rattle.std.proofs.Common.{◌≡◌, rules}
use Rattle.std.specs.BTreeSet.{insert_key}
use Rattle.std.specs.Set.{remove_key}
use Rattle.replay.specs.Player.{dest_cmp, is_dest}
use Rattle.replay.proofs.PlayerLemmas.{Performs-edited, Performs-held}
use Rattle.replay.proofs.player.Player.perform.Goals as goal

pub returns-in_ok-insert-in-Hold-clause-done : goal.returns-in_ok-insert-in-Hold-clause-done
returns-in_ok-insert-in-Hold-clause-done g c =
    let kept : c.insert.new.self.keys ≡ insert_key dest_cmp c.args.self.now.held.keys c.in-Hold.dest = search rules in
    rw c.in-Hold.is
    (Performs-held (λ held. insert_key dest_cmp held c.in-Hold.dest) (g.G.GatewayCalls.state c.args.self.now.gate) c.args.self.now.intakes.entries
    c.args.self.now.held.keys c.insert.new.self.keys (g.W.Write.contents c.args.out.now) kept)

pub returns-in-Flow-clause-done : goal.returns-in-Flow-clause-done
returns-in-Flow-clause-done g c =
    let kept : c.remove.new.self.keys ≡ remove_key (is_dest c.in-Flow.dest) c.args.self.now.held.keys = search rules in
    rw c.in-Flow.is
    (Performs-held (λ held. remove_key (is_dest c.in-Flow.dest) held) (g.G.GatewayCalls.state c.args.self.now.gate) c.args.self.now.intakes.entries
    c.args.self.now.held.keys c.remove.new.self.keys (g.W.Write.contents c.args.out.now) kept)

pub returns-in_ok-edit-in-Edit-clause-done : goal.returns-in_ok-edit-in-Edit-clause-done
returns-in_ok-edit-in-Edit-clause-done g c =
    rw (c.in-Edit.is, c.edit.ensures.same.0, c.edit.ensures.same.1)
    (Performs-edited c.args.files.now (g.G.GatewayCalls.state c.args.self.now.gate) (g.G.GatewayCalls.state c.edit.new.self.gate) c.args.self.now.intakes.entries
    c.args.self.now.held.keys (g.W.Write.contents c.args.out.now) (g.W.Write.contents c.edit.new.out) c.in_ok-edit-in-Edit.ensures.edited)
