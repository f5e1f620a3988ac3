use Rattle.std.proofs.Common.{◌≡◌, ℕ, ◌∷◌, subst, ap, ◌∙◌, nat_eq}
use Rattle.std.specs.HashMap.{get}
use Rattle.ask_schedule.specs.Queue.{last_lap}
use Rattle.ask_schedule.specs.Turns.{AreNewcomers}
use Rattle.ask_schedule.proofs.Hosts.{first-gone, rows-first}
use Rattle.ask_schedule.proofs.newcomers.Newcomers.drop_first.Goals as goal

pub invariant_of-self-2 : goal.invariant_of-self-2
invariant_of-self-2 c =
    let row = c.in-Some.row in
    let rest = c.pop_front.new.self.items in
    let are = subst (AreNewcomers c.self.inside.limit c.self.inside.lap) c.in-Some.ensures.items c.self.invariant.0 in (
      rows-first c.self.inside.limit c.self.inside.lap row rest are,
      λ host.
          first-gone host row rest (get nat_eq c.self.inside.laps host) (get nat_eq c.forget_lap.new.laps host) are.apart.0
          (c.self.invariant.1 host ∙ ap (last_lap host) c.in-Some.ensures.items) (c.forget_lap.ensures host),
    )
