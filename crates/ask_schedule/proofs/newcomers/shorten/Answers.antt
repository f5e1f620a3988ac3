use Rattle.std.proofs.Common.{◌≡◌, ap, ◌∙◌, nat_eq}
use Rattle.std.specs.HashMap.{get}
use Rattle.ask_schedule.specs.Queue.{last_lap}
use Rattle.ask_schedule.proofs.Hosts.{last-removed, last-set}
use Rattle.ask_schedule.proofs.newcomers.shorten.Goals as goal

pub returns-in-Some-last_among-clause-laps : goal.returns-in-Some-last_among-clause-laps
returns-in-Some-last_among-clause-laps c = λ host.
    last-set host c.pop_back.new.self.items c.in-Some.row c.in-Some-last_among.lap (get nat_eq c.args.laps.now host) (get nat_eq c.set_lap.new.laps host)
    (c.requires.told host ∙ ap (last_lap host) c.in-Some.ensures.items) c.in-Some-last_among.ensures (c.set_lap.ensures host)

pub returns-clause-laps : goal.returns-clause-laps
returns-clause-laps c = λ host.
    last-removed host c.pop_back.new.self.items c.in-Some.row (get nat_eq c.args.laps.now host) (get nat_eq c.remove.new.self host)
    (c.requires.told host ∙ ap (last_lap host) c.in-Some.ensures.items) c.in-None.ensures (c.remove.ensures.updates.0 host)
