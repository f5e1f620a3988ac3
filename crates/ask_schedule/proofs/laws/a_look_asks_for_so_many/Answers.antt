use Rattle.std.proofs.Common.{arith}
use Rattle.std.proofs.lemmas.List.{length-take}
use Rattle.std.specs.List.{filter}
use Rattle.ask_schedule.specs.Plan.{is_due}
use Rattle.ask_schedule.proofs.laws.a_look_asks_for_so_many.Goals as goal

pub returns : goal.returns
returns c now most rows = omega (arith, length-take most (filter (is_due now) rows))
