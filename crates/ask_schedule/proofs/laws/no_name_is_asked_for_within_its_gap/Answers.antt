use Rattle.ask_schedule.proofs.Gaps.{not_again}
use Rattle.ask_schedule.proofs.laws.no_name_is_asked_for_within_its_gap.Goals as goal

pub returns : goal.returns
returns c now later most more before after row o apart was less last again = not_again now later most more before after row o apart was less last again
