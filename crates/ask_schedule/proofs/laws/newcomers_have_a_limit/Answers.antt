use Rattle.ask_schedule.proofs.Hosts.{within-limit}
use Rattle.ask_schedule.proofs.laws.newcomers_have_a_limit.Goals as goal

pub returns : goal.returns
returns c = λ host name queue within. within-limit host name queue within
