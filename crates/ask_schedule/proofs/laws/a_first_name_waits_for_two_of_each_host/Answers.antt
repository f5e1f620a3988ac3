use Rattle.ask_schedule.proofs.Hosts.{stands-there, two-ahead}
use Rattle.ask_schedule.proofs.laws.a_first_name_waits_for_two_of_each_host.Goals as goal

pub returns-clause-place : goal.returns-clause-place
returns-clause-place c = λ host name queue are none. stands-there host name queue are.ordered none

pub returns-clause-two : goal.returns-clause-two
returns-clause-two c = λ other queue are. two-ahead other queue.lap queue.rows are.ordered are.apart
