use Rattle.link_table.specs.Numbers.{next_of}
use Rattle.link_table.proofs.SearchLemmas.{given_in_range, given_is, given_none}
use Rattle.link_table.proofs.table.Links.next_in_range.Goals as goal

pub returns-clause-found : goal.returns-clause-found
returns-clause-found c = given_is c.next_number.result (next_of c.args.counter c.args.reuses c.args.first c.args.server c.args.self.now) c.next_number.ensures.found

pub returns-clause-in_range : goal.returns-clause-in_range
returns-clause-in_range c = given_in_range c.next_number.result (next_of c.args.counter c.args.reuses c.args.first c.args.server c.args.self.now) c.next_number.ensures.found

pub returns-clause-none : goal.returns-clause-none
returns-clause-none c = given_none c.next_number.result (next_of c.args.counter c.args.reuses c.args.first c.args.server c.args.self.now) c.next_number.ensures.found
