use Rattle.link_table.proofs.SearchLemmas.{given_in_range, given_is, given_none}
use Rattle.plain_rows.specs.Numbers.{next_for}
use Rattle.plain_rows.proofs.state.PlainRows.next_in_range.Goals as goal

pub returns-clause-found : goal.returns-clause-found
returns-clause-found c = given_is c.next_number.result (next_for c.args.counter c.args.owner c.args.self.now) c.next_number.ensures

pub returns-clause-in_range : goal.returns-clause-in_range
returns-clause-in_range c = given_in_range c.next_number.result (next_for c.args.counter c.args.owner c.args.self.now) c.next_number.ensures

pub returns-clause-none : goal.returns-clause-none
returns-clause-none c = (given_none c.next_number.result (next_for c.args.counter c.args.owner c.args.self.now) c.next_number.ensures).0
