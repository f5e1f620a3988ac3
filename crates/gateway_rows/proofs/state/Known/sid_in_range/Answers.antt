use Rattle.gateway_state.specs.Clients.{next_sid}
use Rattle.link_table.proofs.SearchLemmas.{given_in_range, given_is, given_none}
use Rattle.gateway_rows.proofs.state.Known.sid_in_range.Goals as goal

pub returns-clause-found : goal.returns-clause-found
returns-clause-found c = given_is c.next_sid.result (next_sid c.args.self.now.state c.args.number) c.next_sid.ensures

pub returns-clause-in_range : goal.returns-clause-in_range
returns-clause-in_range c = given_in_range c.next_sid.result (next_sid c.args.self.now.state c.args.number) c.next_sid.ensures

pub returns-clause-none : goal.returns-clause-none
returns-clause-none c = (given_none c.next_sid.result (next_sid c.args.self.now.state c.args.number) c.next_sid.ensures).0
