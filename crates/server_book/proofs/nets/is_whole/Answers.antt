use Rattle.std.proofs.Common.{◌^◌, rules, arith}
use Rattle.server_book.proofs.NetLemmas.{itself_left}
use Rattle.server_book.proofs.nets.is_whole.Goals as goal

pub returns-in-None : goal.returns-in-None
returns-in-None c = rw (itself_left c.args.first (2 ^ c.args.free) (omega arith) c.in-None.ensures.none) (search rules)
