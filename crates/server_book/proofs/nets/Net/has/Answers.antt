use Rattle.std.proofs.Common.{◌^◌, arith}
use Rattle.server_book.proofs.NetLemmas.{all_alike}
use Rattle.server_book.proofs.nets.Net.has.Goals as goal

pub returns-in-None : goal.returns-in-None
returns-in-None c = all_alike c.args.host c.args.self.now.first (2 ^ c.args.self.now.free) (omega arith) (omega arith) c.in-None.ensures.none
