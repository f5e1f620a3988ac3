use Rattle.std.proofs.Math.Pow.{pow_mono}
use Rattle.server_book.proofs.nets.size_of.Goals as goal

pub returns-else-free-lt128-clause-none : goal.returns-else-free-lt128-clause-none
returns-else-free-lt128-clause-none c = pow_mono c.if-free-lt128.false
