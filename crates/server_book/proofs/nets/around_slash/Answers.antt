use Rattle.std.proofs.Common.{sym}
use Rattle.server_book.proofs.NetLemmas.{after-none, after-slash, before-none, before-slash}
use Rattle.server_book.proofs.nets.around_slash.Goals as goal

pub returns-in-Some-clause-before : goal.returns-in-Some-clause-before
returns-in-Some-clause-before c = before-slash c.args.text.now c.in-Some.place (sym c.in-Some.ensures.place)

pub returns-in-Some-clause-after : goal.returns-in-Some-clause-after
returns-in-Some-clause-after c = after-slash c.args.text.now c.in-Some.place (sym c.in-Some.ensures.place)

pub returns-in-None-clause-before : goal.returns-in-None-clause-before
returns-in-None-clause-before c = before-none c.args.text.now (sym c.in-None.ensures.place)

pub returns-in-None-clause-after : goal.returns-in-None-clause-after
returns-in-None-clause-after c = after-none c.args.text.now (sym c.in-None.ensures.place)
