use Rattle.std.proofs.Common.{rules}
use Rattle.pvlist.proofs.LineLemmas.{alias_without_real}
use Rattle.pvlist.proofs.row.Row.read_alias.Goals as goal

pub returns-in_err-real-clause-err : goal.returns-in_err-real-clause-err
returns-in_err-real-clause-err c = search (rules, alias_without_real)
