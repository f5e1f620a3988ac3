use Rattle.std.proofs.Common.{rules}
use Rattle.std.proofs.lemmas.Fn.{filter_same}
use Rattle.link_table.specs.Servers.{is_not_server}
use Rattle.link_table.proofs.servers.remove_row.Goals as goal

-- the closure answers the test and stays as it is
pub returns : goal.returns
returns c = filter_same _ (is_not_server c.args.number) _ (λ row kept closure called. search rules) _ _ c.retain.ensures.filtered
