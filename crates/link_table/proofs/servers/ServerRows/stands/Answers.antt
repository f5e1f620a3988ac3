use Rattle.std.proofs.Common.{◌∙◌, ap}
use Rattle.std.specs.Prelude.{is_some}
use Rattle.link_table.specs.Servers.{is_server}
use Rattle.link_table.proofs.KeyedLemmas.{is_some_found}
use Rattle.link_table.proofs.SearchLemmas.{some_copied}
use Rattle.link_table.proofs.servers.ServerRows.stands.Goals as goal

pub returns : goal.returns
returns c = c.is_some.ensures ∙ some_copied c.find.result ∙ ap is_some c.find.ensures ∙ is_some_found (is_server c.args.number) c.args.self.now
