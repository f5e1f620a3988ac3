use Rattle.std.proofs.Common.{ap, ◌∙◌}
use Rattle.std.specs.List.{find}
use Rattle.link_table.specs.Writes.{is_write}
use Rattle.link_table.specs.LinkIndex.{key}
use Rattle.link_table.specs.WriteIndex.{write_key}
use Rattle.link_table.proofs.KeyedLemmas.{row_at}
use Rattle.link_table.proofs.writes.Writes.get.Goals as goal

-- the write under the key is the first to this server with this ID
pub returns : goal.returns
returns c =
    let writes = c.self.inside.rows in
    c.get.ensures ∙ row_at write_key (key c.args.server c.args.id) writes c.self.invariant.keyed ∙ ap (find (is_write c.args.server c.args.id)) c.self.view_is
