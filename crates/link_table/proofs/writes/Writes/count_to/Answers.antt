use Rattle.std.proofs.Common.{length, ap, ◌∙◌}
use Rattle.std.specs.List.{filter}
use Rattle.link_table.specs.Writes.{is_write_to}
use Rattle.link_table.specs.WriteIndex.{write_key}
use Rattle.link_table.proofs.OwnerLemmas.{owned_count}
use Rattle.link_table.proofs.writes.Writes.count_to.Goals as goal

-- a server owns as many rows as there are writes to it
pub returns : goal.returns
returns c =
    c.count_of.ensures ∙ owned_count write_key c.args.server c.self.inside.rows c.self.invariant.keyed ∙ ap (λ writes. length (filter (is_write_to c.args.server) writes)) c.self.view_is
