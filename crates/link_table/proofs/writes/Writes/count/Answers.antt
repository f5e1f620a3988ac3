use Rattle.std.proofs.Common.{map, length, ap, ◌∙◌}
use Rattle.std.specs.List.{filter, count_by}
use Rattle.std.proofs.lemmas.List.{length-map}
use Rattle.std.proofs.lemmas.List.Sums.{length-filter}
use Rattle.row_index.specs.Rows.{row_of}
use Rattle.link_table.specs.Writes.{is_write_of}
use Rattle.link_table.specs.WriteIndex.{write_key}
use Rattle.link_table.proofs.writes.Writes.count.Goals as goal

-- a session has as many keys as writes
pub returns : goal.returns
returns c =
    let own = is_write_of c.args.session in
    let rows = map row_of c.self.inside.rows in
    ap length (c.of.ensures ∙ c.self.invariant.listed c.args.session) ∙ length-map (filter own rows) write_key ∙ length-filter own rows ∙ ap (count_by own) c.self.view_is
