use Rattle.std.proofs.Common.{◌∙◌, ap, length, filter}
use Rattle.std.proofs.lemmas.List.Sums.{length-filter}
use Rattle.std.proofs.lemmas.List.{length-map}
use Rattle.row_index.specs.Rows.{id_of, is_owned_by}
use Rattle.row_index.proofs.row_map.RowMap.count_of.Goals as goal

pub returns : goal.returns
returns g c =
    rw (← c.self.view_is) (ap length (c.of.ensures ∙ c.self.invariant c.args.owner) ∙ length-map (filter (is_owned_by c.args.owner) c.self.inside.rows) id_of ∙ length-filter (is_owned_by c.args.owner) c.self.inside.rows)
