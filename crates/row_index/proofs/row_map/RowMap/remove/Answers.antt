use Rattle.std.proofs.Common.{◌∙◌, sym, ap, map, filter, cond, nat_eq}
use Rattle.row_index.specs.Lists.{is_not_id}
use Rattle.row_index.specs.Rows.{id_of, is_owned_by}
use Rattle.row_index.proofs.Owned.{id_once, ids_with_fewer}
use Rattle.row_index.proofs.row_map.RowMap.remove.Goals as goal

pub invariant_of-self : goal.invariant_of-self
invariant_of-self g c =
    λ o. c.remove-2.ensures o ∙ ap (λ ids. cond (nat_eq c.args.key.owner o) (filter (is_not_id c.args.key.id) ids) ids) (c.self.invariant o) ∙ sym (ap (λ rows. map id_of (filter (is_owned_by o) rows)) c.remove.ensures ∙ ids_with_fewer o c.args.key c.self.inside.rows)

pub remove-requires-2 : goal.remove-requires-2
remove-requires-2 g c =
    rw (c.self.invariant c.args.key.owner) (id_once c.args.key c.self.inside.rows c.has_keys_apart.ensures)
