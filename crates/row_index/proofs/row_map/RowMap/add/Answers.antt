use Rattle.std.proofs.Common.{◌∙◌, sym, ap, map, filter}
use Rattle.row_index.specs.Rows.{id_of, is_owned_by, lacks_key}
use Rattle.row_index.proofs.Owned.{undone}
use Rattle.row_index.proofs.row_map.RowMap.add.Goals as goal

pub invariant_of-self-in-Err : goal.invariant_of-self-in-Err
invariant_of-self-in-Err g c =
    λ o. c.in-Err.ensures.err o ∙ c.self.invariant o ∙ ap (λ rows. map id_of (filter (is_owned_by o) rows)) (sym (c.remove.ensures ∙ ap (filter (lacks_key c.args.key)) c.in_ok-add.ensures.ok ∙ undone c.args.key c.args.value c.self.inside.rows (rw (← c.self.view_is) at c.requires.new)))

pub returns-in-Err-clause-err : goal.returns-in-Err-clause-err
returns-in-Err-clause-err g c =
    c.remove.ensures ∙ ap (filter (lacks_key c.args.key)) c.in_ok-add.ensures.ok ∙ undone c.args.key c.args.value c.self.inside.rows (rw (← c.self.view_is) at c.requires.new) ∙ c.self.view_is
