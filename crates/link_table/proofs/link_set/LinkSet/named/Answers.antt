use Rattle.std.proofs.Common.{◌≡◌, map, ap, ◌∙◌}
use Rattle.std.specs.List.{filter}
use Rattle.std.proofs.lemmas.Result.{IfOk-weaker}
use Rattle.row_index.specs.Rows.{has_one_of, row_of}
use Rattle.link_table.specs.Links.{is_named_any}
use Rattle.link_table.proofs.NamedLemmas.{links_named}
use Rattle.link_table.proofs.link_set.LinkSet.named.Goals as goal

-- the rows of the keys that the names lead to
pub returns : goal.returns
returns c =
    let s = c.self.inside in
    IfOk-weaker c.in_order.result
    (λ links. map (λ link. link.now) links.items ≡ map row_of (filter (has_one_of c.deref.result.now) s.rows))
    (λ links. map (λ link. link.now) links.items ≡ filter (is_named_any c.args.names.now) c.args.self.now)
    (λ links is.
    is ∙ ap (λ keys. map row_of (filter (has_one_of keys) s.rows)) (c.deref.ensures.value ∙ c.in_ok-keys.ensures)
    ∙ links_named s.rows s.by_name c.self.invariant.by_name c.args.names.now c.self.invariant.apart
    ∙ ap (filter (is_named_any c.args.names.now)) c.self.view_is)
    c.in_order.ensures
