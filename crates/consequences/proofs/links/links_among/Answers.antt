use Rattle.std.proofs.Common.{◌≡◌, map, ap, ◌∙◌}
use Rattle.std.specs.Prelude.{filter}
use Rattle.std.proofs.lemmas.Result.{IfOk-weaker}
use Rattle.link_table.specs.Links.{is_named_any}
use Rattle.gateway_rows.specs.BrandedState.{BrandedState}
use Rattle.touched_rows.specs.Touched.{is_link_among}
use Rattle.consequences.proofs.links.links_among.Goals as goal

-- the table's links for these names
pub returns : goal.returns
returns c =
    let names = c.args.names.now in
    let links = c.known.inside.upstream.links in
    IfOk-weaker c.links_named.result
    (λ found. map (λ link. link.now) found.items ≡ filter (is_named_any c.as_slice.result.now) links)
    (λ found. map (λ link. link.now) found.items ≡ filter (is_link_among names) c.args.known.now.state.upstream.links)
    (λ found is.
    is ∙ ap (λ asked. filter (is_named_any asked) links) c.as_slice.ensures
    ∙ ap (λ (s : BrandedState). filter (is_link_among names) s.state.upstream.links) c.known.view_is)
    c.links_named.ensures
