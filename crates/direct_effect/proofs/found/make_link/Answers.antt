use Rattle.std.proofs.Common.{ℕ, ap, ◌∙◌}
use Rattle.link_table.specs.LinkRows.{LinkRows, has_link}
use Rattle.link_table.specs.Numbers.{next_cid as next_cid_in}
use Rattle.gateway_rows.specs.BrandedState.{BrandedState}
use Rattle.gateway_state.specs.Servers.{next_cid}
use Rattle.gateway_state.proofs.NewNumbers.{new_cid}
use Rattle.direct_effect.proofs.found.make_link.Goals as goal

-- no link has the next number, and giving it out leaves all links
pub add_link_within-added-requires-clause-new_id : goal.add_link_within-added-requires-clause-new_id
add_link_within-added-requires-clause-new_id c =
    let inside = c.known.inside in
    let server = c.args.server in
    let id = next_cid_in inside.limits.reuses_numbers inside.config.first inside.upstream in
    ap (λ (cid : ℕ). has_link server cid c.new_cid.new.self) c.in-Some.ensures.found
    ∙ ap (λ (r : LinkRows). has_link server id r) c.in-Some.ensures.given
    ∙ ap (λ (s : BrandedState). has_link server (next_cid s.state) s.state.upstream) c.known.view_is
    ∙ new_cid c.args.known.now.state server c.requires.order
