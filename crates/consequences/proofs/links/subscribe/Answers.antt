use Rattle.std.proofs.Common.{ℕ, Some, ap, ◌∙◌}
use Rattle.std.specs.List.{list_any}
use Rattle.ca_message.specs.declared.to_server.ToServer.TheVariants.{EventAdd}
use Rattle.link_table.specs.LinkRows.{LinkRows}
use Rattle.link_table.specs.Links.{has_other_sub}
use Rattle.link_table.specs.Numbers.{next_sub_id as next_sub_id_in}
use Rattle.gateway_rows.specs.BrandedState.{BrandedState}
use Rattle.gateway_state.specs.Gateway.{Gateway}
use Rattle.gateway_state.specs.Notices.{next_sub_id, subscribed_to, with_subscription_of}
use Rattle.gateway_state.specs.Telling.{asked}
use Rattle.gateway_state.proofs.NewNumbers.{new_id}
use Rattle.consequences.proofs.links.subscribe.Goals as goal

-- no other subscription to the server has the next ID
pub set_subscription-requires : goal.set_subscription-requires
set_subscription-requires c =
    let inside = c.known.inside in
    let w = c.args.known.now.state in
    let id = next_sub_id_in inside.limits.reuses_numbers inside.config.first c.args.server inside.upstream in
    record {
      new =
          ap (λ (n : ℕ). list_any (has_other_sub c.args.server c.args.cid c.args.subject n) c.new_sub_id.new.self.links) c.in-Some.ensures.found
          ∙ ap (λ (r : LinkRows). list_any (has_other_sub c.args.server c.args.cid c.args.subject id) r.links) c.in-Some.ensures.given
          ∙ ap (λ (s : BrandedState). list_any (has_other_sub c.args.server c.args.cid c.args.subject (next_sub_id s.state c.args.server)) s.state.upstream.links) c.known.view_is
          ∙ new_id w c.args.server c.args.cid c.args.subject c.requires.order;
    }

-- the ID that was given out is the next one, in the link and in what the server is asked
pub returns-clause-ok : goal.returns-clause-ok
returns-clause-ok c =
    let inside = c.known.inside in
    let want = c.args.want in
    let before : Gateway = record {
      config = inside.config;
      policy = inside.searches.policy;
      limits = inside.limits;
      connections = inside.connections;
      clients = inside.clients.rows;
      upstream = inside.upstream;
      cache = inside.cache;
      searches = inside.searches.rows;
      last_age = inside.last_age;
    } in
    let told : ℕ → Gateway → Gateway = λ id v. asked c.args.server (EventAdd c.args.sid id c.args.dtype c.args.sent want.mask) v in
    let with_it : ℕ → LinkRows → Gateway =
    λ id r. with_subscription_of c.args.subject c.args.server c.args.cid (Some (record { id = id; mask = want.mask; count = want.count; sent = c.args.sent })) (record before { upstream = r }) in
    c.in_ok-ask.ensures.ok
    ∙ ap (told c.in-Some.id) c.in_ok-set_subscription.ensures.ok
    ∙ (λ i. told (c.in-Some.ensures.found i) (with_it (c.in-Some.ensures.found i) (c.in-Some.ensures.given i)))
    ∙ ap (λ (s : BrandedState). subscribed_to c.args.subject c.args.server c.args.cid c.args.sid c.args.dtype want c.args.sent s.state) c.known.view_is
