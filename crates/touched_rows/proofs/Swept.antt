-- Searches are forgotten: a link that nothing else wants is dropped, and nobody else is told anything.
use Rattle.std.proofs.Common.{◌≡◌, ℕ, List, [], Bool, true, false, ◌||◌, Option, Some, None, refl, sym, ap, ◌∙◌}
use Rattle.std.specs.Prelude.{filter_map}
use Rattle.std.specs.List.{find, fold, list_any}
use Rattle.std.proofs.lemmas.List.Elements.{All-weaker}
use Rattle.channel_table.specs.ClientRows.{ClientRows}
use Rattle.named_rows.specs.declared.channels.Channel.{Channel}
use Rattle.named_rows.specs.declared.reads.WaitingRead.{WaitingRead}
use Rattle.named_rows.specs.declared.subs.ClientSub.{ClientSub}
use Rattle.named_rows.specs.Channels.{is_channel, is_on}
use Rattle.gateway_state.specs.declared.notice.LinkNotice.{LinkNotice}
use Rattle.gateway_state.specs.declared.search.RememberedSearch.{RememberedSearch}
use Rattle.gateway_state.specs.Direct.{swept}
use Rattle.gateway_state.specs.Gateway.{Gateway}
use Rattle.gateway_state.specs.Notices.{link_told, notice_on, read_notice, read_notices, reads_told}
use Rattle.gateway_state.specs.Rights.{channel_of}
use Rattle.gateway_state.specs.Searches.{leads_to}
use Rattle.gateway_state.specs.Settled.{HasCidsApart, IsSettled}
use Rattle.gateway_state.specs.Step.{consequences}
use Rattle.gateway_state.specs.Updates.{update_notice, update_notices, update_on, updates_told}
use Rattle.gateway_state.specs.Variables.{is_among, is_wanted, search_names}
use Rattle.gateway_state.proofs.SearchedNames.{searched_is_among}
use Rattle.gateway_state.proofs.SettledMeaning.{none_told}
use Rattle.gateway_state.proofs.SettledSteps.{found_is_on, reads_stay, updates_stay}
use Rattle.touched_rows.specs.Touched.{is_link_among, link_notices_among, links_told_among}
use Rattle.touched_rows.proofs.LessGiven.{read_on-stays, update_if_open, update_on-stays}
use Rattle.touched_rows.proofs.OneLink.{IsBesideOthers, links_touched}
use Rattle.touched_rows.proofs.Passes.{from_links}
use Rattle.touched_rows.proofs.Shapes.{links_told_shape}
use Rattle.touched_rows.proofs.TouchedAlone.{none_planned}
use Rattle.touched_rows.proofs.WantedLinks.{SparesWanted, open_no_more, some_spare, values_no_more, wanted_link_kept, wanted_rights_kept}

-- only these rows of searches are left, and other variables are led to as before
module _ (w : Gateway) (settled : IsSettled w) (order : HasCidsApart w) (left : List RememberedSearch) (names : List (List ℕ))
    (less : (name : List ℕ) → is_among names name ≡ false → list_any (leads_to w.policy name) left ≡ list_any (leads_to w.policy name) w.searches) where
  abbrev x : Gateway
  x = record w { searches = left }

  -- other variables are wanted as before
  beside : IsBesideOthers w x (is_among names)
  beside = record {
    links = refl;
    minors = λ server. refl;
    asks = λ name none. refl;
    wanted = λ name none. ap (λ (t : Bool). list_any (is_on name) w.clients.channels || t) (less name none);
  }

  abbrev notices : List LinkNotice
  notices = link_notices_among names x

  abbrev after : Gateway
  after = links_told_among names x

  spares : SparesWanted x notices
  spares = some_spare x order.apart (is_link_among names)

  clients_same : after.clients ≡ w.clients
  clients_same = ap (λ (v : Gateway). v.clients) (links_told_shape notices x)

  -- the variable of a channel is wanted
  wanted_there : (session sid : ℕ) (c : Channel) → channel_of w session sid ≡ Some c → is_wanted x c.real ≡ true
  wanted_there session sid c is = ap (λ (t : Bool). t || list_any (leads_to w.policy c.real) left) (found_is_on (is_channel session sid) w.clients.channels c is)

  read_left : (read : WaitingRead) → read_notice x read ≡ None → read_notice after read ≡ None
  read_left read none =
      ap (λ (rows : ClientRows). notice_on after read (find (is_channel read.session read.sid) rows.channels)) clients_same
      ∙ by (channel_of w read.session read.sid) refl none
    where
      by : (found : Option Channel) → channel_of w read.session read.sid ≡ found → notice_on x read found ≡ None → notice_on after read found ≡ None
      by None is none = refl
      by (Some c) is none =
          let there = wanted_there read.session read.sid c is in
          read_on-stays x after (values_no_more notices x) c (wanted_rights_kept x notices spares c there) (wanted_link_kept x notices spares c.real there) read none

  reads_quiet : read_notices after ≡ []
  reads_quiet =
      ap (λ (rows : ClientRows). filter_map (read_notice after) rows.reads) clients_same
      ∙ none_planned (read_notice after) w.clients.reads
      (All-weaker (λ (read : WaitingRead). read_notice x read ≡ None) (λ (read : WaitingRead). read_notice after read ≡ None) read_left w.clients.reads
      (none_told (read_notice w) w.clients.reads settled.reads))

  update_left : (sub : ClientSub) → update_notice x sub ≡ None → update_notice after sub ≡ None
  update_left sub none =
      update_if_open x after sub (open_no_more notices x sub.session)
      (λ unsaid. ap (λ (rows : ClientRows). update_on after sub (find (is_channel sub.session sub.sid) rows.channels)) clients_same
      ∙ by (channel_of w sub.session sub.sid) refl unsaid)
      none
    where
      by : (found : Option Channel) → channel_of w sub.session sub.sid ≡ found → update_on x sub found ≡ None → update_on after sub found ≡ None
      by None is none = refl
      by (Some c) is none =
          let there = wanted_there sub.session sub.sid c is in
          update_on-stays x after (values_no_more notices x) c (wanted_rights_kept x notices spares c there) (wanted_link_kept x notices spares c.real there) sub none

  updates_quiet : update_notices after ≡ []
  unfolding update_notice
  updates_quiet =
      ap (λ (rows : ClientRows). filter_map (update_notice after) rows.subs) clients_same
      ∙ none_planned (update_notice after) w.clients.subs
      (All-weaker (λ (sub : ClientSub). update_notice x sub ≡ None) (λ (sub : ClientSub). update_notice after sub ≡ None) update_left w.clients.subs
      (none_told (update_notice w) w.clients.subs settled.updates))

  pub told_after_forgetting : consequences x ≡ links_told_among names x
  told_after_forgetting =
      from_links x settled.channels settled.held_back
      ∙ ap (λ (plan : List LinkNotice). updates_told (reads_told (fold link_told x plan))) (links_touched w x (is_among names) beside settled)
      ∙ ap updates_told (reads_stay after reads_quiet)
      ∙ updates_stay after updates_quiet

-- all are forgotten
pub told_after_sweep : (w : Gateway) → IsSettled w → HasCidsApart w → consequences (swept w) ≡ links_told_among (search_names w.policy w.searches) (swept w)
told_after_sweep w settled order =
    told_after_forgetting w settled order [] (search_names w.policy w.searches) (λ name none. sym (searched_is_among w.policy name w.searches ∙ none))
