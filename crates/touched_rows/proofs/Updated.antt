-- An update that counts is told to the readers of its variable alone.
use Rattle.std.proofs.Common.{◌≡◌, ℕ, List, ◌++◌, Bool, true, false, cond, eqb, ◌&&◌, Option, Some, None, refl, sym, ap, subst, ◌∙◌}
use Rattle.std.specs.Prelude.{bytes_eq, filter, filter_map, flat_map, map}
use Rattle.std.specs.List.{find, fold}
use Rattle.std.proofs.lemmas.Bool.{eqb-true, true≢false}
use Rattle.std.proofs.lemmas.List.Elements.{All-map, All-weaker}
use Rattle.std.proofs.lemmas.Slice.Eq.{bytes_eq-Decides}
use Rattle.ca_message.specs.declared.codes.TheConstants.{ECA_NORDACCESS}
use Rattle.named_rows.specs.declared.channels.Channel.{Channel}
use Rattle.named_rows.specs.declared.reads.WaitingRead.{WaitingRead}
use Rattle.named_rows.specs.declared.subs.ClientSub.{ClientSub}
use Rattle.named_rows.specs.Subs.{with_owed}
use Rattle.link_table.specs.declared.links.LinkRow.{LinkRow}
use Rattle.link_table.specs.declared.links.LinkState.{LinkState}
use Rattle.link_table.specs.declared.links.LinkState.TheVariants.{Creating, Connected, Unusable}
use Rattle.link_table.specs.Links.{has_subscription, is_named}
use Rattle.mask_merge.specs.declared.want.Ask.{Ask}
use Rattle.gateway_state.specs.declared.cached.LastMessage.{LastMessage}
use Rattle.gateway_state.specs.declared.connections.Connection.{Connection}
use Rattle.gateway_state.specs.declared.notice.ReadNotice.{ReadNotice}
use Rattle.gateway_state.specs.declared.notice.ReadNotice.TheVariants.{Refused}
use Rattle.gateway_state.specs.declared.notice.UpdateNotice.{UpdateNotice}
use Rattle.gateway_state.specs.Answer.{cached_as}
use Rattle.gateway_state.specs.CachedRows.{is_cached_of}
use Rattle.gateway_state.specs.Gateway.{Gateway}
use Rattle.gateway_state.specs.Interest.{is_reader, reader_ask, readers}
use Rattle.gateway_state.specs.Notices.{answered_by, answered_over, link_notices, notice_on, read_notice, read_told, reads_told}
use Rattle.gateway_state.specs.Rights.{channel_of, may_read, rights_of}
use Rattle.gateway_state.specs.Servers.{concerned_owed, waits_for}
use Rattle.gateway_state.specs.Settled.{AreNumbersApart, HasSubsApart, IsSettled}
use Rattle.gateway_state.specs.Step.{consequences}
use Rattle.gateway_state.specs.Updates.{concerned, is_open_to, is_sub_to, update_by, update_notice, update_notices, update_on, update_over, update_told, updates_told}
use Rattle.named_rows.specs.Channels.{is_channel_on}
use Rattle.gateway_state.specs.Variables.{connected_in, connected_over, link_of}
use Rattle.gateway_state.proofs.LinkNotices.{link_notices_alike}
use Rattle.gateway_state.proofs.SettledMeaning.{none_told}
use Rattle.gateway_state.proofs.SettledWithheld.{owing_changed, with_subs}
use Rattle.touched_rows.specs.Touched.{owed_where, reads_told_on, update_notices_on, updates_told_on}
use Rattle.touched_rows.proofs.LessGiven.{GivesNoMore, update_stays}
use Rattle.touched_rows.proofs.Numbered.{same_number}
use Rattle.touched_rows.proofs.Owing.{none_withheld, owing_each, asks_alike}
use Rattle.touched_rows.proofs.Passes.{from_reads}
use Rattle.touched_rows.proofs.Shapes.{reads_told_shape, with_reads}
use Rattle.touched_rows.proofs.Tellings.{less_reads_told}
use Rattle.touched_rows.proofs.TouchedAlone.{found_passes, touched_alone}

-- ---- the state after the update came

-- with what is held changed
abbrev with_cache : (List LastMessage → List LastMessage) → Gateway → Gateway
with_cache change w = record w { cache = change w.cache }

module _ (w : Gateway) (test : ClientSub → Bool) (change : List LastMessage → List LastMessage) (cid : ℕ)
    (others : (other : ℕ) → eqb other cid ≡ false → find (is_cached_of other) (change w.cache) ≡ find (is_cached_of other) w.cache) where
  -- and some subscriptions owed an update
  abbrev x : Gateway
  x = record w { cache = change w.cache; clients = record w.clients { subs = map (owed_where test) w.clients.subs } }

  asks_same : (name : List ℕ) → readers x name ≡ readers w name
  asks_same name =
      ap (λ (asks : List Ask). asks ++ map reader_ask (filter (is_reader w name) w.clients.channels)) (asks_alike w name test w.clients.subs)

  links_same : link_notices x ≡ link_notices w
  links_same = λ i. flat_map (λ link. link_notices_alike x w asks_same (λ server. refl) (λ name. refl) link i) w.upstream.links

  -- what is read over a link of which what is held stays
  abbrev IsBeside : Option LinkRow → Type 0
  IsBeside None = Unit {0}
  IsBeside (Some link) = eqb link.cid cid ≡ false

  answered_beside : (read : WaitingRead) (link : Option LinkRow) → IsBeside link → answered_over x read (connected_over link) ≡ answered_over w read (connected_over link)
  answered_beside read None beside = refl
  answered_beside read (Some link) beside = by link.state
    where
      by : (state : LinkState) → answered_over x read (connected_in link state) ≡ answered_over w read (connected_in link state)
      by Creating = refl
      by Unusable = refl
      by (Connected sid dtype count) =
          ap (λ (found : Option LastMessage). answered_by read (cached_as count read.dtype read.count found)) (others link.cid beside)

  updated_beside : (sub : ClientSub) (link : Option LinkRow) → IsBeside link → update_over x sub (connected_over link) ≡ update_over w sub (connected_over link)
  updated_beside sub None beside = refl
  updated_beside sub (Some link) beside = by link.state
    where
      by : (state : LinkState) → update_over x sub (connected_in link state) ≡ update_over w sub (connected_in link state)
      by Creating = refl
      by Unusable = refl
      by (Connected sid dtype count) =
          ap (λ (found : Option LastMessage). update_by sub (cached_as count sub.dtype sub.count found)) (others link.cid beside)

-- ---- the update

module _ (w : Gateway) (settled : IsSettled w) (order : AreNumbersApart w) (apart : HasSubsApart w) (server id : ℕ) (link : LinkRow)
    (found : find (has_subscription server id) w.upstream.links ≡ Some link) (change : List LastMessage → List LastMessage)
    (others : (other : ℕ) → eqb other link.cid ≡ false → find (is_cached_of other) (change w.cache) ≡ find (is_cached_of other) w.cache) (passes : ClientSub → Bool) where
  abbrev test : ClientSub → Bool
  test sub = is_sub_to w link.name sub && passes sub

  abbrev y : Gateway
  y = x w test change link.cid others

  -- of links of other names what is held stays
  beside : (name : List ℕ) → bytes_eq name link.name ≡ false → IsBeside w test change link.cid others (link_of w name)
  beside name other = by (link_of w name) refl
    where
      by : (over : Option LinkRow) → link_of w name ≡ over → IsBeside w test change link.cid others over
      by None is = tt
      by (Some l) is = elim (eqb l.cid link.cid) as (λ t. eqb l.cid link.cid ≡ t → t ≡ false) [
        | true ↦ λ same.
            let one : l ≡ link = same_number (is_named name) (has_subscription server id) w.upstream.links l link order.links.apart is found (eqb-true l.cid link.cid same) in
            let named : l.name ≡ name = (bytes_eq-Decides l.name name).0 (found_passes (is_named name) w.upstream.links l is) in
            absurd (true≢false (sym ((bytes_eq-Decides name link.name).1 (sym named ∙ ap (λ (k : LinkRow). k.name) one)) ∙ other))
        | false ↦ λ same. refl
      ] refl

  read_beside : (read : WaitingRead) → waits_for w link.name read ≡ false → read_notice w read ≡ None → read_notice y read ≡ None
  read_beside read other none = by (channel_of w read.session read.sid) other none
    where
      by : (on : Option Channel) → is_channel_on link.name on ≡ false → notice_on w read on ≡ None → notice_on y read on ≡ None
      by None other none = refl
      by (Some c) other none =
          ap (λ (answer : Option ReadNotice). cond (may_read (rights_of w c)) answer (Some (Refused read ECA_NORDACCESS)))
          (answered_beside w test change link.cid others read (link_of w c.real) (beside c.real other))
          ∙ none

  update_beside : (sub : ClientSub) → is_sub_to w link.name sub ≡ false → update_notice w sub ≡ None → update_notice y sub ≡ None
  unfolding update_notice
  update_beside sub other none =
      ap (λ (said : Option UpdateNotice). cond (sub.owed && is_open_to w sub) said None) (by (channel_of w sub.session sub.sid) other) ∙ none
    where
      by : (on : Option Channel) → is_channel_on link.name on ≡ false → update_on y sub on ≡ update_on w sub on
      by None other = refl
      by (Some c) other =
          ap (λ (said : Option UpdateNotice). cond (may_read (rights_of w c)) said None) (updated_beside w test change link.cid others sub (link_of w c.real) (beside c.real other))

  reads_alone : reads_told y ≡ reads_told_on link.name y
  reads_alone =
      ap (λ (notices : List ReadNotice). fold read_told y notices)
      (touched_alone (read_notice y) (waits_for w link.name) w.clients.reads
      (All-weaker (λ (read : WaitingRead). read_notice w read ≡ None) (λ (read : WaitingRead). waits_for w link.name read ≡ false → read_notice y read ≡ None)
      (λ read none other. read_beside read other none) w.clients.reads (none_told (read_notice w) w.clients.reads settled.reads)))

  -- once the reads are told
  module _ (connections : List Connection) (reads : List WaitingRead) (less : GivesNoMore y (with_reads y connections reads)) where
    abbrev z : Gateway
    z = with_reads y connections reads

    owed_beside : (sub : ClientSub) → update_notice w sub ≡ None → is_sub_to w link.name (owed_where test sub) ≡ false → update_notice z (owed_where test sub) ≡ None
    owed_beside sub none other = by (is_sub_to w link.name sub) (passes sub) refl refl other
      where
        by : (to concerns : Bool) → is_sub_to w link.name sub ≡ to → passes sub ≡ concerns → is_sub_to w link.name (cond (to && concerns) (with_owed true sub) sub) ≡ false
            → update_notice z (cond (to && concerns) (with_owed true sub) sub) ≡ None
        by false concerns is is_so other = update_stays y z less sub (update_beside sub is none)
        by true true is is_so other = absurd (true≢false (sym is ∙ other))
        by true false is is_so other = absurd (true≢false (sym is ∙ other))

    updates_alone : update_notices z ≡ update_notices_on link.name z
    updates_alone =
        touched_alone (update_notice z) (is_sub_to w link.name) (map (owed_where test) w.clients.subs)
        (All-map (λ (sub : ClientSub). is_sub_to w link.name sub ≡ false → update_notice z sub ≡ None) (owed_where test) w.clients.subs
        (All-weaker (λ (sub : ClientSub). update_notice w sub ≡ None)
        (λ (sub : ClientSub). is_sub_to w link.name (owed_where test sub) ≡ false → update_notice z (owed_where test sub) ≡ None) owed_beside
        w.clients.subs (none_told (update_notice w) w.clients.subs settled.updates)))

  updates_after : updates_told (reads_told_on link.name y) ≡ updates_told_on link.name (reads_told_on link.name y)
  updates_after =
      let z : Gateway = reads_told_on link.name y in
      let notices : List ReadNotice = filter_map (read_notice y) (filter (waits_for w link.name) w.clients.reads) in
      let shape : z ≡ with_reads y z.connections z.clients.reads = reads_told_shape notices y in
      let less : GivesNoMore y (with_reads y z.connections z.clients.reads) = subst (λ (v : Gateway). GivesNoMore y v) shape (less_reads_told notices y) in
      let same : update_notices z ≡ update_notices_on link.name z =
      subst (λ (v : Gateway). update_notices v ≡ update_notices_on link.name v) (sym shape) (updates_alone z.connections z.clients.reads less) in
      ap (λ (plan : List UpdateNotice). fold update_told z plan) same

  told_alone : consequences y ≡ updates_told_on link.name (reads_told_on link.name y)
  told_alone =
      from_reads y settled.channels (none_withheld w test w.clients.subs settled.held_back) (links_same w test change link.cid others ∙ settled.links) ∙ ap updates_told reads_alone ∙ updates_after

  -- such is the state that an update makes
  made : with_cache change (concerned_owed link.name passes w) ≡ y
  made =
      ap (with_cache change) (owing_changed (concerned w link.name passes) w)
      ∙ ap (λ (subs : List ClientSub). with_cache change (with_subs w subs)) (owing_each test w.clients.subs apart)

  pub told_after_update : consequences (with_cache change (concerned_owed link.name passes w))
      ≡ updates_told_on link.name (reads_told_on link.name (with_cache change (concerned_owed link.name passes w)))
  told_after_update =
      subst (λ (v : Gateway). consequences v ≡ updates_told_on link.name (reads_told_on link.name v)) (sym made) told_alone
