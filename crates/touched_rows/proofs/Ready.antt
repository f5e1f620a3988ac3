-- Clients know their rights wherever something is told alone.
use Rattle.std.proofs.Common.{◌≡◌, ℕ, List, [], ◌∷◌, Bool, true, false, cond, ◌||◌, Option, Some, None, refl, sym, ap, subst, ◌∙◌}
use Rattle.std.specs.List.{All, fold, list_all, list_any}
use Rattle.std.proofs.lemmas.List.Elements.{All-cons, All-head, All-nil, All-tail}
use Rattle.std.proofs.lemmas.Slice.Eq.{bytes_eq-Decides}
use Rattle.ca_message.specs.declared.to_client.ToClient.TheVariants as replies
use Rattle.named_rows.specs.declared.channels.Channel.{Channel}
use Rattle.link_table.specs.declared.links.LinkRow.{LinkRow}
use Rattle.gateway_state.specs.declared.event.Event.{Event}
use Rattle.gateway_state.specs.declared.notice.LinkNotice.{LinkNotice}
use Rattle.gateway_state.specs.declared.notice.ReadNotice.{ReadNotice}
use Rattle.gateway_state.specs.declared.notice.UpdateNotice.{UpdateNotice}
use Rattle.gateway_state.specs.Direct.{direct_effect}
use Rattle.gateway_state.specs.Gateway.{Gateway}
use Rattle.gateway_state.specs.Notices.{link_told, read_notice, read_told}
use Rattle.gateway_state.specs.Reached.{IsReached}
use Rattle.gateway_state.specs.Rights.{rights_of}
use Rattle.gateway_state.specs.Searches.{leads_to}
use Rattle.gateway_state.specs.Settled.{AreNumbersApart, HasLinksApart, HasSubsApart}
use Rattle.gateway_state.specs.Step.{step}
use Rattle.gateway_state.specs.Telling.{sent, told}
use Rattle.gateway_state.specs.Told.{KnowRights, KnowsRights}
use Rattle.gateway_state.specs.Updates.{takes_updates, owed_to_all, update_notice, update_told, with_owed_of}
use Rattle.named_rows.specs.Channels.{is_on}
use Rattle.gateway_state.specs.Variables.{is_wanted, link_of}
use Rattle.gateway_state.proofs.NumbersKept.{numbers_after_effect}
use Rattle.gateway_state.proofs.ReachedStates.{reached_step}
use Rattle.gateway_state.proofs.ToldRights.{reached_told}
use Rattle.touched_rows.specs.declared.touched.Touched.{Touched}
use Rattle.touched_rows.specs.declared.touched.Touched.TheVariants.{All as Everything, Gone, Nothing, Session, Variable, Value, Interest, Link as LinkOf, Links, Read, Subscription as SubscriptionTo}
use Rattle.touched_rows.specs.Touched.{channel_notices_on, channels_told_on, interest_notices_over, interest_told, is_link_among, link_notices_among, link_notices_over, link_told_on, one_read_told, one_update_told, read_notices_on, read_told_if, reads_told_on, update_notices_on, update_notices_to, update_told_if, updates_told_on, updates_withheld_on, withheld_on}
use Rattle.touched_rows.specs.Touches.{AreReadyForValue, IsReady, event_touches, consequences_of}
use Rattle.touched_rows.proofs.Owing.{apart_before_owed}
use Rattle.touched_rows.proofs.Shapes.{links_told_shape, reads_told_shape}
use Rattle.touched_rows.proofs.Tellings.{interest_keeps, keeps_links, less_links_told, less_reads_told, less_update_told}
use Rattle.touched_rows.proofs.Tidy.{reached_tidy}
use Rattle.touched_rows.proofs.ToldAlone.{step_alone}
use Rattle.touched_rows.proofs.WantedLinks.{SparesWanted, one_spares, some_spare, wanted_rights_kept}
use Rattle.named_rows.specs.declared.subs.ClientSub.{ClientSub}
use Rattle.gateway_state.proofs.SettledWithheld.{owing_changed}
use Rattle.gateway_state.proofs.Kept.{kept_owed_to_all}
use Rattle.gateway_state.proofs.KeptByRuns.{kept_channels, kept_direct_effect}
use Rattle.gateway_state.proofs.NumbersApart.{numbers_apart_kept}
use Rattle.gateway_state.proofs.LinksApart.{links_apart_kept, links_apart_with_links}
use Rattle.gateway_state.proofs.SubsApart.{subs_apart_kept, subs_apart_with_links}

-- ---- the same channels, with the same rights

record AreAlike (w x : Gateway) : Type 0 where
  channels : x.clients.channels ≡ w.clients.channels
  rights : (c : Channel) → rights_of x c ≡ rights_of w c

alike_after : (w x y : Gateway) → AreAlike w x → AreAlike x y → AreAlike w y
alike_after w x y first second = record { channels = second.channels ∙ first.channels; rights = λ c. second.rights c ∙ first.rights c }

-- what each has, by rights that are the same
each_told : (w x : Gateway) (channels : List Channel) → ((c : Channel) → rights_of x c ≡ rights_of w c) → All (KnowsRights w) channels → All (KnowsRights x) channels
each_told w x [] same told = All-nil (KnowsRights x)
each_told w x (c ∷ channels) same told =
    All-cons (KnowsRights x) c channels (All-head (KnowsRights w) c channels told ∙ sym (same c)) (each_told w x channels same (All-tail (KnowsRights w) c channels told))

told_on : (w x : Gateway) → AreAlike w x → KnowRights w → KnowRights x
told_on w x alike told =
    subst (λ (channels : List Channel). All (KnowsRights x) channels) (sym alike.channels) (each_told w x w.clients.channels alike.rights told)

told_back : (w x : Gateway) → AreAlike w x → KnowRights x → KnowRights w
told_back w x alike told =
    told_on x w (record { channels = sym alike.channels; rights = λ c. sym (alike.rights c) }) told

-- ---- tellings

alike_reads : (notices : List ReadNotice) (w : Gateway) → AreAlike w (fold read_told w notices)
alike_reads notices w = record { channels = ap (λ (v : Gateway). v.clients.channels) (reads_told_shape notices w); rights = (less_reads_told notices w).rights }

alike_one_read : (w : Gateway) (notice : ReadNotice) → AreAlike w (read_told w notice)
alike_one_read w notice = alike_reads (notice ∷ []) w

alike_update : (w : Gateway) (notice : UpdateNotice) → AreAlike w (update_told w notice)
unfolding sent
alike_update w notice = record {
  channels =
      elim (takes_updates w notice.session)
      as (λ t. (cond t (told notice.session (replies.Update notice.id notice.dtype notice.count notice.payload) (with_owed_of notice.session notice.id false w)) w).clients.channels ≡ w.clients.channels)
      [ true ↦ refl | false ↦ refl ];
  rights = (less_update_told w notice).rights;
}

alike_updates : (notices : List UpdateNotice) (w : Gateway) → AreAlike w (fold update_told w notices)
alike_updates [] w = record { channels = refl; rights = λ c. refl }
alike_updates (notice ∷ notices) w =
    alike_after w (update_told w notice) (fold update_told (update_told w notice) notices) (alike_update w notice) (alike_updates notices (update_told w notice))

interest_kept : (w : Gateway) (link : Option LinkRow) → list_all keeps_links (interest_notices_over w link) ≡ true
interest_kept w None = refl
interest_kept w (Some link) = interest_keeps w link link.state

alike_interest : (name : List ℕ) (w : Gateway) → AreAlike w (interest_told name w)
alike_interest name w =
    let notices : List LinkNotice = interest_notices_over w (link_of w name) in
    record {
      channels = ap (λ (v : Gateway). v.clients.channels) (links_told_shape notices w);
      rights = (less_links_told notices w (interest_kept w (link_of w name))).rights;
    }

-- ---- tellings that may drop links

-- rights on variables that are wanted stay
module _ (x : Gateway) (notices : List LinkNotice) (spares : SparesWanted x notices) where
  abbrev after : Gateway
  after = fold link_told x notices

  abbrev AreWanted : List Channel → Type 0
  AreWanted channels = (name : List ℕ) → list_any (is_on name) channels ≡ true → is_wanted x name ≡ true

  each_kept : (channels : List Channel) → AreWanted channels → All (λ (c : Channel). rights_of after c ≡ rights_of x c) channels
  each_kept [] wanted = All-nil (λ (c : Channel). rights_of after c ≡ rights_of x c)
  each_kept (c ∷ channels) wanted =
      let here : is_wanted x c.real ≡ true = wanted c.real (ap (λ (t : Bool). t || list_any (is_on c.real) channels) ((bytes_eq-Decides c.real c.real).1 refl)) in
      let others : AreWanted channels = λ name there. wanted name (elim (is_on name c) as (λ t. (t || list_any (is_on name) channels) ≡ true) [ true ↦ refl | false ↦ there ]) in
      All-cons (λ (row : Channel). rights_of after row ≡ rights_of x row) c channels (wanted_rights_kept x notices spares c here) (each_kept channels others)

  rights_kept : All (λ (c : Channel). rights_of after c ≡ rights_of x c) x.clients.channels
  rights_kept = each_kept x.clients.channels (λ name there. ap (λ (t : Bool). t || list_any (leads_to x.policy name) x.searches) there)

  same_channels : after.clients.channels ≡ x.clients.channels
  same_channels = ap (λ (v : Gateway). v.clients.channels) (links_told_shape notices x)

  links_back : KnowRights after → KnowRights x
  links_back told k d within = subst (λ (channels : List Channel). All (KnowsRights after) channels) same_channels told k d within ∙ rights_kept k d within

  links_on : KnowRights x → KnowRights after
  links_on told = subst (λ (channels : List Channel). All (KnowsRights after) channels) (sym same_channels) (λ k d within. told k d within ∙ sym (rights_kept k d within))

-- ---- what is told rests on what was told before

alike_read_if : (found : Option ReadNotice) (w : Gateway) → AreAlike w (read_told_if found w)
alike_read_if None w = record { channels = refl; rights = λ c. refl }
alike_read_if (Some notice) w = alike_one_read w notice

alike_update_if : (found : Option UpdateNotice) (w : Gateway) → AreAlike w (update_told_if found w)
alike_update_if None w = record { channels = refl; rights = λ c. refl }
alike_update_if (Some notice) w = alike_update w notice

alike_held : (subs : List ClientSub) (w : Gateway) → AreAlike w (owed_to_all w subs)
alike_held subs w = record {
  channels = ap (λ (v : Gateway). v.clients.channels) (owing_changed subs w);
  rights = λ c. ap (λ (v : Gateway). rights_of v c) (owing_changed subs w);
}

-- numbers tell rows apart where a variable's link is told
pub order_before_link : (name : List ℕ) (x : Gateway) → AreNumbersApart x → AreNumbersApart (updates_withheld_on name (channels_told_on name x))
order_before_link name x order =
    let told : Gateway = channels_told_on name x in
    kept_owed_to_all AreNumbersApart numbers_apart_kept.rows (withheld_on name told) told (kept_channels AreNumbersApart numbers_apart_kept.rows (channel_notices_on name x) x order)

back : (touched : Touched) (x : Gateway) → AreNumbersApart x → HasLinksApart x → HasSubsApart x → KnowRights (consequences_of touched x) → IsReady touched x
back Everything x order apart subs told = record {}
back Nothing x order apart subs told = record {}
back (Session number) x order apart subs told = told_back x (consequences_of (Session number) x) (alike_updates (update_notices_to number x) x) told
back (Variable name) x order apart subs told =
    let first : Gateway = channels_told_on name x in
    let held : Gateway = updates_withheld_on name first in
    let linked : Gateway = link_told_on name held in
    let read : Gateway = reads_told_on name linked in
    let end : Gateway = updates_told_on name read in
    told_back first held (alike_held (withheld_on name first) first)
    (links_back held (link_notices_over held (link_of held name)) (one_spares held (order_before_link name x order).links.apart name)
    (told_back linked end (alike_after linked read end (alike_reads (read_notices_on name linked) linked) (alike_updates (update_notices_on name read) read)) told))
back (Value name concern) x order apart subs told =
    let read : Gateway = reads_told_on name x in
    record {
      told =
          told_back x (updates_told_on name read)
          (alike_after x read (updates_told_on name read) (alike_reads (read_notices_on name x) x) (alike_updates (update_notices_on name read) read)) told;
      apart = subs;
    }
back (Interest name) x order apart subs told = told_back x (interest_told name x) (alike_interest name x) told
back (LinkOf name) x order apart subs told =
    links_back x (link_notices_over x (link_of x name)) (one_spares x order.links.apart name) told
back (Links names) x order apart subs told = record {
  told = links_back x (link_notices_among names x) (some_spare x order.links.apart (is_link_among names)) told;
  apart = apart;
}
back (Gone names) x order apart subs told = record {}
back (Read name read) x order apart subs told =
    let v : Gateway = interest_told name x in
    told_back x (one_read_told read v) (alike_after x v (one_read_told read v) (alike_interest name x) (alike_read_if (read_notice v read) v)) told
back (SubscriptionTo name sub) x order apart subs told =
    let v : Gateway = interest_told name x in
    told_back x (one_update_told sub v) (alike_after x v (one_update_told sub v) (alike_interest name x) (alike_update_if (update_notice v sub) v)) told

-- no name has two links after an event's direct effect
apart_after_effect : (w : Gateway) (event : Event) → IsReached w → HasLinksApart (direct_effect w event)
apart_after_effect w event reached = kept_direct_effect HasLinksApart links_apart_kept links_apart_with_links w event (reached_tidy w reached).links_apart

-- nor has a session two subscriptions under one ID
subs_after_effect : (w : Gateway) (event : Event) → IsReached w → HasSubsApart (direct_effect w event)
subs_after_effect w event reached = kept_direct_effect HasSubsApart subs_apart_kept subs_apart_with_links w event (reached_tidy w reached).subs_apart

-- after an event's direct effect clients know their rights, where what follows rests on that
pub ready_after_effect : (w : Gateway) (event : Event) → IsReached w → IsReady (event_touches w event) (direct_effect w event)
ready_after_effect w event reached =
    back (event_touches w event) (direct_effect w event) (numbers_after_effect w event reached) (apart_after_effect w event reached)
    (subs_after_effect w event reached)
    (subst KnowRights (step_alone w event reached) (reached_told (step w event) (reached_step w event reached)))

-- the same of what it is said to touch and to leave
pub ready_as : (w : Gateway) (event : Event) → IsReached w → (touched : Touched) (x : Gateway) → touched ≡ event_touches w event → x ≡ direct_effect w event → IsReady touched x
ready_as w event reached touched x is leaves =
    subst (λ (t : Touched). IsReady t x) (sym is) (subst (λ (v : Gateway). IsReady (event_touches w event) v) (sym leaves) (ready_after_effect w event reached))

-- and between the passes over one variable
pub told_after_reads : (name : List ℕ) (x : Gateway) → KnowRights x → KnowRights (reads_told_on name x)
told_after_reads name x told = told_on x (reads_told_on name x) (alike_reads (read_notices_on name x) x) told

pub told_after_interest : (name : List ℕ) (x : Gateway) → KnowRights x → KnowRights (interest_told name x)
told_after_interest name x told = told_on x (interest_told name x) (alike_interest name x) told

pub told_after_owed : (subs : List ClientSub) (x : Gateway) → KnowRights x → KnowRights (owed_to_all x subs)
told_after_owed subs x told = told_on x (owed_to_all x subs) (alike_held subs x) told

pub told_after_withheld : (name : List ℕ) (x : Gateway) → KnowRights x → KnowRights (updates_withheld_on name x)
told_after_withheld name x told = told_after_owed (withheld_on name x) x told

pub told_after_link : (name : List ℕ) (x : Gateway) → AreNumbersApart x → KnowRights x → KnowRights (link_told_on name x)
told_after_link name x order told = links_on x (link_notices_over x (link_of x name)) (one_spares x order.links.apart name) told

-- what is told of a value rests on as much before those whom it concerns are owed it
pub ready_before_owed : (subs : List ClientSub) (x : Gateway) → AreReadyForValue (owed_to_all x subs) → AreReadyForValue x
ready_before_owed subs x ready = record {
  told = told_back x (owed_to_all x subs) (alike_held subs x) ready.told;
  apart = apart_before_owed x subs ready.apart;
}
