-- Every waiting write is on a channel that stands, for the server of its link.
use Rattle.std.proofs.Common.{◌≡◌, ℕ, ◌≤◌, List, [], ◌∷◌, ◌++◌, length, Bool, true, false, cond, eqb, not, ◌||◌, ◌&&◌, Option, Some, None, refl, sym, ap, ◌∙◌, arith}
use Rattle.std.specs.Prelude.{filter, is_some}
use Rattle.std.specs.List.{find, list_all}
use Rattle.std.specs.Option.{option_map}
use Rattle.std.proofs.lemmas.Bool.{and_parts, eqb-true, true≢false}
use Rattle.std.proofs.lemmas.List.Folds.{list_all-append}
use Rattle.std.proofs.lemmas.Slice.Eq.{bytes_eq-Decides}
use Rattle.rows.specs.Rows.{change_first}
use Rattle.named_rows.specs.declared.channels.Channel.{Channel}
use Rattle.named_rows.specs.declared.channels.Reach.{Reach}
use Rattle.named_rows.specs.Channels.{is_channel, is_not_channel, is_not_channel_of, with_reach_and_rights}
use Rattle.link_table.specs.declared.links.LinkRow.{LinkRow}
use Rattle.link_table.specs.declared.links.Subject.{Subject}
use Rattle.link_table.specs.declared.links.Subscription.{Subscription}
use Rattle.link_table.specs.declared.writes.WaitingWrite.{WaitingWrite}
use Rattle.link_table.specs.Links.{is_link, is_named, is_not_link, is_not_of, new_link, with_state, with_subscription}
use Rattle.link_table.specs.Writes.{is_not_write, is_not_write_of, is_not_write_on, is_not_write_to}
use Rattle.gateway_state.specs.declared.config.Config.{Config}
use Rattle.rule_desk.specs.declared.policy.Policy.{Policy}
use Rattle.gateway_state.specs.declared.event.Event.{Event}
use Rattle.gateway_state.specs.Gateway.{Gateway, initial}
use Rattle.gateway_state.specs.Rights.{channel_of, link_connected}
use Rattle.gateway_state.specs.Notices.{next_sub_id}
use Rattle.gateway_state.specs.Servers.{next_cid}
use Rattle.gateway_state.specs.Settled.{AreNumbersApart, HasLinksApart, HasSubsApart, HasWritesOnLinks, IsSettled, IsUpToDate, is_of_server, is_write_on_link, link_under}
use Rattle.gateway_state.specs.Step.{run, step}
use Rattle.gateway_state.specs.Variables.{is_linked, link_of}
use Rattle.gateway_state.proofs.NumbersApart.{initial_numbers_apart, numbers_apart_kept, numbers_apart_with_links}
use Rattle.gateway_state.proofs.Kept.{IsKept, messages_kept, new_channel, with_link}
use Rattle.gateway_state.proofs.KeptByRuns.{kept_step, kept_step_by}
use Rattle.gateway_state.proofs.KeptByServers.{kept_found}
use Rattle.gateway_state.proofs.LinksApart.{links_apart_kept, links_apart_with_links}
use Rattle.gateway_state.proofs.RowTests.{all_changed, all_filtered, all_left, all_weaker, found_passes}
use Rattle.gateway_state.proofs.SettledMeaning.{all_up_to_date}
use Rattle.gateway_state.proofs.SettledRuns.{run_settled, step_settled}
use Rattle.gateway_state.proofs.SubsApart.{subs_apart_kept, subs_apart_with_links}

-- THE VARIABLE OF A WRITE

abbrev real_of : Channel → List ℕ
real_of c = c.real

-- the variable that the session's channel is on
abbrev name_of : List Channel → ℕ → ℕ → Option (List ℕ)
name_of channels session sid = option_map real_of (find (is_channel session sid) channels)

-- one channel more leaves it
name_more : (session sid : ℕ) (channels others : List Channel) (name : List ℕ) → name_of channels session sid ≡ Some name → name_of (channels ++ others) session sid ≡ Some name
name_more session sid [] others name is = absurd cc
name_more session sid (c ∷ channels) others name is = by (is_channel session sid c) is (λ rest. name_more session sid channels others name rest)
  where
    by : (same : Bool) → option_map real_of (cond same (Some c) (find (is_channel session sid) channels)) ≡ Some name
        → (name_of channels session sid ≡ Some name → name_of (channels ++ others) session sid ≡ Some name)
        → option_map real_of (cond same (Some c) (find (is_channel session sid) (channels ++ others))) ≡ Some name
    by true e rest = e
    by false e rest = rest e

-- so does another reach of a channel
name_changed : (session sid s t : ℕ) (reach : Reach) (rights : ℕ) (channels : List Channel)
    → name_of (change_first (is_channel s t) (with_reach_and_rights reach rights) channels) session sid ≡ name_of channels session sid
name_changed session sid s t reach rights [] = refl
name_changed session sid s t reach rights (c ∷ channels) =
    let changed : List Channel = change_first (is_channel s t) (with_reach_and_rights reach rights) channels in
    elim (is_channel s t c) as (λ b. name_of (cond b (with_reach_and_rights reach rights c ∷ channels) (c ∷ changed)) session sid ≡ name_of (c ∷ channels) session sid) [
      | true ↦
          elim (is_channel session sid c) as (λ b. option_map real_of (cond b (Some (with_reach_and_rights reach rights c)) (find (is_channel session sid) channels)) ≡ option_map real_of (cond b (Some c) (find (is_channel session sid) channels)))
          [ true ↦ refl | false ↦ refl ]
      | false ↦
          elim (is_channel session sid c) as (λ b. option_map real_of (cond b (Some c) (find (is_channel session sid) changed)) ≡ option_map real_of (cond b (Some c) (find (is_channel session sid) channels)))
          [ true ↦ refl | false ↦ name_changed session sid s t reach rights channels ]
    ]

-- and others that go
name_left : (session sid : ℕ) (stays : Channel → Bool) (channels : List Channel) → ((c : Channel) → is_channel session sid c ≡ true → stays c ≡ true)
    → name_of (filter stays channels) session sid ≡ name_of channels session sid
name_left session sid stays [] both = refl
name_left session sid stays (c ∷ channels) both = by (is_channel session sid c) (stays c) refl refl (name_left session sid stays channels both)
  where
    by : (same kept : Bool) → is_channel session sid c ≡ same → stays c ≡ kept → name_of (filter stays channels) session sid ≡ name_of channels session sid
        → name_of (cond kept (c ∷ filter stays channels) (filter stays channels)) session sid ≡ option_map real_of (cond same (Some c) (find (is_channel session sid) channels))
    by true true is is_kept rest = rw is refl
    by true false is is_kept rest = absurd (true≢false (sym (both c is) ∙ is_kept))
    by false true is is_kept rest = rw is rest
    by false false is is_kept rest = rest

-- THE LINKS OF A WRITE

-- a link for the name is of this server
abbrev is_right : ℕ → List ℕ → LinkRow → Bool
is_right server name link = not (is_named name link) || eqb link.server server

abbrev fits_name : List LinkRow → ℕ → Option (List ℕ) → Bool
fits_name links server None = false
fits_name links server (Some name) = list_all (is_right server name) links

-- the write's channel stands, and no link for its variable is of another server
abbrev fits : List Channel → List LinkRow → WaitingWrite → Bool
fits channels links write = fits_name links write.server (name_of channels write.session write.sid)

-- what `HasWritesOnLinks` says while links go before their channels do
record HasWritesFit (w : Gateway) : Type 0 where
  apart : HasLinksApart w
  fit : list_all (fits w.clients.channels w.upstream.links) w.upstream.writes ≡ true

fits_name_kept : (links : List LinkRow) (server : ℕ) (before after : Option (List ℕ)) → ((name : List ℕ) → before ≡ Some name → after ≡ Some name)
    → fits_name links server before ≡ true → fits_name links server after ≡ true
fits_name_kept links server None after same there = absurd (true≢false (sym there))
fits_name_kept links server (Some name) after same there = ap (fits_name links server) (same name refl) ∙ there

fits_links_kept : (links others : List LinkRow) (server : ℕ) (name : Option (List ℕ)) → ((name : List ℕ) → list_all (is_right server name) links ≡ true → list_all (is_right server name) others ≡ true)
    → fits_name links server name ≡ true → fits_name others server name ≡ true
fits_links_kept links others server None same there = there
fits_links_kept links others server (Some name) same there = same name there

-- where no link is for the name, none is of another server
none_named : (server : ℕ) (name : List ℕ) (links : List LinkRow) → length (filter (is_named name) links) ≤ 0 → list_all (is_right server name) links ≡ true
none_named server name [] none = refl
none_named server name (link ∷ links) none = by (is_named name link) none (λ rest. none_named server name links rest)
  where
    by : (named : Bool) → length (cond named (link ∷ filter (is_named name) links) (filter (is_named name) links)) ≤ 0 → (length (filter (is_named name) links) ≤ 0 → list_all (is_right server name) links ≡ true)
        → ((not named || eqb link.server server) && list_all (is_right server name) links) ≡ true
    by true many rest = absurd (omega (arith, many))
    by false none rest = rest none

-- the only link for a name decides of all
first_decides : (server : ℕ) (name : List ℕ) (links : List LinkRow) → length (filter (is_named name) links) ≤ 1 → is_of_server server (find (is_named name) links) ≡ true
    → list_all (is_right server name) links ≡ true
first_decides server name [] most on = absurd (true≢false (sym on))
first_decides server name (link ∷ links) most on = by (is_named name link) most on (λ few rest. first_decides server name links few rest)
  where
    by : (named : Bool) → length (cond named (link ∷ filter (is_named name) links) (filter (is_named name) links)) ≤ 1
        → is_of_server server (cond named (Some link) (find (is_named name) links)) ≡ true
        → (length (filter (is_named name) links) ≤ 1 → is_of_server server (find (is_named name) links) ≡ true → list_all (is_right server name) links ≡ true)
        → ((not named || eqb link.server server) && list_all (is_right server name) links) ≡ true
    by true few is rest = rw is (none_named server name links (omega (arith, few)))
    by false few is rest = rest few is

-- and is of this server where all are
decided_first : (server : ℕ) (name : List ℕ) (links : List LinkRow) (link : LinkRow) → list_all (is_right server name) links ≡ true → find (is_named name) links ≡ Some link → eqb link.server server ≡ true
decided_first server name [] link right is = absurd cc
decided_first server name (first ∷ links) link right is = by (is_named name first) right is (λ rest found. decided_first server name links link rest found)
  where
    by : (named : Bool) → ((not named || eqb first.server server) && list_all (is_right server name) links) ≡ true → cond named (Some first) (find (is_named name) links) ≡ Some link
        → (list_all (is_right server name) links ≡ true → find (is_named name) links ≡ Some link → eqb link.server server ≡ true) → eqb link.server server ≡ true
    by true all found rest =
        let same : first ≡ link = cc in
        ap (λ (l : LinkRow). eqb l.server server) (sym same) ∙ (and_parts (eqb first.server server) (list_all (is_right server name) links) all).0
    by false all found rest = rest all found

-- EACH CHANGE

module _ (w : Gateway) where
  abbrev channels : List Channel
  channels = w.clients.channels

  abbrev links : List LinkRow
  links = w.upstream.links

  abbrev writes : List WaitingWrite
  writes = w.upstream.writes

  fit_more : (new : Channel) → list_all (fits channels links) writes ≡ true → list_all (fits (channels ++ new ∷ []) links) writes ≡ true
  fit_more new fit =
      all_weaker (fits channels links) (fits (channels ++ new ∷ []) links) writes
      (λ write there.
      fits_name_kept links write.server (name_of channels write.session write.sid) (name_of (channels ++ new ∷ []) write.session write.sid)
      (λ name is. name_more write.session write.sid channels (new ∷ []) name is) there) fit

  fit_changed : (session sid : ℕ) (reach : Reach) (rights : ℕ) → list_all (fits channels links) writes ≡ true
      → list_all (fits (change_first (is_channel session sid) (with_reach_and_rights reach rights) channels) links) writes ≡ true
  fit_changed session sid reach rights fit =
      all_weaker (fits channels links) (fits (change_first (is_channel session sid) (with_reach_and_rights reach rights) channels) links) writes
      (λ write there. ap (fits_name links write.server) (name_changed write.session write.sid session sid reach rights channels) ∙ there) fit

  fit_left : (stays : Channel → Bool) (kept : WaitingWrite → Bool)
      → ((write : WaitingWrite) (c : Channel) → kept write ≡ true → is_channel write.session write.sid c ≡ true → stays c ≡ true)
      → list_all (fits channels links) writes ≡ true → list_all (fits (filter stays channels) links) (filter kept writes) ≡ true
  fit_left stays kept both fit =
      all_left (fits channels links) (fits (filter stays channels) links) kept writes
      (λ write is there. ap (fits_name links write.server) (name_left write.session write.sid stays channels (λ c same. both write c is same)) ∙ there) fit

  fit_over : (others : List LinkRow) → ((server : ℕ) (name : List ℕ) → list_all (is_right server name) links ≡ true → list_all (is_right server name) others ≡ true)
      → list_all (fits channels links) writes ≡ true → list_all (fits channels others) writes ≡ true
  fit_over others same fit =
      all_weaker (fits channels links) (fits channels others) writes
      (λ write there. fits_links_kept links others write.server (name_of channels write.session write.sid) (same write.server) there) fit

  fit_subscribed : (subject : Subject) (server cid : ℕ) (sub : Option Subscription) → list_all (fits channels links) writes ≡ true
      → list_all (fits channels (change_first (is_link server cid) (with_subscription subject sub) links)) writes ≡ true
  fit_subscribed subject server cid sub fit =
      fit_over (change_first (is_link server cid) (with_subscription subject sub) links)
      (λ of name right. all_changed (is_right of name) (is_link server cid) (with_subscription subject sub) links (λ link. refl) ∙ right) fit

  -- a write that is accepted fits
  fits_new : (write : WaitingWrite) → HasLinksApart w → is_write_on_link w write ≡ true → fits channels links write ≡ true
  fits_new write apart on = by (channel_of w write.session write.sid) on
    where
      by : (found : Option Channel) → is_of_server write.server (link_under w found) ≡ true → fits_name links write.server (option_map real_of found) ≡ true
      by None is = absurd (true≢false (sym is))
      by (Some c) is = first_decides write.server c.real links (apart c.real) is

-- a channel on which a write waits that stays is another than the one that goes
other_channel : (write : WaitingWrite) (c : Channel) (session sid : ℕ) → is_not_write_on session sid write ≡ true → is_channel write.session write.sid c ≡ true → is_not_channel session sid c ≡ true
other_channel write c session sid kept same =
    let parts = and_parts (eqb c.session write.session) (eqb c.sid write.sid) same in
    let sessions = eqb-true c.session write.session parts.0 in
    let sids = eqb-true c.sid write.sid parts.1 in
    (λ i. not (eqb (sessions i) session && eqb (sids i) sid)) ∙ kept

other_session : (write : WaitingWrite) (c : Channel) (session : ℕ) → is_not_write_of session write ≡ true → is_channel write.session write.sid c ≡ true → is_not_channel_of session c ≡ true
other_session write c session kept same =
    let parts = and_parts (eqb c.session write.session) (eqb c.sid write.sid) same in
    ap (λ (number : ℕ). not (eqb number session)) (eqb-true c.session write.session parts.0) ∙ kept

writes_fit_kept : IsKept HasWritesFit
writes_fit_kept = record {
  rows = record {
    messages = messages_kept HasWritesFit (λ dest change w on. record { apart = on.apart; fit = on.fit });
    connection_added = λ dest w rowed on. record { apart = on.apart; fit = on.fit };
    session_added = λ row w there on. record { apart = on.apart; fit = on.fit };
    session_changed = λ number change w same on. record { apart = on.apart; fit = on.fit };
    server_added = λ row w on. record { apart = on.apart; fit = on.fit };
    server_changed = λ number minor w on. record { apart = on.apart; fit = on.fit };
    cache_left = λ stays w on. record { apart = on.apart; fit = on.fit };
    cached = λ server cid change w on. record { apart = on.apart; fit = on.fit };
    bare = λ cid w on. record { apart = on.apart; fit = on.fit };
    searches = λ rows w on. record { apart = on.apart; fit = on.fit };
    policy = λ policy w on. record { apart = on.apart; fit = on.fit };
    limits = λ limits w on. record { apart = on.apart; fit = on.fit };
    last_age = λ last w on. record { apart = on.apart; fit = on.fit };
    channel_added = λ session cid name real rights w fixed on. record { apart = on.apart; fit = fit_more w (new_channel session cid name real rights w) on.fit };
    channel_changed = λ session sid reach rights w on. record { apart = on.apart; fit = fit_changed w session sid reach rights on.fit };
    channel_removed = λ session sid w on. record {
      apart = on.apart;
      fit = fit_left w (is_not_channel session sid) (is_not_write_on session sid) (λ write c kept same. other_channel write c session sid kept same) on.fit;
    };
    sub_added = λ sub w free there on. record { apart = on.apart; fit = on.fit };
    sub_changed = λ session id owed w on. record { apart = on.apart; fit = on.fit };
    sub_removed = λ session id w on. record { apart = on.apart; fit = on.fit };
    read_added = λ read w there on. record { apart = on.apart; fit = on.fit };
    read_removed = λ read w on. record { apart = on.apart; fit = on.fit };
    write_added = λ write w there next on. record {
      apart = on.apart;
      fit = list_all-append (fits w.clients.channels w.upstream.links) w.upstream.writes (write ∷ []) ∙ rw (on.fit, fits_new w write on.apart there) refl;
    };
    write_removed = λ server id w on. record {
      apart = on.apart;
      fit = all_filtered (fits w.clients.channels w.upstream.links) (is_not_write server id) w.upstream.writes on.fit;
    };
    link_changed = λ server cid state rights w on. record {
      apart = links_apart_kept.rows.link_changed server cid state rights w on.apart;
      fit = fit_over w (change_first (is_link server cid) (with_state state rights) w.upstream.links)
          (λ of name right. all_changed (is_right of name) (is_link server cid) (with_state state rights) w.upstream.links (λ link. refl) ∙ right) on.fit;
    };
    subscription_made = λ subject server cid mask count sent w on. record {
      apart = links_apart_kept.rows.subscription_made subject server cid mask count sent w on.apart;
      fit = fit_subscribed w subject server cid (Some (record { id = next_sub_id w server; mask = mask; count = count; sent = sent })) on.fit;
    };
    subscription_ended = λ subject server cid w on. record {
      apart = links_apart_kept.rows.subscription_ended subject server cid w on.apart;
      fit = fit_subscribed w subject server cid None on.fit;
    };
    link_removed = λ server cid w on. record {
      apart = links_apart_kept.rows.link_removed server cid w on.apart;
      fit = fit_over w (filter (is_not_link server cid) w.upstream.links) (λ of name right. all_filtered (is_right of name) (is_not_link server cid) w.upstream.links right) on.fit;
    };
  };
  outbox_changed = λ dest change w on. record { apart = on.apart; fit = on.fit };
  session_removed = λ session w on. record {
    apart = on.apart;
    fit = fit_left w (is_not_channel_of session) (is_not_write_of session) (λ write c kept same. other_session write c session kept same) on.fit;
  };
  server_removed = λ server w on. record {
    apart = links_apart_kept.server_removed server w on.apart;
    fit = all_filtered (fits w.clients.channels (filter (is_not_of server) w.upstream.links)) (is_not_write_to server) w.upstream.writes
        (fit_over w (filter (is_not_of server) w.upstream.links) (λ of name right. all_filtered (is_right of name) (is_not_of server) w.upstream.links right) on.fit);
  };
}

-- AT REST

-- a channel's variable has a link where nobody is owed anything
linked_where : (w : Gateway) (c : Channel) (session sid : ℕ) → IsSettled w → channel_of w session sid ≡ Some c → is_linked w c.real ≡ true
linked_where w c session sid settled is =
    let up = found_passes (IsUpToDate w) (is_channel session sid) w.clients.channels c (all_up_to_date w settled) is in
    by (link_of w c.real) refl (and_parts _ (link_connected (link_of w c.real)) up.served).1
  where
    by : (link : Option LinkRow) → link_of w c.real ≡ link → link_connected link ≡ true → is_linked w c.real ≡ true
    by None e connected = absurd (true≢false (sym connected))
    by (Some link) e connected = ap is_some e

-- a link for a name that had none is for no variable of a channel
fits_found : (w : Gateway) (write : WaitingWrite) (new : LinkRow) → IsSettled w → is_linked w new.name ≡ false
    → fits w.clients.channels w.upstream.links write ≡ true → fits w.clients.channels (w.upstream.links ++ new ∷ []) write ≡ true
fits_found w write new settled missing there = by (channel_of w write.session write.sid) refl there
  where
    other : (c : Channel) → channel_of w write.session write.sid ≡ Some c → (named : Bool) → is_named c.real new ≡ named → (not named || eqb new.server write.server) ≡ true
    other c is true same =
        let name_is : new.name ≡ c.real = (bytes_eq-Decides new.name c.real).0 same in
        absurd (true≢false (sym (linked_where w c write.session write.sid settled is) ∙ ap (is_linked w) (sym name_is) ∙ missing))
    other c is false same = refl

    by : (found : Option Channel) → channel_of w write.session write.sid ≡ found → fits_name w.upstream.links write.server (option_map real_of found) ≡ true
        → fits_name (w.upstream.links ++ new ∷ []) write.server (option_map real_of found) ≡ true
    by None is fit = fit
    by (Some c) is fit =
        list_all-append (is_right write.server c.real) w.upstream.links (new ∷ [])
        ∙ rw (fit, other c is (is_named c.real new) refl) refl

fit_found : (w : Gateway) (server : ℕ) (name : List ℕ) → IsSettled w → is_linked w name ≡ false → list_all (fits w.clients.channels w.upstream.links) w.upstream.writes ≡ true
    → list_all (fits w.clients.channels (with_link server name w).upstream.links) w.upstream.writes ≡ true
fit_found w server name settled missing fit =
    let new : LinkRow = new_link server (next_cid w) name in
    all_weaker (fits w.clients.channels w.upstream.links) (fits w.clients.channels (w.upstream.links ++ new ∷ [])) w.upstream.writes
    (λ write there. fits_found w write new settled missing there) fit

step_fit : (w : Gateway) (event : Event) → IsSettled w → HasWritesFit w → HasWritesFit (step w event)
step_fit w event settled on =
    kept_step_by HasWritesFit writes_fit_kept w event
    (λ name server holds. kept_found HasWritesFit writes_fit_kept.rows.messages w name server
    (λ missing standing. record { apart = links_apart_with_links server name w missing standing holds.apart; fit = fit_found w server name settled missing holds.fit }) holds)
    on

run_fit_from : (w : Gateway) (events : List Event) → AreNumbersApart w → HasSubsApart w → IsSettled w → HasWritesFit w → HasWritesFit (run w events)
unfolding run
run_fit_from w [] order apart settled fit = fit
run_fit_from w (event ∷ events) order apart settled fit =
    run_fit_from (step w event) events (kept_step AreNumbersApart numbers_apart_kept numbers_apart_with_links w event order) (kept_step HasSubsApart subs_apart_kept subs_apart_with_links w event apart)
    (step_settled w event order apart) (step_fit w event settled fit)

on_link : (w : Gateway) (write : WaitingWrite) → IsSettled w → fits w.clients.channels w.upstream.links write ≡ true → is_write_on_link w write ≡ true
on_link w write settled there = by (channel_of w write.session write.sid) refl there
  where
    over : (c : Channel) (link : Option LinkRow) → link_of w c.real ≡ link → is_linked w c.real ≡ true → list_all (is_right write.server c.real) w.upstream.links ≡ true → is_of_server write.server link ≡ true
    over c None is linked right = absurd (true≢false (sym linked ∙ ap is_some is))
    over c (Some link) is linked right = decided_first write.server c.real w.upstream.links link right is

    by : (found : Option Channel) → channel_of w write.session write.sid ≡ found → fits_name w.upstream.links write.server (option_map real_of found) ≡ true
        → is_of_server write.server (link_under w found) ≡ true
    by None is fit = absurd (true≢false (sym fit))
    by (Some c) is fit = over c (link_of w c.real) refl (linked_where w c write.session write.sid settled is) fit

all_on_links : (w : Gateway) → IsSettled w → HasWritesFit w → HasWritesOnLinks w
all_on_links w settled on =
    all_weaker (fits w.clients.channels w.upstream.links) (is_write_on_link w) w.upstream.writes (λ write there. on_link w write settled there) on.fit

pub run_writes_on_links : (config : Config) (policy : Policy) (events : List Event) → HasWritesOnLinks (run (initial config policy) events)
run_writes_on_links config policy events =
    let settled : IsSettled (initial config policy) = record { channels = refl; held_back = refl; links = refl; reads = refl; updates = refl } in
    let fit : HasWritesFit (initial config policy) = record { apart = λ name. omega arith; fit = refl } in
    all_on_links (run (initial config policy) events) (run_settled config policy events)
    (run_fit_from (initial config policy) events (initial_numbers_apart config policy) (record {}) settled fit)
