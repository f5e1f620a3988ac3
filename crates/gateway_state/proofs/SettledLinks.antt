-- The pass over links leaves nothing that it would tell.
use Rattle.std.proofs.Common.{◌≡◌, ℕ, List, [], ◌∷◌, ◌++◌, Bool, true, false, cond, eqb, ◌||◌, Option, Some, None, refl, sym, ap, subst, ◌∙◌}
use Rattle.std.specs.Prelude.{filter, flat_map}
use Rattle.std.specs.List.{fold, find, list_any}
use Rattle.std.proofs.lemmas.Bool.{and_from, and_right, eq-eqb, both_ways, or_parts, true≢false}
use Rattle.std.proofs.lemmas.List.Folds.{list_any-append}
use Rattle.std.proofs.lemmas.List.Sums.{fold-append}
use Rattle.std.proofs.lemmas.Slice.Eq.{bytes_eq-Decides}
use Rattle.rows.specs.Rows.{change_first}
use Rattle.link_table.specs.declared.links.LinkRow.{LinkRow}
use Rattle.link_table.specs.declared.links.LinkState.{LinkState}
use Rattle.link_table.specs.declared.links.LinkState.TheVariants.{Creating, Connected, Unusable}
use Rattle.link_table.specs.declared.links.Subject.{Subject}
use Rattle.link_table.specs.declared.links.Subject.TheVariants.{Values, Properties}
use Rattle.link_table.specs.declared.links.Subscription.{Subscription}
use Rattle.link_table.specs.declared.links.Subscriptions.{Subscriptions}
use Rattle.link_table.specs.LinkRows.{Counters}
use Rattle.mask_merge.specs.declared.want.Want.{Want}
use Rattle.link_table.specs.Links.{is_link, is_named, is_not_link, sub_at, with_at, with_subscription}
use Rattle.gateway_state.specs.declared.cached.LastMessage.{LastMessage}
use Rattle.gateway_state.specs.declared.connections.Connection.{Connection}
use Rattle.gateway_state.specs.declared.notice.LinkNotice.{LinkNotice}
use Rattle.gateway_state.specs.declared.notice.LinkNotice.TheVariants.{Cancelled, Unread, Subscribed, Dropped}
use Rattle.gateway_state.specs.Gateway.{Gateway}
use Rattle.gateway_state.specs.Interest.{is_for, minor_of, sent_for, wanted_for}
use Rattle.gateway_state.specs.Notices.{cancelled, subscribed, interest_notices, notices_between, subject_notices, link_notices_of, link_notices, link_told, links_told, next_sub_id}
use Rattle.gateway_state.specs.Rights.{link_rights, link_connected}
use Rattle.gateway_state.specs.Settled.{AreUnlike, HasCidsApart, is_same_link}
use Rattle.gateway_state.specs.Telling.{sent}
use Rattle.gateway_state.specs.Variables.{is_wanted}
use Rattle.gateway_state.proofs.RowTests.{none_weaker}
use Rattle.gateway_state.proofs.UnlikeRows.{eqb_swapped, filter_absent}

-- links, and the IDs that new subscriptions get, whichever those are
record LinksAndIds : Type 0 where
  links : List LinkRow
  ids : List ℕ

abbrev next_of : List ℕ → ℕ
next_of [] = 0
next_of (id ∷ ids) = id

abbrev rest_of : List ℕ → List ℕ
rest_of [] = []
rest_of (id ∷ ids) = ids

abbrev dealt : List LinkRow → List ℕ → LinksAndIds
dealt links ids = record { links = links; ids = ids }

-- what a notice leaves of them
abbrev left_by : LinksAndIds → LinkNotice → LinksAndIds
left_by rows (Cancelled subject server cid sid dtype sub) =
    record rows { links = change_first (is_link server cid) (with_subscription subject None) rows.links }
left_by rows (Unread subject cid) = rows
left_by rows (Subscribed subject server cid sid dtype want sent) = record {
  links = change_first (is_link server cid) (with_subscription subject (Some (record { id = next_of rows.ids; mask = want.mask; count = want.count; sent = sent }))) rows.links;
  ids = rest_of rows.ids;
}
left_by rows (Dropped server cid state) = record rows { links = filter (is_not_link server cid) rows.links }

-- the IDs that are given out
abbrev id_given : Gateway → LinkNotice → List ℕ
id_given w (Cancelled subject server cid sid dtype sub) = []
id_given w (Unread subject cid) = []
id_given w (Subscribed subject server cid sid dtype want sent) = next_sub_id w server ∷ []
id_given w (Dropped server cid state) = []

abbrev ids_given : Gateway → List LinkNotice → List ℕ
ids_given w [] = []
ids_given w (notice ∷ notices) = id_given w notice ++ ids_given (link_told w notice) notices

-- notices leave these links
left_is : (notices : List LinkNotice) (w : Gateway)
    → (fold link_told w notices).upstream.links ≡ (fold left_by (dealt w.upstream.links (ids_given w notices)) notices).links
unfolding sent
left_is [] w = refl
left_is (Cancelled subject server cid sid dtype sub ∷ notices) w = left_is notices (link_told w (Cancelled subject server cid sid dtype sub))
left_is (Unread subject cid ∷ notices) w = left_is notices (link_told w (Unread subject cid))
left_is (Subscribed subject server cid sid dtype want sent ∷ notices) w = left_is notices (link_told w (Subscribed subject server cid sid dtype want sent))
left_is (Dropped server cid Creating ∷ notices) w = left_is notices (link_told w (Dropped server cid Creating))
left_is (Dropped server cid Unusable ∷ notices) w = left_is notices (link_told w (Dropped server cid Unusable))
left_is (Dropped server cid (Connected sid dtype native) ∷ notices) w = left_is notices (link_told w (Dropped server cid (Connected sid dtype native)))

-- a state with other links, other counters, and what goes with them
abbrev pub with_links_left : Gateway → List Connection → List LastMessage → List LinkRow → Counters → Gateway
with_links_left w connections cache links counters =
    record w { connections = connections; cache = cache; upstream = record w.upstream { links = links; counters = counters } }

abbrev after_notices : Gateway → List LinkNotice → Gateway
after_notices w notices =
    with_links_left w (fold link_told w notices).connections (fold link_told w notices).cache (fold link_told w notices).upstream.links (fold link_told w notices).upstream.counters

-- notices on links change nothing else
links_changed : (notices : List LinkNotice) (w : Gateway) → fold link_told w notices ≡ after_notices w notices
unfolding sent
links_changed [] w = refl
links_changed (Cancelled subject server cid sid dtype sub ∷ notices) w = links_changed notices (link_told w (Cancelled subject server cid sid dtype sub))
links_changed (Unread subject cid ∷ notices) w = links_changed notices (link_told w (Unread subject cid))
links_changed (Subscribed subject server cid sid dtype want sent ∷ notices) w =
    links_changed notices (link_told w (Subscribed subject server cid sid dtype want sent))
links_changed (Dropped server cid Creating ∷ notices) w = links_changed notices (link_told w (Dropped server cid Creating))
links_changed (Dropped server cid Unusable ∷ notices) w = links_changed notices (link_told w (Dropped server cid Unusable))
links_changed (Dropped server cid (Connected sid dtype native) ∷ notices) w =
    links_changed notices (link_told w (Dropped server cid (Connected sid dtype native)))

-- ---- notices on other links

abbrev in_front : LinkRow → LinksAndIds → LinksAndIds
in_front link rows = record rows { links = link ∷ rows.links }

-- the notice changes this link
abbrev concerns : LinkRow → LinkNotice → Bool
concerns link (Cancelled subject server cid sid dtype sub) = is_link server cid link
concerns link (Unread subject cid) = false
concerns link (Subscribed subject server cid sid dtype want sent) = is_link server cid link
concerns link (Dropped server cid state) = is_link server cid link

passed_by : (link : LinkRow) (rows : LinksAndIds) (notice : LinkNotice) → concerns link notice ≡ false → left_by (in_front link rows) notice ≡ in_front link (left_by rows notice)
passed_by link rows (Cancelled subject server cid sid dtype sub) other = rw other refl
passed_by link rows (Unread subject cid) other = refl
passed_by link rows (Subscribed subject server cid sid dtype want sent) other = rw other refl
passed_by link rows (Dropped server cid state) other = rw other refl

-- notices that don't concern the first link leave it as it is
all_passed_by : (link : LinkRow) (rows : LinksAndIds) (notices : List LinkNotice) → list_any (concerns link) notices ≡ false
    → fold left_by (in_front link rows) notices ≡ in_front link (fold left_by rows notices)
all_passed_by link rows [] others = refl
all_passed_by link rows (notice ∷ notices) others =
    by (concerns link notice) refl others (λ rest. all_passed_by link (left_by rows notice) notices rest)
  where
    by : (here : Bool) → concerns link notice ≡ here → (here || list_any (concerns link) notices) ≡ false
        → (list_any (concerns link) notices ≡ false → fold left_by (in_front link (left_by rows notice)) notices ≡ in_front link (fold left_by (left_by rows notice) notices))
        → fold left_by (left_by (in_front link rows) notice) notices ≡ in_front link (fold left_by (left_by rows notice) notices)
    by true is none on = absurd (true≢false none)
    by false is none on = ap (λ (left : LinksAndIds). fold left_by left notices) (passed_by link rows notice is) ∙ on none

itself : (link : LinkRow) → is_link link.server link.cid link ≡ true
itself link = and_from (eqb link.server link.server) (eqb link.cid link.cid) (eq-eqb link.server link.server refl) (eq-eqb link.cid link.cid refl)

cancelled-other : (subject : Subject) (link row : LinkRow) (sid dtype : ℕ) (sub : Option Subscription) → is_link row.server row.cid link ≡ false → list_any (concerns link) (cancelled subject row sid dtype sub) ≡ false
cancelled-other subject link row sid dtype None other = refl
cancelled-other subject link row sid dtype (Some sub) other = rw other refl

subscribed-other : (subject : Subject) (link row : LinkRow) (minor sid dtype native : ℕ) (want : Option Want) → is_link row.server row.cid link ≡ false
    → list_any (concerns link) (subscribed subject minor row sid dtype native want) ≡ false
subscribed-other subject link row minor sid dtype native None other = refl
subscribed-other subject link row minor sid dtype native (Some want) other = rw other refl

notices_between-other : (subject : Subject) (link row : LinkRow) (minor sid dtype native : ℕ) (want : Option Want) (sub : Option Subscription) → is_link row.server row.cid link ≡ false
    → list_any (concerns link) (notices_between subject minor row sid dtype native want sub) ≡ false
notices_between-other subject link row minor sid dtype native want sub other = by (is_for want sub)
  where
    by : (met : Bool) → list_any (concerns link) (cond met [] (cancelled subject row sid dtype sub ++ subscribed subject minor row sid dtype native want)) ≡ false
    by true = refl
    by false = rw (list_any-append, cancelled-other subject link row sid dtype sub other) (subscribed-other subject link row minor sid dtype native want other)

subject_notices-other : (subject : Subject) (w : Gateway) (link row : LinkRow) (sid dtype native : ℕ) → is_link row.server row.cid link ≡ false
    → list_any (concerns link) (subject_notices subject w row sid dtype native) ≡ false
subject_notices-other subject w link row sid dtype native other =
    notices_between-other subject link row (minor_of w row.server) sid dtype native (wanted_for subject w row.name dtype native) (sub_at subject row.subscriptions) other

interest_notices-other : (w : Gateway) (link row : LinkRow) (state : LinkState) → is_link row.server row.cid link ≡ false → list_any (concerns link) (interest_notices w row state) ≡ false
interest_notices-other w link row Creating other = refl
interest_notices-other w link row Unusable other = refl
interest_notices-other w link row (Connected sid dtype native) other =
    rw (list_any-append, subject_notices-other Values w link row sid dtype native other) (subject_notices-other Properties w link row sid dtype native other)

link_notices_of-other : (w : Gateway) (link row : LinkRow) → is_link row.server row.cid link ≡ false → list_any (concerns link) (link_notices_of w row) ≡ false
link_notices_of-other w link row other = by (is_wanted w row.name)
  where
    by : (wanted : Bool) → list_any (concerns link) (interest_notices w row row.state ++ cond wanted [] (Dropped row.server row.cid row.state ∷ [])) ≡ false
    by true = rw (list_any-append, interest_notices-other w link row row.state other) refl
    by false = rw (list_any-append, interest_notices-other w link row row.state other, other) refl

-- notices on later links don't concern a link
later_notices-other : (w : Gateway) (link : LinkRow) (rows : List LinkRow) → list_any (is_same_link link) rows ≡ false → list_any (concerns link) (flat_map (link_notices_of w) rows) ≡ false
later_notices-other w link [] none = refl
later_notices-other w link (row ∷ rows) none =
    let parts = or_parts (is_same_link link row) (list_any (is_same_link link) rows) none in
    let other : is_link row.server row.cid link ≡ false = and_right (eqb link.server row.server) (eqb link.cid row.cid) (eqb_swapped link.cid row.cid ∙ parts.0) in
    rw (list_any-append, link_notices_of-other w link row other) (later_notices-other w link rows parts.1)

-- ---- a link's own notices

abbrev with_ids : List ℕ → LinksAndIds → LinksAndIds
with_ids ids rows = record rows { ids = ids }

abbrev with_subs : Subscriptions → LinkRow → LinkRow
with_subs subs link = record link { subscriptions = subs }

same_at : (subject : Subject) (subs : Subscriptions) → with_at subject (sub_at subject subs) subs ≡ subs
same_at Values subs = refl
same_at Properties subs = refl

put_again : (subject : Subject) (first second : Option Subscription) (subs : Subscriptions) → with_at subject second (with_at subject first subs) ≡ with_at subject second subs
put_again Values first second subs = refl
put_again Properties first second subs = refl

-- the notices about a subject leave the link with a subscription that is for what is wanted of it
record IsMetFor (subject : Subject) (want : Option Want) (link : LinkRow) (rows : LinksAndIds) (notices : List LinkNotice) : Type 0 where
  sub : Option Subscription
  ids : List ℕ
  gives : fold left_by (in_front link rows) notices ≡ in_front (with_subscription subject sub link) (with_ids ids rows)
  met : is_for want sub ≡ true

met_for : (subject : Subject) (want : Option Want) (link : LinkRow) (rows : LinksAndIds) (minor sid dtype native : ℕ)
    → IsMetFor subject want link rows (notices_between subject minor link sid dtype native want (sub_at subject link.subscriptions))
met_for subject want link rows minor sid dtype native = by (is_for want (sub_at subject link.subscriptions)) refl
  where
    new : Want → Subscription
    new asked = record { id = next_of rows.ids; mask = asked.mask; count = asked.count; sent = sent_for subject minor native asked.count }

    anew : (sub : Option Subscription) (want : Option Want) → is_for want sub ≡ false
        → IsMetFor subject want link rows (cancelled subject link sid dtype sub ++ subscribed subject minor link sid dtype native want)
    anew None None differs = absurd (true≢false differs)
    anew (Some sub) None differs = record { sub = None; ids = rows.ids; gives = rw (itself link) refl; met = refl }
    anew None (Some asked) differs = record {
      sub = Some (new asked);
      ids = rest_of rows.ids;
      gives = rw (itself link) refl;
      met = rw (eq-eqb asked.mask asked.mask refl, eq-eqb asked.count asked.count refl) refl;
    }
    anew (Some sub) (Some asked) differs = record {
      sub = Some (new asked);
      ids = rest_of rows.ids;
      gives = rw (itself link, itself link)
          (ap (λ (subs : Subscriptions). in_front (with_subs subs link) (with_ids (rest_of rows.ids) rows)) (put_again subject None (Some (new asked)) link.subscriptions));
      met = rw (eq-eqb asked.mask asked.mask refl, eq-eqb asked.count asked.count refl) refl;
    }

    by : (met : Bool) → is_for want (sub_at subject link.subscriptions) ≡ met
        → IsMetFor subject want link rows (cond met [] (cancelled subject link sid dtype (sub_at subject link.subscriptions) ++ subscribed subject minor link sid dtype native want))
    by true met = record {
      sub = sub_at subject link.subscriptions;
      ids = rows.ids;
      gives = ap (λ (subs : Subscriptions). in_front (with_subs subs link) rows) (sym (same_at subject link.subscriptions));
      met = met;
    }
    by false met = anew (sub_at subject link.subscriptions) want met

-- the notices leave the link with subscriptions that are for what is wanted
record IsMet (w : Gateway) (link : LinkRow) (state : LinkState) (rows : LinksAndIds) (notices : List LinkNotice) : Type 0 where
  subs : Subscriptions
  ids : List ℕ
  gives : fold left_by (in_front link rows) notices ≡ in_front (with_subs subs link) (with_ids ids rows)
  quiet : interest_notices w (with_subs subs link) state ≡ []

interest_met : (w : Gateway) (link : LinkRow) (rows : LinksAndIds) (state : LinkState) → IsMet w link state rows (interest_notices w link state)
interest_met w link rows Creating = record { subs = link.subscriptions; ids = rows.ids; gives = refl; quiet = refl }
interest_met w link rows Unusable = record { subs = link.subscriptions; ids = rows.ids; gives = refl; quiet = refl }
interest_met w link rows (Connected sid dtype native) = record {
  subs = record { values = first.sub; properties = second.sub };
  ids = second.ids;
  gives =
      fold-append left_by (in_front link rows) (subject_notices Values w link sid dtype native) (subject_notices Properties w link sid dtype native)
      ∙ ap (λ (left : LinksAndIds). fold left_by left (subject_notices Properties w link sid dtype native)) first.gives ∙ second.gives;
  quiet = rw (first.met, second.met) refl;
}
  where
    minor : ℕ
    minor = minor_of w link.server

    first : IsMetFor Values (wanted_for Values w link.name dtype native) link rows (subject_notices Values w link sid dtype native)
    first = met_for Values (wanted_for Values w link.name dtype native) link rows minor sid dtype native

    -- on the link that the first leaves
    second : IsMetFor Properties (wanted_for Properties w link.name dtype native) (with_subscription Values first.sub link) (with_ids first.ids rows) (subject_notices Properties w link sid dtype native)
    second = met_for Properties (wanted_for Properties w link.name dtype native) (with_subscription Values first.sub link) (with_ids first.ids rows) minor sid dtype native

-- ---- all links

-- the links left are owed no notice, and a wanted name has the rights and the connection that it had
pub record IsLeft (w : Gateway) (links left : List LinkRow) : Type 0 where
  pub quiet : flat_map (link_notices_of w) left ≡ []
  pub rights : (name : List ℕ) → is_wanted w name ≡ true → link_rights (find (is_named name) left) ≡ link_rights (find (is_named name) links)
  pub connected : (name : List ℕ) → is_wanted w name ≡ true → link_connected (find (is_named name) left) ≡ link_connected (find (is_named name) links)

-- a link that isn't wanted isn't that of a wanted name
pub unwanted : (w : Gateway) (link : LinkRow) (name : List ℕ) → is_wanted w link.name ≡ false → is_wanted w name ≡ true → is_named name link ≡ false
unwanted w link name refused wanted = by (is_named name link) refl
  where
    by : (named : Bool) → is_named name link ≡ named → named ≡ false
    by false e = refl
    by true e = let same : link.name ≡ name = (bytes_eq-Decides link.name name).0 e in absurd (both_ways (is_wanted w name) (ap (is_wanted w) (sym same) ∙ refused) wanted)

left_without : (w : Gateway) (link : LinkRow) (links left : List LinkRow) → is_wanted w link.name ≡ false → IsLeft w links left → IsLeft w (link ∷ links) left
left_without w link links left refused rest = record {
  quiet = rest.quiet;
  rights = λ name wanted. rw (unwanted w link name refused wanted) (rest.rights name wanted);
  connected = λ name wanted. rw (unwanted w link name refused wanted) (rest.connected name wanted);
}

left_with : (w : Gateway) (link : LinkRow) (subs : Subscriptions) (links left : List LinkRow) → link_notices_of w (with_subs subs link) ≡ [] → IsLeft w links left
    → IsLeft w (link ∷ links) (with_subs subs link ∷ left)
left_with w link subs links left quiet rest = record {
  quiet = ap (λ (notices : List LinkNotice). notices ++ flat_map (link_notices_of w) left) quiet ∙ rest.quiet;
  rights = λ name wanted. same name (λ (found : Option LinkRow). link_rights found) refl (rest.rights name wanted);
  connected = λ name wanted. same_connected name (rest.connected name wanted);
}
  where
    same : (name : List ℕ) (of : Option LinkRow → ℕ) → of (Some (with_subs subs link)) ≡ of (Some link) → of (find (is_named name) left) ≡ of (find (is_named name) links)
        → of (find (is_named name) (with_subs subs link ∷ left)) ≡ of (find (is_named name) (link ∷ links))
    same name of here rest =
        elim (is_named name link) as (λ t. of (cond t (Some (with_subs subs link)) (find (is_named name) left)) ≡ of (cond t (Some link) (find (is_named name) links)))
        [ true ↦ here | false ↦ rest ]

    same_connected : (name : List ℕ) → link_connected (find (is_named name) left) ≡ link_connected (find (is_named name) links)
        → link_connected (find (is_named name) (with_subs subs link ∷ left)) ≡ link_connected (find (is_named name) (link ∷ links))
    same_connected name rest =
        elim (is_named name link) as (λ t. link_connected (cond t (Some (with_subs subs link)) (find (is_named name) left)) ≡ link_connected (cond t (Some link) (find (is_named name) links)))
        [ true ↦ refl | false ↦ rest ]

abbrev with_links : List LinkRow → LinksAndIds → LinksAndIds
with_links links rows = record rows { links = links }

links_left : (w : Gateway) (rows : LinksAndIds) (links : List LinkRow) → AreUnlike is_same_link links
    → IsLeft w links (fold left_by (with_links links rows) (flat_map (link_notices_of w) links)).links
links_left w rows [] apart = record { quiet = refl; rights = λ name wanted. refl; connected = λ name wanted. refl }
links_left w rows (link ∷ links) apart =
    by (is_wanted w link.name) refl (λ ids. links_left w (with_ids ids rows) links apart.1)
  where
    met : IsMet w link link.state (with_links links rows) (interest_notices w link link.state)
    met = interest_met w link (with_links links rows) link.state

    left : LinkRow
    left = with_subs met.subs link

    own : fold left_by (with_links (link ∷ links) rows) (interest_notices w link link.state) ≡ in_front left (with_links links (with_ids met.ids rows))
    own = met.gives

    gone : filter (is_not_link link.server link.cid) links ≡ links
    gone =
        filter_absent (is_link link.server link.cid) links
        (none_weaker (is_same_link link) (is_link link.server link.cid) links (λ x other. and_right (eqb x.server link.server) (eqb x.cid link.cid) other) apart.0)

    -- behind a link's own notices come those on later links
    behind : (after : LinksAndIds) (last : List LinkNotice) → fold left_by (in_front left (with_links links (with_ids met.ids rows))) last ≡ after
        → fold left_by (with_links (link ∷ links) rows) ((interest_notices w link link.state ++ last) ++ flat_map (link_notices_of w) links)
        ≡ fold left_by after (flat_map (link_notices_of w) links)
    behind after last e =
        fold-append left_by (with_links (link ∷ links) rows) (interest_notices w link link.state ++ last) (flat_map (link_notices_of w) links)
        ∙ ap (λ (r : LinksAndIds). fold left_by r (flat_map (link_notices_of w) links))
        (fold-append left_by (with_links (link ∷ links) rows) (interest_notices w link link.state) last ∙ ap (λ (r : LinksAndIds). fold left_by r last) own ∙ e)

    by : (wanted : Bool) → is_wanted w link.name ≡ wanted
        → ((ids : List ℕ) → IsLeft w links (fold left_by (with_links links (with_ids ids rows)) (flat_map (link_notices_of w) links)).links)
        → IsLeft w (link ∷ links)
        (fold left_by (with_links (link ∷ links) rows)
        ((interest_notices w link link.state ++ cond wanted [] (Dropped link.server link.cid link.state ∷ [])) ++ flat_map (link_notices_of w) links)).links
    by true is on =
        let others = later_notices-other w left links apart.0 in
        let all = behind (in_front left (with_links links (with_ids met.ids rows))) [] refl
        ∙ all_passed_by left (with_links links (with_ids met.ids rows)) (flat_map (link_notices_of w) links) others in
        let quiet : link_notices_of w left ≡ [] = rw (met.quiet, is) refl in
        subst (λ (r : LinksAndIds). IsLeft w (link ∷ links) r.links) (sym all)
        (left_with w link met.subs links (fold left_by (with_links links (with_ids met.ids rows)) (flat_map (link_notices_of w) links)).links quiet (on met.ids))
    by false is on =
        let step : left_by (in_front left (with_links links (with_ids met.ids rows))) (Dropped link.server link.cid link.state) ≡ with_links links (with_ids met.ids rows) =
        rw (itself link, gone) refl in
        let all = behind (with_links links (with_ids met.ids rows)) (Dropped link.server link.cid link.state ∷ []) step in
        subst (λ (r : LinksAndIds). IsLeft w (link ∷ links) r.links) (sym all)
        (left_without w link links (fold left_by (with_links links (with_ids met.ids rows)) (flat_map (link_notices_of w) links)).links is (on met.ids))

-- ---- what the pass does to a state

-- the pass gives such a state, whose links are those left
pub record IsPassed (w v : Gateway) : Type 0 where
  pub connections : List Connection
  pub cache : List LastMessage
  pub links : List LinkRow
  pub counters : Counters
  pub is : v ≡ with_links_left w connections cache links counters
  pub left : IsLeft w w.upstream.links links

pub links_passed : (w : Gateway) → HasCidsApart w → IsPassed w (links_told w)
links_passed w order = record {
  connections = (links_told w).connections;
  cache = (links_told w).cache;
  links = (links_told w).upstream.links;
  counters = (links_told w).upstream.counters;
  is = links_changed (link_notices w) w;
  left =
      subst (λ (links : List LinkRow). IsLeft w w.upstream.links links) (sym (left_is (link_notices w) w))
      (links_left w (dealt w.upstream.links (ids_given w (link_notices w))) w.upstream.links order.apart);
}
