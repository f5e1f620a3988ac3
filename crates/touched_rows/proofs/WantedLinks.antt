-- What is told about links leaves the links of variables that are wanted.
use Rattle.std.proofs.Common.{◌≡◌, ℕ, ◌+◌, List, [], ◌∷◌, ◌++◌, Bool, true, false, cond, eqb, ◌&&◌, ◌||◌, Option, Some, None, get_or, refl, sym, ap, subst, ◌∙◌}
use Rattle.std.specs.Prelude.{bit_and, filter, flat_map, option_map}
use Rattle.std.specs.List.{All, find, fold, list_all, list_any}
use Rattle.std.proofs.lemmas.Bool.{and_parts, eqb-true, true≢false}
use Rattle.std.proofs.lemmas.List.Elements.{All-filter, All-head, All-tail, All-weaker}
use Rattle.std.proofs.lemmas.List.Folds.{list_any-append}
use Rattle.std.proofs.lemmas.Slice.Eq.{bytes_eq-Decides}
use Rattle.ca_message.specs.declared.to_server.ToServer.TheVariants as requests
use Rattle.named_rows.specs.declared.channels.Channel.{Channel}
use Rattle.link_table.specs.declared.links.LinkRow.{LinkRow}
use Rattle.link_table.specs.declared.links.LinkState.{LinkState}
use Rattle.link_table.specs.declared.links.LinkState.TheVariants.{Creating, Connected, Unusable}
use Rattle.link_table.specs.declared.links.Subscription.{Subscription}
use Rattle.link_table.specs.LinkRows.{LinkRows}
use Rattle.link_table.specs.Links.{is_link, is_named, is_not_link, with_subscription}
use Rattle.gateway_state.specs.declared.cached.LastMessage.{LastMessage}
use Rattle.gateway_state.specs.declared.connections.Connection.{Connection}
use Rattle.gateway_state.specs.declared.event.Dest.TheVariants.{Upstream}
use Rattle.gateway_state.specs.declared.notice.LinkNotice.{LinkNotice}
use Rattle.gateway_state.specs.declared.notice.LinkNotice.TheVariants.{Cancelled, Unread, Subscribed, Dropped}
use Rattle.gateway_state.specs.Answer.{cached_as, cached_value}
use Rattle.gateway_state.specs.CachedRows.{is_cached_elsewhere, is_cached_of}
use Rattle.gateway_state.specs.Gateway.{Gateway}
use Rattle.gateway_state.specs.Notices.{dropped, interest_notices, link_notices_of, link_told, next_sub_id}
use Rattle.gateway_state.specs.Resolution.{rights_left}
use Rattle.gateway_state.specs.Rights.{lead_in, link_rights, rights_of}
use Rattle.gateway_state.specs.Servers.{without_link}
use Rattle.gateway_state.specs.Settled.{AreUnlike, is_same_link}
use Rattle.gateway_state.specs.Telling.{outgoing_upstream, sent}
use Rattle.gateway_state.specs.Variables.{is_wanted, link_of}
use Rattle.touched_rows.specs.Touched.{link_notices_over}
use Rattle.touched_rows.proofs.LessGiven.{bare, is_given_to}
use Rattle.touched_rows.proofs.Numbered.{each_alone, one_of_cid}
use Rattle.touched_rows.proofs.ReadersOf.{found_left, not_not}
use Rattle.touched_rows.proofs.Shapes.{links_told_shape, with_links}
use Rattle.touched_rows.proofs.Tellings.{interest_keeps, keeps_links, less_link_told, less_sent, less_without_cached, rights_bare}
use Rattle.touched_rows.proofs.TouchedAlone.{all_with_changed}

pub neither : (a b : Bool) → (a || b) ≡ false → (a ≡ false) × (b ≡ false)
neither true b none = absurd (true≢false none)
neither false b none = (refl, none)

-- ---- a link that goes

dropped_links : (server cid : ℕ) (state : LinkState) (v : Gateway) → (dropped server cid state v).upstream.links ≡ filter (is_not_link server cid) v.upstream.links
unfolding sent
dropped_links server cid Creating v = refl
dropped_links server cid (Connected sid dtype count) v = refl
dropped_links server cid Unusable v = refl

dropped_cache : (server cid : ℕ) (state : LinkState) (v : Gateway) → (dropped server cid state v).cache ≡ filter (is_cached_elsewhere cid) v.cache
unfolding sent
dropped_cache server cid Creating v = refl
dropped_cache server cid (Connected sid dtype count) v = refl
dropped_cache server cid Unusable v = refl

dropped_open : (server cid : ℕ) (state : LinkState) (v : Gateway) (number : ℕ) → is_given_to (dropped server cid state v) number ≡ true → is_given_to v number ≡ true
dropped_open server cid Creating v number open_to = open_to
dropped_open server cid (Connected sid dtype count) v number open_to =
    (less_sent (Upstream server) (outgoing_upstream (requests.ClearChannel sid cid)) (without_link server cid v)).sessions number open_to
dropped_open server cid Unusable v number open_to = open_to

-- ---- no value is had after, and no session takes updates, that wasn't or didn't before

value_after : (v : Gateway) (notice : LinkNotice) (cid native dtype count : ℕ) → cached_value v cid native dtype count ≡ None → cached_value (link_told v notice) cid native dtype count ≡ None
value_after v (Cancelled subject server of sid as_type sub) cid native dtype count none = (less_link_told v (Cancelled subject server of sid as_type sub) refl).values cid native dtype count none
value_after v (Unread subject of) cid native dtype count none = (less_link_told v (Unread subject of) refl).values cid native dtype count none
value_after v (Subscribed subject server of sid as_type want asked) cid native dtype count none =
    (less_link_told v (Subscribed subject server of sid as_type want asked) refl).values cid native dtype count none
value_after v (Dropped server of state) cid native dtype count none =
    ap (λ (rows : List LastMessage). cached_as native dtype count (find (is_cached_of cid) rows)) (dropped_cache server of state v)
    ∙ (less_without_cached of v).values cid native dtype count none

open_after : (v : Gateway) (notice : LinkNotice) (number : ℕ) → is_given_to (link_told v notice) number ≡ true → is_given_to v number ≡ true
open_after v (Cancelled subject server cid sid dtype sub) number open_to = (less_link_told v (Cancelled subject server cid sid dtype sub) refl).sessions number open_to
open_after v (Unread subject cid) number open_to = (less_link_told v (Unread subject cid) refl).sessions number open_to
open_after v (Subscribed subject server cid sid dtype want asked) number open_to = (less_link_told v (Subscribed subject server cid sid dtype want asked) refl).sessions number open_to
open_after v (Dropped server cid state) number open_to = dropped_open server cid state v number open_to

pub values_no_more : (notices : List LinkNotice) (v : Gateway) (cid native dtype count : ℕ) → cached_value v cid native dtype count ≡ None
    → cached_value (fold link_told v notices) cid native dtype count ≡ None
values_no_more [] v cid native dtype count none = none
values_no_more (notice ∷ notices) v cid native dtype count none = values_no_more notices (link_told v notice) cid native dtype count (value_after v notice cid native dtype count none)

pub open_no_more : (notices : List LinkNotice) (v : Gateway) (number : ℕ) → is_given_to (fold link_told v notices) number ≡ true → is_given_to v number ≡ true
open_no_more [] v number open_to = open_to
open_no_more (notice ∷ notices) v number open_to = open_after v notice number (open_no_more notices (link_told v notice) number open_to)

-- ---- links that no notice drops

-- the notice drops the link of these numbers
abbrev pub drops : ℕ → ℕ → LinkNotice → Bool
drops server cid (Cancelled subject of_server of_cid sid dtype sub) = false
drops server cid (Unread subject of_cid) = false
drops server cid (Subscribed subject of_server of_cid sid dtype want asked) = false
drops server cid (Dropped of_server of_cid state) = eqb server of_server && eqb cid of_cid

-- where the link is the variable's, no notice drops it
abbrev pub IsSpared : List ℕ → List LinkNotice → LinkRow → Type 0
IsSpared name notices row = is_named name row ≡ true → list_any (drops row.server row.cid) notices ≡ false

module _ (name : List ℕ) (notices : List LinkNotice) where
  later : (notice : LinkNotice) (rows : List LinkRow) → All (IsSpared name (notice ∷ notices)) rows → All (IsSpared name notices) rows
  later notice rows all =
      All-weaker (IsSpared name (notice ∷ notices)) (IsSpared name notices)
      (λ row spared named. (neither (drops row.server row.cid notice) (list_any (drops row.server row.cid) notices) (spared named)).1) rows all

  spared_after : (v : Gateway) (notice : LinkNotice) → All (IsSpared name (notice ∷ notices)) v.upstream.links → All (IsSpared name notices) (link_told v notice).upstream.links
  unfolding sent
  spared_after v (Cancelled subject server cid sid dtype sub) all =
      all_with_changed (IsSpared name notices) (is_link server cid) (with_subscription subject None) v.upstream.links
      (later (Cancelled subject server cid sid dtype sub) v.upstream.links all) (λ row found holds. holds)
  spared_after v (Unread subject cid) all = later (Unread subject cid) v.upstream.links all
  spared_after v (Subscribed subject server cid sid dtype want asked) all =
      let sub : Option Subscription = Some (record { id = next_sub_id v server; mask = want.mask; count = want.count; sent = asked }) in
      all_with_changed (IsSpared name notices) (is_link server cid) (with_subscription subject sub) v.upstream.links
      (later (Subscribed subject server cid sid dtype want asked) v.upstream.links all) (λ row found holds. holds)
  spared_after v (Dropped server cid state) all =
      subst (All (IsSpared name notices)) (sym (dropped_links server cid state v))
      (All-filter (is_not_link server cid) (IsSpared name notices) v.upstream.links (later (Dropped server cid state) v.upstream.links all))

  unnamed : (server cid : ℕ) (state : LinkState) (row : LinkRow) → IsSpared name (Dropped server cid state ∷ notices) row → is_not_link server cid row ≡ false → is_named name row ≡ false
  unnamed server cid state row spared gone = by (is_named name row) refl
    where
      by : (named : Bool) → is_named name row ≡ named → named ≡ false
      by true named =
          absurd (true≢false (sym (not_not (is_link server cid row) gone) ∙ (neither (is_link server cid row) (list_any (drops row.server row.cid) notices) (spared named)).0))
      by false named = refl

  link_after : (v : Gateway) (notice : LinkNotice) → All (IsSpared name (notice ∷ notices)) v.upstream.links
      → option_map bare (link_of (link_told v notice) name) ≡ option_map bare (link_of v name)
  link_after v (Cancelled subject server cid sid dtype sub) all = (less_link_told v (Cancelled subject server cid sid dtype sub) refl).links name
  link_after v (Unread subject cid) all = (less_link_told v (Unread subject cid) refl).links name
  link_after v (Subscribed subject server cid sid dtype want asked) all = (less_link_told v (Subscribed subject server cid sid dtype want asked) refl).links name
  link_after v (Dropped server cid state) all =
      ap (λ (links : List LinkRow). option_map bare (find (is_named name) links)) (dropped_links server cid state v)
      ∙ ap (option_map bare)
      (found_left (is_named name) (is_not_link server cid) v.upstream.links
      (All-weaker (IsSpared name (Dropped server cid state ∷ notices)) (λ (row : LinkRow). is_not_link server cid row ≡ false → is_named name row ≡ false)
      (unnamed server cid state) v.upstream.links all))

spared_link_kept : (name : List ℕ) (notices : List LinkNotice) (v : Gateway) → All (IsSpared name notices) v.upstream.links
    → option_map bare (link_of (fold link_told v notices) name) ≡ option_map bare (link_of v name)
spared_link_kept name [] v all = refl
spared_link_kept name (notice ∷ notices) v all =
    spared_link_kept name notices (link_told v notice) (spared_after name notices v notice all) ∙ link_after name notices v notice all

-- the links of wanted variables are spared
abbrev pub SparesWanted : Gateway → List LinkNotice → Type 0
SparesWanted x notices = (name : List ℕ) → is_wanted x name ≡ true → All (IsSpared name notices) x.upstream.links

module _ (x : Gateway) (notices : List LinkNotice) (spares : SparesWanted x notices) where
  abbrev after : Gateway
  after = fold link_told x notices

  pub wanted_link_kept : (name : List ℕ) → is_wanted x name ≡ true → option_map bare (link_of after name) ≡ option_map bare (link_of x name)
  wanted_link_kept name wanted = spared_link_kept name notices x (spares name wanted)

  rights_over : (connections : List Connection) (cache : List LastMessage) (upstream : LinkRows) (c : Channel)
      → option_map bare (find (is_named c.real) upstream.links) ≡ option_map bare (link_of x c.real) → rights_of (with_links x connections cache upstream) c ≡ rights_of x c
  rights_over connections cache upstream c same =
      ap (λ (rights : ℕ). bit_and rights (rights_left x.policy (lead_in x c.session c.asked)))
      (rights_bare (find (is_named c.real) upstream.links) ∙ ap link_rights same ∙ sym (rights_bare (link_of x c.real)))

  pub wanted_rights_kept : (c : Channel) → is_wanted x c.real ≡ true → rights_of after c ≡ rights_of x c
  wanted_rights_kept c wanted =
      ap (λ (v : Gateway). rights_of v c) (links_told_shape notices x) ∙ rights_over after.connections after.cache after.upstream c (wanted_link_kept c.real wanted)

-- ---- the notices on links drop none that is wanted

kept_spares : (server cid : ℕ) (notices : List LinkNotice) → list_all keeps_links notices ≡ true → list_any (drops server cid) notices ≡ false
kept_spares server cid [] keep = refl
kept_spares server cid (Cancelled subject of_server of_cid sid dtype sub ∷ notices) keep = kept_spares server cid notices keep
kept_spares server cid (Unread subject of_cid ∷ notices) keep = kept_spares server cid notices keep
kept_spares server cid (Subscribed subject of_server of_cid sid dtype want asked ∷ notices) keep = kept_spares server cid notices keep
kept_spares server cid (Dropped of_server of_cid state ∷ notices) keep = absurd (true≢false (sym keep))

-- no other row has the numbers of this link
abbrev IsAlone : List LinkRow → LinkRow → Type 0
IsAlone rows link = All (λ (row : LinkRow). is_link link.server link.cid row ≡ true → row ≡ link) rows

module _ (x : Gateway) where
  spared_by : (link row : LinkRow) → (is_link link.server link.cid row ≡ true → row ≡ link) → is_wanted x row.name ≡ true → list_any (drops row.server row.cid) (link_notices_of x link) ≡ false
  spared_by link row one wanted =
      list_any-append (drops row.server row.cid) (interest_notices x link link.state) (cond (is_wanted x link.name) [] (Dropped link.server link.cid link.state ∷ []))
      ∙ rw (kept_spares row.server row.cid (interest_notices x link link.state) (interest_keeps x link link.state)) (by (is_wanted x link.name) (is_link link.server link.cid row) refl refl)
    where
      by : (is_so here : Bool) → is_wanted x link.name ≡ is_so → is_link link.server link.cid row ≡ here
          → list_any (drops row.server row.cid) (cond is_so [] (Dropped link.server link.cid link.state ∷ [])) ≡ false
      by true here e is = refl
      by false true e is = absurd (true≢false (sym wanted ∙ ap (λ (l : LinkRow). is_wanted x l.name) (one is) ∙ e))
      by false false e is = rw is refl

  spared_each : (name : List ℕ) → is_wanted x name ≡ true → (link : LinkRow) (rows : List LinkRow) → IsAlone rows link → All (IsSpared name (link_notices_of x link)) rows
  spared_each name wanted link rows alone =
      All-weaker (λ (row : LinkRow). is_link link.server link.cid row ≡ true → row ≡ link) (IsSpared name (link_notices_of x link))
      (λ row one named. spared_by link row one (ap (is_wanted x) ((bytes_eq-Decides row.name name).0 named) ∙ wanted)) rows alone

  both_spared : (name : List ℕ) (first more : List LinkNotice) (rows : List LinkRow) → All (IsSpared name first) rows → All (IsSpared name more) rows → All (IsSpared name (first ++ more)) rows
  both_spared name first more rows here rest k d within named =
      let row : LinkRow = get_or rows k d in
      list_any-append (drops row.server row.cid) first more ∙ rw (here k d within named, rest k d within named) refl

  spared_all : (name : List ℕ) → is_wanted x name ≡ true → (links rows : List LinkRow) → All (IsAlone rows) links → All (IsSpared name (flat_map (link_notices_of x) links)) rows
  spared_all name wanted [] rows alone = λ k d within. λ named. refl
  spared_all name wanted (link ∷ links) rows alone =
      both_spared name (link_notices_of x link) (flat_map (link_notices_of x) links) rows
      (spared_each name wanted link rows (All-head (IsAlone rows) link links alone)) (spared_all name wanted links rows (All-tail (IsAlone rows) link links alone))

-- those on one variable's link
pub one_spares : (x : Gateway) → AreUnlike is_same_link x.upstream.links → (name : List ℕ) → SparesWanted x (link_notices_over x (link_of x name))
one_spares x order name other wanted = by (link_of x name) refl
  where
    by : (found : Option LinkRow) → link_of x name ≡ found → All (IsSpared other (link_notices_over x found)) x.upstream.links
    by None is = λ k d within. λ named. refl
    by (Some link) is =
        spared_each x other wanted link x.upstream.links
        (All-weaker (λ (row : LinkRow). row.cid ≡ link.cid → row ≡ link) (λ (row : LinkRow). is_link link.server link.cid row ≡ true → row ≡ link)
        (λ row one same. one (eqb-true row.cid link.cid (and_parts (eqb row.server link.server) (eqb row.cid link.cid) same).1))
        x.upstream.links (one_of_cid (is_named name) x.upstream.links link order is))

-- those on any of the links
pub some_spare : (x : Gateway) → AreUnlike is_same_link x.upstream.links → (touched : LinkRow → Bool) → SparesWanted x (flat_map (link_notices_of x) (filter touched x.upstream.links))
some_spare x order touched name wanted =
    let rows : List LinkRow = x.upstream.links in
    spared_all x name wanted (filter touched rows) rows
    (All-filter touched (IsAlone rows) rows
    (All-weaker (λ (link : LinkRow). All (λ (row : LinkRow). row.cid ≡ link.cid → row ≡ link) rows) (IsAlone rows)
    (λ link one. All-weaker (λ (row : LinkRow). row.cid ≡ link.cid → row ≡ link) (λ (row : LinkRow). is_link link.server link.cid row ≡ true → row ≡ link)
    (λ row same is. same (eqb-true row.cid link.cid (and_parts (eqb row.server link.server) (eqb row.cid link.cid) is).1)) rows one)
    rows (each_alone rows order)))
