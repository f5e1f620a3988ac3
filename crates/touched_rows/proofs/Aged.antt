-- Time passed: what is given up with a server concerns nobody else, and searches that are forgotten are told as searches
-- that are.
use Rattle.std.proofs.Common.{◌≡◌, ℕ, List, [], ◌∷◌, Bool, true, false, cond, eqb, not, ◌&&◌, ◌||◌, Option, Some, None, refl, sym, ap, subst, ◌∙◌}
use Rattle.std.specs.Prelude.{filter, map}
use Rattle.std.specs.List.{All, find, fold, list_any}
use Rattle.std.proofs.lemmas.Bool.{and_parts, eqb-true}
use Rattle.std.proofs.lemmas.List.Elements.{All-filter, All-head, All-tail, All-weaker}
use Rattle.named_rows.specs.declared.reads.WaitingRead.{WaitingRead}
use Rattle.link_table.specs.declared.links.LinkRow.{LinkRow}
use Rattle.link_table.specs.declared.links.Subject.TheVariants.{Properties}
use Rattle.link_table.specs.Links.{is_link, is_not_link}
use Rattle.gateway_state.specs.declared.search.RememberedSearch.{RememberedSearch}
use Rattle.gateway_state.specs.Aged.{age_told, aged, are_properties_overdue, is_link_overdue, is_older, link_given_up, links_given_up, properties_given_up, properties_given_up_on}
use Rattle.gateway_state.specs.Answer.{native_in}
use Rattle.gateway_state.specs.Gateway.{Gateway}
use Rattle.gateway_state.specs.Searches.{grown_stale, is_fresh, is_stale, leads_to}
use Rattle.gateway_state.specs.Servers.{fails_without, read_failed, waits_for, without_link}
use Rattle.gateway_state.specs.Settled.{AreNumbersApart, HasLinksApart, IsSettled}
use Rattle.gateway_state.specs.Step.{consequences}
use Rattle.gateway_state.specs.Telling.{sent}
use Rattle.gateway_state.specs.Updates.{update_notice}
use Rattle.gateway_state.specs.Variables.{is_connected, is_creating, search_names, without_cached}
use Rattle.gateway_state.proofs.NumbersApart.{numbers_apart_kept}
use Rattle.gateway_state.proofs.KeptByServers.{kept_all_failed}
use Rattle.gateway_state.proofs.LinksApart.{links_apart_kept}
use Rattle.gateway_state.proofs.SearchedNames.{searched_is_among}
use Rattle.touched_rows.specs.Touched.{links_told_among}
use Rattle.touched_rows.proofs.Cleared.{left_have}
use Rattle.touched_rows.proofs.Connecting.{creating_unconnected}
use Rattle.touched_rows.proofs.Failed.{settled_uncached, settled_without}
use Rattle.touched_rows.proofs.Nothing.{settled_all_failed}
use Rattle.touched_rows.proofs.Numbered.{each_alone}
use Rattle.touched_rows.proofs.Swept.{told_after_forgetting}
use Rattle.touched_rows.proofs.TouchedAlone.{found_holds, found_passes}
use Rattle.touched_rows.proofs.WantedLinks.{neither}

-- ---- what is given up leaves

-- the names that stale searches lead to
abbrev stale_names : Gateway → List (List ℕ)
stale_names w = search_names w.policy (filter is_stale w.searches)

-- nobody is owed anything, and the searches are those that there were
record IsLeftBy (w v : Gateway) : Type 0 where
  settled : IsSettled v
  order : AreNumbersApart v
  apart : HasLinksApart v
  names : stale_names v ≡ stale_names w

-- ---- properties

names_after_failures : (reads : List WaitingRead) (v : Gateway) → stale_names (fold read_failed v reads) ≡ stale_names v
unfolding sent
names_after_failures [] v = refl
names_after_failures (read ∷ reads) v = names_after_failures reads (read_failed v read)

left_by_failures : (w : Gateway) (links : List LinkRow) (v : Gateway) → IsLeftBy w v → IsLeftBy w (fold properties_given_up_on v links)
left_by_failures w [] v left = left
left_by_failures w (link ∷ links) v left =
    let reads : List WaitingRead = filter (λ read. waits_for v link.name read && fails_without Properties (native_in link.state) read) v.clients.reads in
    left_by_failures w links (properties_given_up_on v link) (record {
      settled = settled_all_failed reads v left.settled;
      order = kept_all_failed AreNumbersApart numbers_apart_kept.rows reads v left.order;
      apart = kept_all_failed HasLinksApart links_apart_kept.rows reads v left.apart;
      names = names_after_failures reads v ∙ left.names;
    })

-- ---- links

-- rows that aren't there don't go
none_goes : {A : Type 0} (test : A → Bool) (rows : List A) → find test rows ≡ None → filter (λ row. not (test row)) rows ≡ rows
none_goes test [] none = refl
none_goes {A = A} test (row ∷ rows) none = by (test row) none (λ rest. none_goes test rows rest)
  where
    by : (is : Bool) → cond is (Some row) (find test rows) ≡ None → (find test rows ≡ None → filter (λ x. not (test x)) rows ≡ rows)
        → cond (not is) (row ∷ filter (λ x. not (test x)) rows) (filter (λ x. not (test x)) rows) ≡ row ∷ rows
    by true none rest = absurd cc
    by false none rest = ap (λ (more : List A). row ∷ more) (rest none)

-- no link of these numbers is connected
abbrev IsUnconnected : List LinkRow → LinkRow → Type 0
IsUnconnected rows link = All (λ (row : LinkRow). is_link link.server link.cid row ≡ true → is_connected row.state ≡ false) rows

settled_given_up : (v : Gateway) (link : LinkRow) → IsSettled v → AreNumbersApart v → HasLinksApart v → IsUnconnected v.upstream.links link → IsSettled (link_given_up v link)
settled_given_up v link settled order apart unconnected = by (find (is_link link.server link.cid) v.upstream.links) refl
  where
    by : (found : Option LinkRow) → find (is_link link.server link.cid) v.upstream.links ≡ found → IsSettled (without_link link.server link.cid v)
    by None is =
        let same : filter (is_not_link link.server link.cid) v.upstream.links ≡ v.upstream.links = none_goes (is_link link.server link.cid) v.upstream.links is in
        let x : Gateway = without_cached link.cid v in
        subst (λ (rows : List LinkRow). IsSettled (record x { upstream = record v.upstream { links = rows } })) (sym same) (settled_uncached link.cid v settled)
    by (Some row) is =
        settled_without v settled order apart link.server link.cid row is
        (found_holds (λ (x : LinkRow). is_link link.server link.cid x ≡ true → is_connected x.state ≡ false) (is_link link.server link.cid) v.upstream.links row unconnected is
        (found_passes (is_link link.server link.cid) v.upstream.links row is))

left_by_links : (w : Gateway) (links : List LinkRow) (v : Gateway) → All (IsUnconnected v.upstream.links) links → IsLeftBy w v → IsLeftBy w (fold link_given_up v links)
left_by_links w [] v unconnected left = left
left_by_links w (link ∷ links) v unconnected left =
    let rows : List LinkRow = filter (is_not_link link.server link.cid) v.upstream.links in
    left_by_links w links (link_given_up v link)
    (All-weaker (IsUnconnected v.upstream.links) (IsUnconnected rows)
    (λ other each. All-filter (is_not_link link.server link.cid) (λ (row : LinkRow). is_link other.server other.cid row ≡ true → is_connected row.state ≡ false) v.upstream.links each)
    links (All-tail (IsUnconnected v.upstream.links) link links unconnected))
    (record {
      settled = settled_given_up v link left.settled left.order left.apart (All-head (IsUnconnected v.upstream.links) link links unconnected);
      order = numbers_apart_kept.rows.link_removed link.server link.cid v left.order;
      apart = links_apart_kept.rows.link_removed link.server link.cid v left.apart;
      names = left.names;
    })

-- links that a server hasn't answered yet aren't connected, and their numbers are theirs alone
all_overdue : (v : Gateway) → AreNumbersApart v → All (IsUnconnected v.upstream.links) (filter (is_link_overdue v) v.upstream.links)
all_overdue v order =
    left_have (λ (link : LinkRow). All (λ (row : LinkRow). row.cid ≡ link.cid → row ≡ link) v.upstream.links) (IsUnconnected v.upstream.links) (is_link_overdue v)
    (λ link overdue alone.
    let creating = and_parts (is_creating link.state) (is_older v.last_age.cid v.upstream.counters.cid link.cid) overdue in
    All-weaker (λ (row : LinkRow). row.cid ≡ link.cid → row ≡ link) (λ (row : LinkRow). is_link link.server link.cid row ≡ true → is_connected row.state ≡ false)
    (λ row one is.
    let key = and_parts (eqb row.server link.server) (eqb row.cid link.cid) is in
    ap (λ (l : LinkRow). is_connected l.state) (one (eqb-true row.cid link.cid key.1)) ∙ creating_unconnected link.state creating.0)
    v.upstream.links alone)
    v.upstream.links (each_alone v.upstream.links order.links.apart)

-- ---- searches

-- where no stale row passes, as many rows pass once those are gone
any_fresh : (test : RememberedSearch → Bool) → ((row : RememberedSearch) → test (grown_stale row) ≡ test row) → (rows : List RememberedSearch) → list_any test (filter is_stale rows) ≡ false
    → list_any test (map grown_stale (filter is_fresh rows)) ≡ list_any test rows
any_fresh test unseen [] none = refl
any_fresh test unseen (row ∷ rows) none = by row.fresh none (λ rest. any_fresh test unseen rows rest)
  where
    by : (fresh : Bool) → list_any test (cond (not fresh) (row ∷ filter is_stale rows) (filter is_stale rows)) ≡ false
        → (list_any test (filter is_stale rows) ≡ false → list_any test (map grown_stale (filter is_fresh rows)) ≡ list_any test rows)
        → list_any test (map grown_stale (cond fresh (row ∷ filter is_fresh rows) (filter is_fresh rows))) ≡ (test row || list_any test rows)
    by true none rest = let first = unseen row in let more = rest none in λ i. first i || more i
    by false none rest =
        let parts = neither (test row) (list_any test (filter is_stale rows)) none in
        rest parts.1 ∙ sym (ap (λ (t : Bool). t || list_any test rows) parts.0)

-- when time was last told to pass matters to nobody
settled_age_told : (v : Gateway) → IsSettled v → IsSettled (age_told v)
unfolding update_notice
settled_age_told v settled = record {
  channels = settled.channels;
  held_back = settled.held_back;
  links = settled.links;
  reads = settled.reads;
  updates = settled.updates;
}

-- ---- what follows

module _ (w : Gateway) (settled : IsSettled w) (order : AreNumbersApart w) (apart : HasLinksApart w) where
  abbrev first : Gateway
  first = properties_given_up w

  left_first : IsLeftBy w first
  left_first =
      left_by_failures w (filter (are_properties_overdue w) w.upstream.links) w (record { settled = settled; order = order; apart = apart; names = refl })

  abbrev second : Gateway
  second = links_given_up first

  left_second : IsLeftBy w second
  left_second = left_by_links w (filter (is_link_overdue first) first.upstream.links) first (all_overdue first left_first.order) left_first

  abbrev third : Gateway
  third = age_told second

  pub told_after_age : consequences (aged w) ≡ links_told_among (search_names w.policy (filter is_stale w.searches)) (aged w)
  told_after_age =
      told_after_forgetting third (settled_age_told second left_second.settled) left_second.order.links (map grown_stale (filter is_fresh third.searches)) (stale_names third)
      (λ name none.
      any_fresh (leads_to third.policy name) (λ row. refl) third.searches (searched_is_among third.policy name (filter is_stale third.searches) ∙ none))
      ∙ ap (λ (names : List (List ℕ)). links_told_among names (aged w)) left_second.names
