-- What is looked for concerns nobody else, but that an older search may go for it; nor does what a server's version is.
use Rattle.std.proofs.Common.{◌≡◌, ℕ, List, [], ◌∷◌, ◌++◌, Bool, true, false, cond, leb, not, ◌||◌, Some, None, refl, ap, ◌∙◌}
use Rattle.std.specs.Prelude.{length, is_some, map}
use Rattle.std.specs.List.{cons_option, find, list_any}
use Rattle.std.proofs.lemmas.List.Folds.{list_any-append}
use Rattle.link_table.specs.declared.servers.Server.{Server}
use Rattle.link_table.specs.Servers.{is_server, with_minor}
use Rattle.rows.specs.Rows.{change_first, remove_first}
use Rattle.gateway_state.specs.declared.search.RememberedSearch.{RememberedSearch}
use Rattle.gateway_state.specs.Clients.{remembered}
use Rattle.gateway_state.specs.Direct.{searched}
use Rattle.gateway_state.specs.Gateway.{Gateway}
use Rattle.gateway_state.specs.Resolution.{lead_of}
use Rattle.gateway_state.specs.Searches.{leads_to, left_by_search, made_now, outworn, refreshed, same_search, without_search}
use Rattle.gateway_state.specs.Servers.{server_versioned}
use Rattle.gateway_state.specs.Settled.{HasCidsApart, IsSettled}
use Rattle.gateway_state.specs.Step.{consequences}
use Rattle.gateway_state.specs.Updates.{update_notice}
use Rattle.named_rows.specs.Channels.{is_on}
use Rattle.gateway_state.specs.Variables.{is_wanted}
use Rattle.gateway_state.proofs.RowTests.{any_changed}
use Rattle.gateway_state.proofs.SettledSteps.{settled_stays}
use Rattle.touched_rows.specs.declared.touched.Touched.TheVariants.{Nothing}
use Rattle.touched_rows.specs.Touches.{consequences_of, left_touches, searched_touches}
use Rattle.touched_rows.proofs.LinksQuiet.{links_quiet}
use Rattle.touched_rows.proofs.SearchLeft.{outworn_is_one, told_after_replacing}

-- ---- searches

or_later : (first before after : Bool) → (before ≡ true → after ≡ true) → (first || before) ≡ true → (first || after) ≡ true
or_later true before after more there = refl
or_later false before after more there = more there

-- searches that lead to all that searches led to before
settled_searches : (rows : List RememberedSearch) (w : Gateway) → ((name : List ℕ) → list_any (leads_to w.policy name) w.searches ≡ true → list_any (leads_to w.policy name) rows ≡ true)
    → IsSettled w → IsSettled (record w { searches = rows })
unfolding update_notice
settled_searches rows w more settled = record {
  channels = settled.channels;
  held_back = settled.held_back;
  links = links_quiet w (record w { searches = rows }) (λ name. refl) wanted settled;
  reads = settled.reads;
  updates = settled.updates;
}
  where
    wanted : (name : List ℕ) → is_wanted w name ≡ true → is_wanted (record w { searches = rows }) name ≡ true
    wanted name there =
        or_later (list_any (is_on name) w.clients.channels) (list_any (leads_to w.policy name) w.searches) (list_any (leads_to w.policy name) rows) (more name) there

-- one that is found stays so with one row more
any_more : {A : Type 0} (test : A → Bool) (rows : List A) (new : A) → list_any test rows ≡ true → list_any test (rows ++ new ∷ []) ≡ true
any_more test rows new there = list_any-append test rows (new ∷ []) ∙ rw there refl

one_search_more : (new : RememberedSearch) (w : Gateway) → IsSettled w → IsSettled (record w { searches = w.searches ++ new ∷ [] })
one_search_more new w settled = settled_searches (w.searches ++ new ∷ []) w (λ name. any_more (leads_to w.policy name) w.searches new) settled

-- a row that goes to the end, by a change that the test doesn't see
any_moved : {A : Type 0} (test sought : A → Bool) (change : A → A) (rows : List A) → ((row : A) → test (change row) ≡ test row)
    → list_any test (remove_first sought rows ++ map change (cons_option (find sought rows) [])) ≡ list_any test rows
any_moved test sought change [] unseen = refl
any_moved {A = A} test sought change (row ∷ rows) unseen = by (sought row) (any_moved test sought change rows unseen)
  where
    swapped : (a b : Bool) → (a || (b || false)) ≡ (b || a)
    swapped true true = refl
    swapped true false = refl
    swapped false true = refl
    swapped false false = refl

    by : (here : Bool) → list_any test (remove_first sought rows ++ map change (cons_option (find sought rows) [])) ≡ list_any test rows
        → list_any test (cond here rows (row ∷ remove_first sought rows) ++ map change (cons_option (cond here (Some row) (find sought rows)) [])) ≡ (test row || list_any test rows)
    by true rest =
        list_any-append test rows (change row ∷ [])
        ∙ ap (λ (t : Bool). list_any test rows || (t || false)) (unseen row)
        ∙ swapped (list_any test rows) (test row)
    by false rest = ap (λ (t : Bool). test row || t) rest

module _ (w : Gateway) (settled : IsSettled w) (order : HasCidsApart w) (host name : List ℕ) where
  abbrev looked_for : RememberedSearch → Bool
  looked_for = same_search host name

  abbrev moved : List RememberedSearch
  moved = remove_first looked_for w.searches ++ map refreshed (cons_option (find looked_for w.searches) [])

  abbrev made_anew : List RememberedSearch
  made_anew = change_first looked_for refreshed w.searches

  abbrev added : List RememberedSearch
  added = w.searches ++ made_now host name ∷ []

  abbrev replaced : List RememberedSearch
  replaced = without_search (outworn w.limits host w.searches) w.searches ++ made_now host name ∷ []

  moved_settled : IsSettled (record w { searches = moved })
  moved_settled =
      settled_searches moved w (λ to there. any_moved (leads_to w.policy to) looked_for refreshed w.searches (λ row. refl) ∙ there) settled

  made_anew_settled : IsSettled (record w { searches = made_anew })
  made_anew_settled =
      settled_searches made_anew w (λ to there. any_changed (leads_to w.policy to) looked_for refreshed w.searches (λ row. refl) ∙ there) settled

  pub told_after_remembering : consequences (remembered host name w) ≡ consequences_of (left_touches w.policy (left_by_search w.limits host name w.searches)) (remembered host name w)
  told_after_remembering = by (list_any looked_for w.searches) w.limits.makes_room (leb w.limits.searches (length w.searches))
    where
      by : (there room full : Bool)
          → consequences (record w { searches = cond there (cond room moved made_anew) (cond room replaced (cond full w.searches added)) })
          ≡ consequences_of (left_touches w.policy (cond (there || not room) None (outworn w.limits host w.searches)))
          (record w { searches = cond there (cond room moved made_anew) (cond room replaced (cond full w.searches added)) })
      by true true full = settled_stays (record w { searches = moved }) moved_settled
      by true false full = settled_stays (record w { searches = made_anew }) made_anew_settled
      by false false true = settled_stays w settled
      by false false false = settled_stays (record w { searches = added }) (one_search_more (made_now host name) w settled)
      by false true full =
          told_after_replacing w w.searches (made_now host name) (one_search_more (made_now host name) w settled) order (outworn w.limits host w.searches)
          (outworn_is_one w.limits host w.searches)

pub told_after_search : (host name : List ℕ) (w : Gateway) → IsSettled w → HasCidsApart w → consequences (searched host name w) ≡ consequences_of (searched_touches w host name) (searched host name w)
told_after_search host name w settled order =
    elim (is_some (lead_of w.policy host name))
    as (λ t. consequences (cond t (remembered host name w) w)
    ≡ consequences_of (cond t (left_touches w.policy (left_by_search w.limits host name w.searches)) Nothing) (cond t (remembered host name w) w))
    [ true ↦ told_after_remembering w settled order host name | false ↦ settled_stays w settled ]

-- ---- a server's version

-- links don't depend on what servers said of themselves
pub settled_servers : (servers : List Server) (w : Gateway) → IsSettled w → IsSettled (record w { upstream = record w.upstream { servers = servers } })
unfolding update_notice
settled_servers servers w settled = record {
  channels = settled.channels;
  held_back = settled.held_back;
  links = links_quiet w (record w { upstream = record w.upstream { servers = servers } }) (λ name. refl) (λ name there. there) settled;
  reads = settled.reads;
  updates = settled.updates;
}

pub nothing_after_server_version : (w : Gateway) (server minor : ℕ) → IsSettled w → consequences (server_versioned w server minor) ≡ server_versioned w server minor
nothing_after_server_version w server minor settled =
    settled_stays (server_versioned w server minor) (settled_servers (change_first (is_server server) (with_minor minor) w.upstream.servers) w settled)
