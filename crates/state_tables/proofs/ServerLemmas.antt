-- The servers of last messages, and that these are listed under them.
use Rattle.std.proofs.Common.{◌≡◌, ℕ, ◌<◌, List, [], ◌∷◌, ◌++◌, true, false, not, cond, ◌&&◌, ◌||◌, ◌==◌, Option, Some, None, is_some, length, refl, sym, ap, ◌∙◌}
use Rattle.std.specs.Cmp.{nat_eq_equiv}
use Rattle.std.specs.List.{find, filter, list_any}
use Rattle.std.proofs.lemmas.Bool.{eqb-true}
use Rattle.rows.specs.Rows.{change_first}
use Rattle.row_index.specs.declared.key.Key.{Key}
use Rattle.row_index.specs.Rows.{lacks_key, is_owned_by, value_at}
use Rattle.named_rows.proofs.Lists.{absent_is_unfound, found_changed, found_where_any}
use Rattle.link_table.proofs.OwnerLemmas.{one_less, others_are_all}
use Rattle.link_table.proofs.ValueLemmas.{find_among_fewer, find_at_end, find_left_out, find_not_at_end}
use Rattle.link_table.specs.LinkIndex.{key}
use Rattle.value_cache.specs.Held.{Held}
use Rattle.gateway_state.specs.declared.cached.LastMessage.{LastMessage}
use Rattle.gateway_state.specs.CachedRows.{is_cached_of, is_cached_elsewhere, is_cached_by_another}
use Rattle.state_tables.specs.LatestRows.{AreApart, AreListed, is_listed, is_server, server_in, server_of, with_held}
use Rattle.state_tables.proofs.ListedLemmas.{ids_with_fewer, ids_with_more, listed_with_fewer, listed_with_more, none_from_test, unowned}

-- a row of one link isn't of another
other_link : (cid c : ℕ) → cid == c ≡ false → (row : LastMessage) → is_cached_of c row ≡ true → is_cached_of cid row ≡ false
other_link cid c apart row here =
    let is : row.cid ≡ c = eqb-true row.cid c here in
    ap (λ x. x == cid) is ∙ nat_eq_equiv.symm c cid ∙ apart

-- the server of a link's message, once those of a link are gone
pub server_without : (cid c : ℕ) (rows : List LastMessage) → server_of c (filter (is_cached_elsewhere cid) rows) ≡ cond (cid == c) None (server_of c rows)
server_without cid c rows =
    elim (cid == c) as (λ t. cid == c ≡ t → server_of c (filter (is_cached_elsewhere cid) rows) ≡ cond t None (server_of c rows)) [
      | true ↦ λ h.
          let is : cid ≡ c = eqb-true cid c h in
          ap (λ x. server_of c (filter (is_cached_elsewhere x) rows)) is ∙ ap server_in (find_left_out (is_cached_of c) rows)
      | false ↦ λ h. ap server_in (find_among_fewer (is_cached_of c) (is_cached_of cid) (other_link cid c h) rows)
    ] refl

-- and once a link that had no row has one
server_with : (row : LastMessage) (c : ℕ) (rows : List LastMessage) → find (is_cached_of row.cid) rows ≡ None → server_of c (rows ++ row ∷ []) ≡ cond (row.cid == c) (Some row.server) (server_of c rows)
server_with row c rows none =
    elim (row.cid == c) as (λ t. row.cid == c ≡ t → server_of c (rows ++ row ∷ []) ≡ cond t (Some row.server) (server_of c rows)) [
      | true ↦ λ h. ap server_in (find_at_end (is_cached_of c) row h rows (ap (λ x. find (is_cached_of x) rows) (sym (eqb-true row.cid c h)) ∙ none))
      | false ↦ λ h. ap server_in (find_not_at_end (is_cached_of c) row h rows)
    ] refl

-- a row that is changed is of the same server
pub listed_changed : (cid : ℕ) (f : Held → Held) (rows : List LastMessage) (listed : List (Key × ℕ)) → AreListed rows listed → AreListed (change_first (is_cached_of cid) (with_held f) rows) listed
listed_changed cid f rows listed are = record {
  ids = are.ids;
  exact = λ server c. are.exact server c ∙ ap (is_server server) (sym (found_changed (is_cached_of cid) (with_held f) (is_cached_of c) server_in (λ row. refl) (λ row. refl) rows));
}

-- a key with another ID isn't listed with it
beside : (server other : ℕ) (row_cid cid : ℕ) → row_cid == cid ≡ false → (server == other && cid == row_cid) ≡ false
beside server other row_cid cid apart =
    ap (λ t. server == other && t) (nat_eq_equiv.symm cid row_cid ∙ apart)
    ∙ elim (server == other) as (λ s. (s && false) ≡ false) [ true ↦ refl | false ↦ refl ]

-- nothing is listed of a link without a row
pub unlisted : (server cid : ℕ) (rows : List LastMessage) (listed : List (Key × ℕ)) → find (is_cached_of cid) rows ≡ None → AreListed rows listed → value_at (key server cid) listed ≡ None
unlisted server cid rows listed none are =
    none_from_test (value_at (key server cid) listed) (are.exact server cid ∙ ap (λ o. is_server server (server_in o)) none)

-- the row of a link that had none
pub listed_new : (row : LastMessage) (rows : List LastMessage) (listed : List (Key × ℕ)) → find (is_cached_of row.cid) rows ≡ None → AreListed rows listed → AreListed (rows ++ row ∷ []) (listed ++ (key row.server row.cid, row.cid) ∷ [])
listed_new row rows listed none are =
    let new = unlisted row.server row.cid rows listed none are in
    let more = listed ++ (key row.server row.cid, row.cid) ∷ [] in
    record {
      ids = ids_with_more row.server row.cid listed are.ids;
      exact = λ server cid.
          elim (row.cid == cid) as (λ t. row.cid == cid ≡ t → is_listed server cid more ≡ is_server server (cond t (Some row.server) (server_of cid rows))) [
            | true ↦ λ h.
                let is : row.cid ≡ cid = eqb-true row.cid cid h in
                ap (λ x. is_listed server x more) (sym is)
                ∙ listed_with_more (key server row.cid) row.server row.cid listed new
                ∙ ap (λ t. (server == row.server && t) || is_listed server row.cid listed) (nat_eq_equiv.refl row.cid)
                ∙ ap (λ t. (server == row.server && true) || t) (are.exact server row.cid ∙ ap (λ o. is_server server (server_in o)) none)
                ∙ elim (server == row.server) as (λ t. ((t && true) || false) ≡ t) [ true ↦ refl | false ↦ refl ]
                ∙ nat_eq_equiv.symm server row.server
            | false ↦ λ h.
                listed_with_more (key server cid) row.server row.cid listed new
                ∙ ap (λ t. t || is_listed server cid listed) (beside server row.server row.cid cid h)
                ∙ are.exact server cid
          ] refl
          ∙ ap (is_server server) (sym (server_with row cid rows none));
    }

gone_here : (server before : ℕ) → (not (server == before && true) && (before == server)) ≡ false
gone_here server before =
    ap (λ t. not (server == before && true) && t) (nat_eq_equiv.symm before server)
    ∙ elim (server == before) as (λ t. (not (t && true) && t) ≡ false) [ true ↦ refl | false ↦ refl ]

-- without a link's message its entry is gone
pub listed_less : (before cid : ℕ) (rows : List LastMessage) (listed : List (Key × ℕ)) → server_of cid rows ≡ Some before → AreListed rows listed → AreListed (filter (is_cached_elsewhere cid) rows) (filter (lacks_key (key before cid)) listed)
listed_less before cid rows listed is are = record {
  ids = ids_with_fewer (lacks_key (key before cid)) listed are.ids;
  exact = λ server c.
      listed_with_fewer (key server c) (key before cid) listed
      ∙ elim (cid == c) as (λ t. cid == c ≡ t → (not (server == before && c == cid) && is_listed server c listed) ≡ is_server server (cond t None (server_of c rows))) [
        | true ↦ λ h.
            let same : cid ≡ c = eqb-true cid c h in
            ap (λ x. not (server == before && x == cid) && is_listed server x listed) (sym same)
            ∙ ap (λ t. not (server == before && t) && is_listed server cid listed) (nat_eq_equiv.refl cid)
            ∙ ap (λ t. not (server == before && true) && t) (are.exact server cid ∙ ap (is_server server) is)
            ∙ gone_here server before
        | false ↦ λ h. ap (λ t. not t && is_listed server c listed) (beside server before cid c h) ∙ are.exact server c
      ] refl
      ∙ ap (is_server server) (sym (server_without cid c rows));
}

-- the rows of others, once the message of a server's link is gone
pub others_kept : (server cid : ℕ) (rows : List LastMessage) → AreApart rows → is_server server (server_of cid rows) ≡ true → filter (is_cached_by_another server) (filter (is_cached_elsewhere cid) rows) ≡ filter (is_cached_by_another server) rows
others_kept server cid [] apart here = refl
others_kept server cid (row ∷ rows) apart here =
    let rest = filter (is_cached_elsewhere cid) rows in
    elim (is_cached_of cid row) as (λ t. is_cached_of cid row ≡ t → is_server server (server_in (cond t (Some row) (find (is_cached_of cid) rows))) ≡ true → filter (is_cached_by_another server) (cond (not t) (row ∷ rest) rest) ≡ filter (is_cached_by_another server) (row ∷ rows)) [
      | true ↦ λ h its.
          let none : list_any (is_cached_of cid) rows ≡ false = ap (λ c. list_any (is_cached_of c) rows) (sym (eqb-true row.cid cid h)) ∙ apart.0 in
          ap (filter (is_cached_by_another server)) (others_are_all (is_cached_of cid) rows none)
          ∙ ap (λ t. cond (not t) (row ∷ filter (is_cached_by_another server) rows) (filter (is_cached_by_another server) rows)) (sym its)
      | false ↦ λ h later. ap (λ xs. cond (is_cached_by_another server row) (row ∷ xs) xs) (others_kept server cid rows apart.1 later)
    ] refl here

some_server : (server : ℕ) (o : Option LastMessage) → is_server server (server_in o) ≡ true → is_some o ≡ true
some_server server None e = cc
some_server server (Some row) e = refl

-- and there are fewer
pub one_fewer : (server cid : ℕ) (rows : List LastMessage) → is_server server (server_of cid rows) ≡ true → length (filter (is_cached_elsewhere cid) rows) < length rows
one_fewer server cid rows here =
    one_less (is_cached_of cid) rows (sym (found_where_any (is_cached_of cid) rows) ∙ some_server server (find (is_cached_of cid) rows) here)

-- where there is no server, there is no message
pub no_server : (o : Option LastMessage) → server_in o ≡ None → o ≡ None
no_server None e = refl
no_server (Some row) e = cc

-- all rows are of others, where no link's message is of the server
none_by : (server : ℕ) (rows : List LastMessage) → AreApart rows → ((cid : ℕ) → is_server server (server_of cid rows) ≡ false) → filter (is_cached_by_another server) rows ≡ rows
none_by server [] apart none = refl
none_by server (row ∷ rows) apart none =
    let first : row.server == server ≡ false = ap (λ t. is_server server (server_in (cond t (Some row) (find (is_cached_of row.cid) rows)))) (sym (nat_eq_equiv.refl row.cid)) ∙ none row.cid in
    let later : (cid : ℕ) → is_server server (server_of cid rows) ≡ false = λ cid.
    elim (is_cached_of cid row) as (λ t. is_cached_of cid row ≡ t → is_server server (server_in (cond t (Some row) (find (is_cached_of cid) rows))) ≡ false → is_server server (server_of cid rows) ≡ false) [
      | true ↦ λ h _.
          let absent : list_any (is_cached_of cid) rows ≡ false = ap (λ c. list_any (is_cached_of c) rows) (sym (eqb-true row.cid cid h)) ∙ apart.0 in
          ap (λ o. is_server server (server_in o)) (absent_is_unfound (is_cached_of cid) rows absent)
      | false ↦ λ h e. e
    ] refl (none cid)
    in
    ap (λ t. cond (not t) (row ∷ filter (is_cached_by_another server) rows) (filter (is_cached_by_another server) rows)) first
    ∙ ap (λ xs. row ∷ xs) (none_by server rows apart.1 later)

-- so it is where nothing is listed under it
pub none_listed : (server : ℕ) (rows : List LastMessage) (listed : List (Key × ℕ)) → AreApart rows → AreListed rows listed → list_any (is_owned_by server) listed ≡ false → filter (is_cached_by_another server) rows ≡ rows
none_listed server rows listed apart are none =
    none_by server rows apart (λ cid. sym (are.exact server cid) ∙ unowned server cid listed none)
