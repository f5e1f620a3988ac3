-- The CIDs of last messages under their servers.
use Rattle.std.proofs.Common.{◌≡◌, ℕ, zero, suc, List, [], ◌∷◌, ◌++◌, Bool, true, false, not, cond, ◌&&◌, ◌||◌, ◌==◌, Option, Some, None, is_some, map, length, refl, sym, ap, ◌∙◌}
use Rattle.std.specs.Cmp.{nat_eq_equiv}
use Rattle.std.specs.Prelude.{slice_get}
use Rattle.std.specs.List.{find, filter, list_any, count_by}
use Rattle.std.specs.Option.{option_map}
use Rattle.std.proofs.lemmas.Bool.{and_from, or_parts}
use Rattle.std.proofs.lemmas.List.{length-map}
use Rattle.std.proofs.lemmas.List.Sums.{length-filter}
use Rattle.row_index.specs.declared.key.Key.{Key}
use Rattle.row_index.specs.Rows.{same_key, has_key, lacks_key, is_owned_by, row_of, value_at}
use Rattle.named_rows.proofs.Lists.{found_where_any}
use Rattle.link_table.proofs.ValueLemmas.{same_key_decides, value_of_added, value_beside_added, value_of_removed, value_beside_removed}
use Rattle.link_table.specs.LinkIndex.{key}
use Rattle.state_tables.specs.LatestRows.{HoldIds, is_listed}

some_mapped : (o : Option (Key × ℕ)) → is_some (option_map row_of o) ≡ is_some o
some_mapped None = refl
some_mapped (Some entry) = refl

-- a CID is listed where an entry has its key
pub listed_any : (k : Key) (listed : List (Key × ℕ)) → is_some (value_at k listed) ≡ list_any (has_key k) listed
listed_any k listed = some_mapped (find (has_key k) listed) ∙ found_where_any (has_key k) listed

-- IDs are held once an entry is added, or some are removed
pub ids_with_more : (owner id : ℕ) (listed : List (Key × ℕ)) → HoldIds listed → HoldIds (listed ++ (key owner id, id) ∷ [])
ids_with_more owner id [] ids = (refl, tt)
ids_with_more owner id (entry ∷ later) ids = (ids.0, ids_with_more owner id later ids.1)

pub ids_with_fewer : (q : Key × ℕ → Bool) (listed : List (Key × ℕ)) → HoldIds listed → HoldIds (filter q listed)
ids_with_fewer q [] ids = tt
ids_with_fewer q (entry ∷ later) ids =
    elim (q entry) as (λ t. HoldIds (cond t (entry ∷ filter q later) (filter q later)))
    [ true ↦ (ids.0, ids_with_fewer q later ids.1) | false ↦ ids_with_fewer q later ids.1 ]

-- what is listed once a CID is
pub listed_with_more : (k : Key) (server cid : ℕ) (listed : List (Key × ℕ)) → value_at (key server cid) listed ≡ None → is_some (value_at k (listed ++ (key server cid, cid) ∷ [])) ≡ (same_key k (key server cid) || is_some (value_at k listed))
listed_with_more k server cid listed new =
    elim (same_key k (key server cid)) as (λ t. same_key k (key server cid) ≡ t → is_some (value_at k (listed ++ (key server cid, cid) ∷ [])) ≡ (t || is_some (value_at k listed))) [
      | true ↦ λ h.
          let is : k ≡ key server cid = (same_key_decides k (key server cid)).0 h in
          ap (λ x. is_some (value_at x (listed ++ (key server cid, cid) ∷ []))) is ∙ ap is_some (value_of_added (key server cid) cid listed new)
      | false ↦ λ h. ap is_some (value_beside_added k (key server cid) cid listed h)
    ] refl

-- and once one isn't any more
pub listed_with_fewer : (k gone : Key) (listed : List (Key × ℕ)) → is_some (value_at k (filter (lacks_key gone) listed)) ≡ (not (same_key k gone) && is_some (value_at k listed))
listed_with_fewer k gone listed =
    elim (same_key k gone) as (λ t. same_key k gone ≡ t → is_some (value_at k (filter (lacks_key gone) listed)) ≡ (not t && is_some (value_at k listed))) [
      | true ↦ λ h.
          let is : k ≡ gone = (same_key_decides k gone).0 h in
          ap (λ x. is_some (value_at x (filter (lacks_key gone) listed))) is ∙ ap is_some (value_of_removed gone listed)
      | false ↦ λ h. ap is_some (value_beside_removed k gone listed h)
    ] refl

-- nothing is listed under a server that owns nothing
pub unowned : (server cid : ℕ) (listed : List (Key × ℕ)) → list_any (is_owned_by server) listed ≡ false → is_listed server cid listed ≡ false
unowned server cid [] none = refl
unowned server cid (entry ∷ later) none =
    let parts = or_parts (is_owned_by server entry) (list_any (is_owned_by server) later) none in
    rw parts.0 (unowned server cid later parts.1)

behind : (server cid : ℕ) (entry : Key × ℕ) (later : List (Key × ℕ)) → is_listed server cid later ≡ true → is_listed server cid (entry ∷ later) ≡ true
behind server cid entry later there =
    elim (has_key (key server cid) entry) as (λ t. is_some (option_map row_of (cond t (Some entry) (find (has_key (key server cid)) later))) ≡ true) [ true ↦ refl | false ↦ there ]

got_first : (server n cid : ℕ) (entry : Key × ℕ) (later : List (Key × ℕ)) → entry.0.id ≡ entry.1 → is_owned_by server entry ≡ true → ((m : ℕ) → slice_get (map row_of (filter (is_owned_by server) later)) m ≡ Some cid → is_listed server cid later ≡ true) → slice_get (entry.1 ∷ map row_of (filter (is_owned_by server) later)) n ≡ Some cid → is_listed server cid (entry ∷ later) ≡ true
got_first server zero cid entry later id owned rest e =
    let is : entry.1 ≡ cid = cc in
    let same : entry.0.id == cid ≡ true = ap (λ x. x == cid) (id ∙ is) ∙ nat_eq_equiv.refl cid in
    ap (λ t. is_some (option_map row_of (cond t (Some entry) (find (has_key (key server cid)) later)))) (and_from (entry.0.owner == server) (entry.0.id == cid) owned same)
got_first server (suc n) cid entry later id owned rest e = behind server cid entry later (rest n e)

-- what stands under the server is listed
pub got_listed : (server n cid : ℕ) (listed : List (Key × ℕ)) → HoldIds listed → slice_get (map row_of (filter (is_owned_by server) listed)) n ≡ Some cid → is_listed server cid listed ≡ true
got_listed server n cid [] ids e = cc
got_listed server n cid (entry ∷ later) ids e =
    let rest = filter (is_owned_by server) later in
    elim (is_owned_by server entry) as (λ t. is_owned_by server entry ≡ t → slice_get (map row_of (cond t (entry ∷ rest) rest)) n ≡ Some cid → is_listed server cid (entry ∷ later) ≡ true)
    [ true ↦ λ h got. got_first server n cid entry later ids.0 h (λ m f. got_listed server m cid later ids.1 f) got | false ↦ λ h got. behind server cid entry later (got_listed server n cid later ids.1 got) ] refl e

-- as many rows stand under the server as its entries are
pub owned_count : (server : ℕ) (listed : List (Key × ℕ)) → count_by (is_owned_by server) listed ≡ length (map row_of (filter (is_owned_by server) listed))
owned_count server listed = sym (length-filter (is_owned_by server) listed) ∙ sym (length-map (filter (is_owned_by server) listed) row_of)

pub none_from_test : (o : Option ℕ) → is_some o ≡ false → o ≡ None
none_from_test None e = refl
none_from_test (Some x) e = cc

-- an entry that is added and goes again leaves what was there
pub listed_again : (server cid : ℕ) (listed : List (Key × ℕ)) → value_at (key server cid) listed ≡ None → filter (lacks_key (key server cid)) (listed ++ (key server cid, cid) ∷ []) ≡ listed
listed_again server cid [] new = rw (nat_eq_equiv.refl server, nat_eq_equiv.refl cid) refl
listed_again server cid (entry ∷ later) new =
    let rest = filter (lacks_key (key server cid)) (later ++ (key server cid, cid) ∷ []) in
    elim (has_key (key server cid) entry) as (λ t. option_map row_of (cond t (Some entry) (find (has_key (key server cid)) later)) ≡ None → cond (not t) (entry ∷ rest) rest ≡ entry ∷ later)
    [ true ↦ λ h. cc | false ↦ λ h. ap (λ xs. entry ∷ xs) (listed_again server cid later h) ] new
