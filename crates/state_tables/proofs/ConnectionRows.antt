-- Connections under their keys: a look-up by a key is a look-up by the connection.
use Rattle.std.proofs.Common.{◌≡◌, List, [], ◌∷◌, ◌++◌, Bool, true, false, cond, not, is_some, ◌==◌, ◌&&◌, Some, None, map, Result, Ok, Err, OnOk, OnErr, refl, sym, ap, ◌∙◌}
use Rattle.std.specs.List.{find, filter, list_any}
use Rattle.std.specs.Option.{option_map}
use Rattle.rows.specs.Rows.{change_first}
use Rattle.rows.proofs.RowLemmas.{change_first_unfound}
use Rattle.row_index.specs.declared.key.Key.{Key}
use Rattle.row_index.specs.Rows.{same_key, has_key, lacks_key, value_at, put_at, row_of}
use Rattle.row_index.proofs.Keys.{unmapped}
use Rattle.named_rows.specs.Indexes.{changed_by}
use Rattle.named_rows.proofs.Keyed.{put_is_change, keyed_again, entry_found, entry_absent, under_more, under_less, under_change, rows_more, rows_less, rows_changed}
use Rattle.named_rows.proofs.Lists.{found_where_any}
use Rattle.gateway_state.specs.declared.event.Dest.{Dest}
use Rattle.gateway_state.specs.declared.event.Dest.TheVariants.{Session, Upstream}
use Rattle.gateway_state.specs.declared.connections.Connection.{Connection}
use Rattle.state_tables.specs.ConnectionKeys.{key_of, connection_key, AreKeyed}
use Rattle.gateway_state.specs.Connections.{same_dest, is_to, is_not_to, outbox_of}

pub and_true : (b : Bool) → (b && true) ≡ b
and_true true = refl
and_true false = refl

and_false : (b : Bool) → (b && false) ≡ false
and_false true = refl
and_false false = refl

-- whether a connection goes on is seen in its row
pub acts_there : (dest : Dest) (rows : List Connection) (row : Connection) → find (is_to dest) rows ≡ Some row → not row.outbox.marked ≡ (list_any (is_to dest) rows && not (outbox_of dest rows).marked)
acts_there dest rows row found =
    let stands : list_any (is_to dest) rows ≡ true = sym (found_where_any (is_to dest) rows) ∙ ap is_some found in
    rw (stands, found) refl

pub acts_nowhere : (dest : Dest) (rows : List Connection) → find (is_to dest) rows ≡ None → false ≡ (list_any (is_to dest) rows && not (outbox_of dest rows).marked)
acts_nowhere dest rows none =
    let stands : list_any (is_to dest) rows ≡ false = sym (found_where_any (is_to dest) rows) ∙ ap is_some none in
    rw stands refl

-- the same key is the same connection
same_keys : (a b : Dest) → same_key (key_of a) (key_of b) ≡ same_dest a b
same_keys (Session m) (Session n) = and_true (m == n)
same_keys (Upstream m) (Upstream n) = and_true (m == n)
same_keys (Session m) (Upstream n) = and_false (m == n)
same_keys (Upstream m) (Session n) = and_false (m == n)

has_key_of : (dest : Dest) (k : Key) → k ≡ key_of dest → (λ (row : Connection). same_key (connection_key row) k) ≡ is_to dest
has_key_of dest k is = rw is (λ i row. same_keys row.dest dest i)

-- a row that is written under a key is the row that was there changed
pub written_is_changed : {V : Type 0} (k : Key) (f : V → V) (entries : List (Key × V)) (row new : V) → Some row ≡ value_at k entries → new ≡ f row → put_at k entries new ≡ change_first (has_key k) (changed_by f) entries
written_is_changed k f entries row new found is = ap (put_at k entries) is ∙ put_is_change k f entries row (sym found)

-- written as it was, it stays
pub written_again : {V : Type 0} (k : Key) (entries : List (Key × V)) (row new : V) → Some row ≡ value_at k entries → new ≡ row → put_at k entries new ≡ entries
written_again k [] row new found is = refl
written_again k (entry ∷ entries) row new found is =
    elim (has_key k entry) as (λ t. Some row ≡ option_map row_of (cond t (Some entry) (find (has_key k) entries)) → cond t ((entry.0, new) ∷ entries) (entry ∷ put_at k entries new) ≡ entry ∷ entries) [
      | true ↦ λ h. let here : new ≡ entry.1 = cc in ap (λ v. (entry.0, v) ∷ entries) here
      | false ↦ λ h. ap (λ rest. entry ∷ rest) (written_again k entries row new h is)
    ] found

-- where the key finds nothing, nothing changes
pub unfound_unchanged : {V : Type 0} (k : Key) (f : V → V) (entries : List (Key × V)) → None ≡ value_at k entries → entries ≡ change_first (has_key k) (changed_by f) entries
unfound_unchanged k f entries none =
    sym (change_first_unfound (has_key k) (changed_by f) entries (unmapped row_of (find (has_key k) entries) (sym none)))

-- What holds of connections that are each under its key.
module _ (entries : List (Key × Connection)) (keyed : AreKeyed entries) (dest : Dest) (k : Key) (is_key : k ≡ key_of dest) where
  pub found_by_key : value_at k entries ≡ find (is_to dest) (map row_of entries)
  found_by_key = entry_found connection_key entries keyed k ∙ ap (λ p. find p (map row_of entries)) (has_key_of dest k is_key)

  pub any_by_key : is_some (value_at k entries) ≡ list_any (is_to dest) (map row_of entries)
  any_by_key = ap is_some found_by_key ∙ found_where_any (is_to dest) (map row_of entries)

  pub none_by_key : list_any (is_to dest) (map row_of entries) ≡ false → value_at k entries ≡ None
  none_by_key none = entry_absent connection_key entries keyed k (ap (λ p. list_any p (map row_of entries)) (has_key_of dest k is_key) ∙ none)

  pub keyed_less : (new : List (Key × Connection)) → new ≡ filter (lacks_key k) entries → AreKeyed new
  keyed_less new is = keyed_again connection_key new (filter (λ row. not (same_key (connection_key row) k)) (map row_of entries)) (under_less connection_key entries keyed k new is)

  pub connections_less : (new : List (Key × Connection)) → new ≡ filter (lacks_key k) entries → map row_of new ≡ filter (is_not_to dest) (map row_of entries)
  connections_less new is =
      rows_less connection_key entries keyed k new is
      ∙ ap (λ (p : Connection → Bool). filter (λ row. not (p row)) (map row_of entries)) (has_key_of dest k is_key)

  -- one of them changed, but for which connection it is
  module _ (f : Connection → Connection) (same : (row : Connection) → connection_key (f row) ≡ connection_key row) (new : List (Key × Connection)) where
    pub keyed_changed : new ≡ change_first (has_key k) (changed_by f) entries → AreKeyed new
    keyed_changed is =
        keyed_again connection_key new (change_first (λ row. same_key (connection_key row) k) f (map row_of entries))
        (under_change connection_key entries keyed k f new same is)

    pub connections_changed : new ≡ change_first (has_key k) (changed_by f) entries → map row_of new ≡ change_first (is_to dest) f (map row_of entries)
    connections_changed is =
        rows_changed connection_key entries keyed k f new same is ∙ ap (λ p. change_first p f (map row_of entries)) (has_key_of dest k is_key)

    -- unless what changes it fails
    pub keyed_either : {T E : Type 0} (r : Result T E) → OnOk r (new ≡ change_first (has_key k) (changed_by f) entries) → OnErr r (new ≡ entries) → AreKeyed new
    keyed_either (Ok _) ok err = keyed_changed ok
    keyed_either (Err _) ok err = keyed_again connection_key new (map row_of entries) (err ∙ keyed)

    pub changed_if_ok : {T E : Type 0} (r : Result T E) → OnOk r (new ≡ change_first (has_key k) (changed_by f) entries) → OnOk r (map row_of new ≡ change_first (is_to dest) f (map row_of entries))
    changed_if_ok (Ok _) ok = connections_changed ok
    changed_if_ok (Err _) ok = tt

-- one more, unless that is refused
module _ (entries : List (Key × Connection)) (keyed : AreKeyed entries) (row : Connection) (k : Key) (is_key : k ≡ connection_key row) (new : List (Key × Connection)) where
  pub keyed_more : {T E : Type 0} (r : Result T E) → OnOk r (new ≡ entries ++ (k, row) ∷ []) → OnErr r (new ≡ entries) → AreKeyed new
  keyed_more (Ok _) ok err = keyed_again connection_key new (map row_of entries ++ row ∷ []) (under_more connection_key entries keyed row new (ok ∙ ap (λ j. entries ++ (j, row) ∷ []) is_key))
  keyed_more (Err _) ok err = keyed_again connection_key new (map row_of entries) (err ∙ keyed)

  pub connections_more : {T E : Type 0} (r : Result T E) → OnOk r (new ≡ entries ++ (k, row) ∷ []) → OnOk r (map row_of new ≡ map row_of entries ++ row ∷ [])
  connections_more (Ok _) ok = rows_more connection_key entries keyed row new (ok ∙ ap (λ j. entries ++ (j, row) ∷ []) is_key)
  connections_more (Err _) ok = tt
