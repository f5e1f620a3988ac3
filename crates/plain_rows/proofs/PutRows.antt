use Rattle.std.proofs.Common.{◌≡◌, ℕ, List, [], ◌∷◌, ◌++◌, true, false, cond, None, Some, get_or, set, refl, sym, ap, ◌∙◌}
use Rattle.std.specs.List.{find, position}
use Rattle.rows.proofs.RowLemmas.{find_is_there, find_none, set_is_change_first}
use Rattle.rows.specs.Rows.{change_first}
use Rattle.value_cache.specs.Held.{Held, nothing}
use Rattle.gateway_state.specs.CachedRows.{is_cached_of, put_row}
use Rattle.gateway_state.specs.declared.cached.LastMessage.{LastMessage}

-- a row with what it holds changed
abbrev with_change : (Held → Held) → LastMessage → LastMessage
with_change change row = record row { held = change row.held }

changed_there : (server cid : ℕ) (change : Held → Held) (rows : List LastMessage) (row : LastMessage) → find (is_cached_of cid) rows ≡ Some row → change_first (is_cached_of cid) (with_change change) rows ≡ put_row server cid change rows
changed_there server cid change [] row e = cc
changed_there server cid change (first ∷ rows) row e =
    elim (is_cached_of cid first) as (λ t. cond t (Some first) (find (is_cached_of cid) rows) ≡ Some row → cond t (with_change change first ∷ rows) (first ∷ change_first (is_cached_of cid) (with_change change) rows) ≡ cond t (with_change change first ∷ rows) (first ∷ put_row server cid change rows))
    [ true ↦ λ _. refl | false ↦ λ h. ap (λ rest. first ∷ rest) (changed_there server cid change rows row h) ] e

-- the link's row is changed where it stands
pub set_is_put_row : (server cid : ℕ) (change : Held → Held) (rows : List LastMessage) (i : ℕ) (row new : LastMessage) → position (is_cached_of cid) rows ≡ Some i → row ≡ get_or rows i row → new ≡ record row { held = change row.held } → set rows i new ≡ put_row server cid change rows
set_is_put_row server cid change rows i row new e here is =
    set_is_change_first (is_cached_of cid) (with_change change) rows i row new e here is
    ∙ changed_there server cid change rows row (find_is_there (is_cached_of cid) rows i row e here)

last_where_none : (server cid : ℕ) (change : Held → Held) (rows : List LastMessage) → find (is_cached_of cid) rows ≡ None → rows ++ record { server = server; cid = cid; held = change nothing } ∷ [] ≡ put_row server cid change rows
last_where_none server cid change [] e = refl
last_where_none server cid change (first ∷ rows) e =
    elim (is_cached_of cid first) as (λ t. cond t (Some first) (find (is_cached_of cid) rows) ≡ None → first ∷ (rows ++ record { server = server; cid = cid; held = change nothing } ∷ []) ≡ cond t (with_change change first ∷ rows) (first ∷ put_row server cid change rows))
    [ true ↦ λ h. cc | false ↦ λ h. ap (λ rest. first ∷ rest) (last_where_none server cid change rows h) ] e

-- where it has none, it gets a last one
pub put_row_none : (server cid : ℕ) (change : Held → Held) (rows : List LastMessage) → position (is_cached_of cid) rows ≡ None → rows ++ record { server = server; cid = cid; held = change nothing } ∷ [] ≡ put_row server cid change rows
put_row_none server cid change rows e = last_where_none server cid change rows (find_none (is_cached_of cid) rows e)
