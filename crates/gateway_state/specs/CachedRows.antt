-- The rows of what variables told last.
use Rattle.std.specs.Prelude.{ℕ, List, [], ◌∷◌, Bool, not, ◌==◌, if◌then◌else◌}
use Rattle.value_cache.specs.Held.{Held, nothing, without_properties}
use Rattle.gateway_state.specs.declared.cached.LastMessage.{LastMessage}

-- the row of this link's last messages
abbrev pub is_cached_of : ℕ → LastMessage → Bool
is_cached_of cid row = row.cid == cid

-- the row of another's
abbrev pub is_cached_elsewhere : ℕ → LastMessage → Bool
is_cached_elsewhere cid row = not (is_cached_of cid row)

-- the row of a link of another server
abbrev pub is_cached_by_another : ℕ → LastMessage → Bool
is_cached_by_another server row = not (row.server == server)

-- with what is held of a link changed where it stands, or, where nothing is held, with a last row for it
abbrev pub put_row : ℕ → ℕ → (Held → Held) → List LastMessage → List LastMessage
put_row server cid change [] = record { server = server; cid = cid; held = change nothing } ∷ []
put_row server cid change (row ∷ rows) =
    if is_cached_of cid row then record row { held = change row.held } ∷ rows
    else row ∷ put_row server cid change rows

-- a row without the properties of its variable
abbrev pub without_told : LastMessage → LastMessage
without_told row = record row { held = without_properties row.held }
