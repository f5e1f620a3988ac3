-- The rows of waiting writes.
use Rattle.std.specs.Prelude.{ℕ, Bool, not, ◌&&◌, ◌==◌}
use Rattle.link_table.specs.declared.writes.WaitingWrite.{WaitingWrite}

-- a write to this server
abbrev pub is_write_to : ℕ → WaitingWrite → Bool
is_write_to server row = row.server == server

-- a write to another
abbrev pub is_not_write_to : ℕ → WaitingWrite → Bool
is_not_write_to server row = not (is_write_to server row)

-- the write to this server with this ID
abbrev pub is_write : ℕ → ℕ → WaitingWrite → Bool
is_write server id row = is_write_to server row && row.id == id

-- another write
abbrev pub is_not_write : ℕ → ℕ → WaitingWrite → Bool
is_not_write server id row = not (is_write server id row)

-- a write of this session
abbrev pub is_write_of : ℕ → WaitingWrite → Bool
is_write_of session row = row.session == session

-- a write of another
abbrev pub is_not_write_of : ℕ → WaitingWrite → Bool
is_not_write_of session row = not (is_write_of session row)

-- a write on the session's channel of this ID
abbrev pub is_write_on : ℕ → ℕ → WaitingWrite → Bool
is_write_on session sid row = is_write_of session row && row.sid == sid

-- a write on another
abbrev pub is_not_write_on : ℕ → ℕ → WaitingWrite → Bool
is_not_write_on session sid row = not (is_write_on session sid row)
