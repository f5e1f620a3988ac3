-- Rows of waiting reads.
use Rattle.std.specs.Prelude.{ℕ, Bool, not, ◌&&◌, ◌==◌}
use Rattle.named_rows.specs.declared.reads.WaitingRead.{WaitingRead}

-- the reads are equal
abbrev pub same_read : WaitingRead → WaitingRead → Bool
same_read a b =
    a.session == b.session && a.sid == b.sid && a.dtype == b.dtype && a.count == b.count && a.ioid == b.ioid

-- a read of the session
abbrev pub is_read_of : ℕ → WaitingRead → Bool
is_read_of session read = read.session == session

-- a read of another
abbrev pub is_not_read_of : ℕ → WaitingRead → Bool
is_not_read_of session read = not (is_read_of session read)

-- a read on the session's channel of this ID
abbrev pub is_read_on : ℕ → ℕ → WaitingRead → Bool
is_read_on session sid read = read.session == session && read.sid == sid

-- a read on another
abbrev pub is_not_read_on : ℕ → ℕ → WaitingRead → Bool
is_not_read_on session sid read = not (is_read_on session sid read)
