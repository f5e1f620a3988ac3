-- Descriptors that are kept for servers.
use Rattle.std.specs.Prelude.{ℕ, ◌+◌, ◌-◌, nat_le, Bool}

-- the last descriptors of a process, one for each server and eight others
abbrev pub is_kept_back : ℕ → ℕ → ℕ → Bool
is_kept_back descriptor most servers = nat_le (most - (servers + 8)) descriptor
