-- How many seconds pass between two tries to connect.
use Rattle.std.specs.Prelude.{ℕ, nat_le, if◌then◌else◌}
use Rattle.name_server.specs.declared.tries.TheConstants.{CALM}

-- after a connection that stood for so many seconds, where the next gap would be this one
abbrev pub gap_after : ℕ → ℕ → ℕ
gap_after stood gap = if nat_le CALM stood then 1 else gap
