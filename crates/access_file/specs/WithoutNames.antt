-- Hosts that have no names.
use Rattle.std.specs.Prelude.{ℕ, Bool, false, List, Option, Some, None}
use Rattle.access_file.specs.Groups.{is_host_listed}

-- the host itself is in the group of hosts; no host is in one that isn't defined
abbrev pub is_listed_in : Option (List (List ℕ)) → List ℕ → Bool
is_listed_in None host = false
is_listed_in (Some names) host = is_host_listed names host
