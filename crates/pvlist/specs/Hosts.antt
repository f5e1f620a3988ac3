-- Hosts of a row.
use Rattle.std.specs.Prelude.{ℕ, List, Bool}
use Rattle.std.specs.List.{list_any}
use Rattle.pv_name.specs.Host.{same_host}

-- the host is one of these, but for the case of ASCII letters
abbrev pub lists_host : List (List ℕ) → List ℕ → Bool
lists_host hosts host = list_any (λ listed. same_host listed host) hosts
