-- A host that has no name counts as itself, and as no other.
use Rattle.std.proofs.Common.{◌≡◌, ℕ, List, [], ◌∷◌, Option, Some, None, bytes_eq, refl}
use Rattle.std.proofs.Math.Bool.{or-false}
use Rattle.std.specs.Map.{lookup}
use Rattle.access_file.specs.Groups.{AccessGroups, host_among, is_host_in, is_host_listed}
use Rattle.access_file.specs.HostNames.{hosts_of}
use Rattle.access_file.specs.WithoutNames.{is_listed_in}

pub itself_alone : (host : List ℕ) → hosts_of [] host ≡ host ∷ []
unfolding hosts_of
itself_alone host = refl

pub listed_alone : (file : AccessGroups) (host group : List ℕ) → is_host_in file (host ∷ []) group ≡ is_listed_in (lookup (bytes_eq group) file.hosts) host
listed_alone file host group = by (lookup (bytes_eq group) file.hosts)
  where
    by : (listed : Option (List (List ℕ))) → host_among listed (host ∷ []) ≡ is_listed_in listed host
    by None = refl
    by (Some names) = or-false (is_host_listed names host)
