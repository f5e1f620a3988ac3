-- What an access security file says, and what it grants (EPICS: Application Developer's Guide, Access Security).
use Rattle.std.specs.Prelude.{ℕ, Bool, true, false, ◌||◌, ◌&&◌, ◌==◌, nat_lt, if◌then◌else◌, List, length, fold, bytes_eq, codes, Option, Some, None}
use Rattle.std.specs.List.{filter, list_any, slice_get}
use Rattle.std.specs.Map.{lookup}
use Rattle.std.specs.Option.{option_map}
use Rattle.pv_name.specs.Host.{same_host}
use Rattle.access_file.specs.Named.{value_in}
use Rattle.access_file.specs.declared.rule.Grant.{Grant}
use Rattle.access_file.specs.declared.rule.Level.{Level}
use Rattle.access_file.specs.declared.rule.Level.TheVariants.{Zero, One}
use Rattle.access_file.specs.declared.rule.Right.{Right}
use Rattle.access_file.specs.declared.rule.Right.TheVariants as right
use Rattle.access_file.specs.declared.rule.Rule.{Rule}

-- groups of users (UAG), groups of hosts (HAG), security groups (ASG) with their rules, each in the order of the file
pub record AccessGroups : Type 0 where
  pub users : List (List ℕ × List (List ℕ))
  pub hosts : List (List ℕ × List (List ℕ))
  pub groups : List (List ℕ × List Rule)

-- names are compared byte by byte
abbrev pub is_listed : List (List ℕ) → List ℕ → Bool
is_listed names name = list_any (λ listed. bytes_eq listed name) names

-- hosts are compared but for the case of ASCII letters
abbrev pub is_host_listed : List (List ℕ) → List ℕ → Bool
is_host_listed names host = list_any (λ listed. same_host listed host) names

-- the user is in the group of users; nobody is in one that isn't defined
abbrev pub user_among : Option (List (List ℕ)) → List ℕ → Bool
user_among None user = false
user_among (Some names) user = is_listed names user

abbrev pub is_user_in : AccessGroups → List ℕ → List ℕ → Bool
is_user_in file user group = user_among (lookup (bytes_eq group) file.users) user

-- one of the hosts is in the group of hosts: those are what one client counts as
abbrev pub host_among : Option (List (List ℕ)) → List (List ℕ) → Bool
host_among None hosts = false
host_among (Some names) hosts = list_any (is_host_listed names) hosts

abbrev pub is_host_in : AccessGroups → List (List ℕ) → List ℕ → Bool
is_host_in file hosts group = host_among (lookup (bytes_eq group) file.hosts) hosts

-- a rule that names no group of users speaks to every user, else to those in any of the groups
abbrev pub speaks_to_users : AccessGroups → List ℕ → List (List ℕ) → Bool
speaks_to_users file user groups = length groups == 0 || list_any (is_user_in file user) groups

-- the same of hosts
abbrev pub speaks_to_hosts : AccessGroups → List (List ℕ) → List (List ℕ) → Bool
speaks_to_hosts file hosts groups = length groups == 0 || list_any (is_host_in file hosts) groups

-- a rule speaks of fields of its level and below
abbrev pub covers : Level → Level → Bool
covers One level = true
covers Zero Zero = true
covers Zero One = false

abbrev pub applies : AccessGroups → List ℕ → List (List ℕ) → Level → Rule → Bool
applies file user hosts level rule =
    covers rule.level level && speaks_to_users file user rule.users && speaks_to_hosts file hosts rule.hosts

-- a right as Channel Access tells it, bit 0 to read and bit 1 to write: greater rights are greater numbers
abbrev pub right_bits : Right → ℕ
right_bits right.None = 0
right_bits right.Read = 1
right_bits right.Write = 3

-- nothing may be done
abbrev pub no_grant : Grant
no_grant = record { right = right.None; recorded = false }

-- the second only where its right is greater: of equal rights the first holds
abbrev pub better : Grant → Grant → Grant
better best other = if nat_lt (right_bits best.right) (right_bits other.right) then other else best

abbrev pub better_by : Grant → Rule → Grant
better_by best rule = better best rule.grant

-- the best of what the rules grant that apply
abbrev pub granted_by : AccessGroups → List ℕ → List (List ℕ) → Level → List Rule → Grant
granted_by file user hosts level rules = fold better_by no_grant (filter (applies file user hosts level) rules)

abbrev pub or_default : Option (List Rule) → Option (List Rule) → Option (List Rule)
or_default None otherwise = otherwise
or_default (Some rules) otherwise = Some rules

-- the rules of the group; where there is no such group, those of DEFAULT, if there is one
abbrev pub rules_of : List (List ℕ × List Rule) → List ℕ → Option (List Rule)
rules_of groups name = or_default (lookup (bytes_eq name) groups) (lookup (bytes_eq (codes "DEFAULT")) groups)

abbrev pub granted_among : AccessGroups → List ℕ → List (List ℕ) → Level → Option (List Rule) → Grant
granted_among file user hosts level None = no_grant
granted_among file user hosts level (Some rules) = granted_by file user hosts level rules

-- what the user may do with fields of the level, where they are in the group, on a host that counts as these
abbrev pub granted : AccessGroups → List ℕ → List (List ℕ) → List ℕ → Level → Grant
granted file user hosts group level = granted_among file user hosts level (rules_of file.groups group)

-- what the group of hosts of this number lists, counted from 0 in the order of the file
abbrev pub listed_hosts : AccessGroups → ℕ → Option (List (List ℕ))
listed_hosts file number = option_map value_in (slice_get file.hosts number)
