-- What a name leads to under the rules of a rule file (user's guide, PVLIST). Names, hosts and groups are the lists of
-- their bytes.
use Rattle.std.specs.Prelude.{ℕ, Bool, true, false, ◌||◌, ◌==◌, if◌then◌else◌, List, length, filter, Option, Some, None, option_map, option_and_then}
use Rattle.std.specs.List.{list_any, last_or}
use Rattle.pvlist.specs.declared.row.Row.{Row}
use Rattle.pvlist.specs.declared.row.Security.{Security}
use Rattle.pvlist.specs.declared.row.Verb.{Verb}
use Rattle.pvlist.specs.declared.row.Verb.TheVariants.{Allow, Alias, Deny}
use Rattle.pvlist.specs.declared.rules.Order.{Order}
use Rattle.pvlist.specs.declared.rules.Order.TheVariants.{AllowDeny, DenyAllow}
use Rattle.pvlist.specs.Hosts.{lists_host}
use Rattle.pvlist.specs.RuleLine.{no_group}
use Rattle.pvlist.specs.Ruling.{Ruling, matches}
use Rattle.regex.specs.declared.string.regex.Regex.{Regex}
use Rattle.pv_alias.specs.RealName.{real_name}
use Rattle.pv_alias.specs.declared.lead.Lead.{Lead}

-- the rows that match the name, in order
abbrev pub matching : List Row → List ℕ → List Row
matching rows name = filter (λ (row : Row). matches row name) rows

-- a DENY that lists one of the hosts, in any case of its letters: those are what one client counts as
abbrev pub denies_host : List (List ℕ) → Verb → Bool
denies_host hosts (Deny listed) = list_any (lists_host listed) hosts
denies_host hosts (Allow security) = false
denies_host hosts (Alias real security) = false

-- a DENY without hosts
abbrev pub denies_all : Verb → Bool
denies_all (Deny hosts) = length hosts == 0
denies_all (Allow security) = false
denies_all (Alias real security) = false

-- a DENY refuses the hosts that it lists under both orders; without hosts it refuses all, but only where ALLOW comes
-- before DENY
abbrev pub refuses : Order → List (List ℕ) → Verb → Bool
refuses AllowDeny hosts verb = denies_host hosts verb || denies_all verb
refuses DenyAllow hosts verb = denies_host hosts verb

-- one of the rows refuses
abbrev pub is_refused : Order → List (List ℕ) → List Row → Bool
is_refused order hosts rows = list_any (λ (row : Row). refuses order hosts row.verb) rows

-- an ALLOW or an ALIAS
abbrev pub is_grant : Verb → Bool
is_grant (Allow security) = true
is_grant (Alias real security) = true
is_grant (Deny hosts) = false

-- the last of them decides
abbrev pub deciding : List Row → Option Row
deciding rows = last_or None (filter (λ (row : Row). is_grant row.verb) rows)

-- to this real name, by a row of this group and level; that says nothing of who asks
abbrev pub lead_to : List ℕ → Security → Lead
lead_to real security = record { real = real; group = security.group; level = security.level; grant = None }

-- where a row leads: an ALLOW to the name itself, an ALIAS to its real name
abbrev pub leads : List ℕ → Regex → Verb → Option Lead
leads name regex (Allow security) = Some (lead_to name security)
leads name regex (Alias real security) = option_map (λ bytes. lead_to bytes security) (real_name name regex real)
leads name regex (Deny hosts) = None

abbrev pub lead_by : List ℕ → Row → Option Lead
lead_by name row = leads name row.pattern row.verb

-- where the rows lead that match the name
abbrev pub lead_among : Order → List (List ℕ) → List ℕ → List Row → Option Lead
lead_among order hosts name rows =
    if is_refused order hosts rows then None else option_and_then (lead_by name) (deciding rows)

-- where the name leads that a client asks for, whose host counts as these, and by which group and level; nothing where it
-- is refused
unfoldable pub resolution : Ruling → List (List ℕ) → List ℕ → Option Lead
resolution rules hosts name =
    if rules.is_open then Some (lead_to name no_group)
    else lead_among rules.order hosts name (matching rules.rows name)
