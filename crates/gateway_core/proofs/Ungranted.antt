-- Rules lead, and grant nothing.
use Rattle.std.proofs.Common.{◌≡◌, ℕ, List, Bool, true, false, Option, Some, None, refl}
use Rattle.std.specs.Prelude.{IfSome, option_map, option_and_then, if◌then◌else◌}
use Rattle.pvlist.specs.RuleLine.{no_group}
use Rattle.pvlist.specs.Ruling.{Ruling}
use Rattle.pvlist.specs.declared.row.Row.{Row}
use Rattle.pvlist.specs.declared.row.Security.{Security}
use Rattle.pvlist.specs.declared.row.Verb.{Verb}
use Rattle.pvlist.specs.declared.row.Verb.TheVariants.{Allow, Alias, Deny}
use Rattle.pvlist.specs.declared.rules.Order.{Order}
use Rattle.regex.specs.declared.string.regex.Regex.{Regex}
use Rattle.pv_alias.specs.declared.lead.Lead.{Lead}
use Rattle.pv_alias.specs.RealName.{real_name}
use Rattle.pv_alias.specs.Resolution.{deciding, is_refused, lead_among, lead_by, lead_to, leads, matching, resolution}

abbrev NoGrant : Option Lead → Type 0
NoGrant lead = IfSome lead (λ (l : Lead). l.grant ≡ None)

aliased : (real : Option (List ℕ)) (security : Security) → NoGrant (option_map (λ bytes. lead_to bytes security) real)
aliased None security = tt
aliased (Some bytes) security = refl

by_verb : (name : List ℕ) (regex : Regex) (verb : Verb) → NoGrant (leads name regex verb)
by_verb name regex (Allow security) = refl
by_verb name regex (Alias real security) = aliased (real_name name regex real) security
by_verb name regex (Deny hosts) = tt

by_row : (name : List ℕ) (row : Option Row) → NoGrant (option_and_then (lead_by name) row)
by_row name None = tt
by_row name (Some row) = by_verb name row.pattern row.verb

by_rows : (order : Order) (hosts : List (List ℕ)) (name : List ℕ) (rows : List Row) → NoGrant (lead_among order hosts name rows)
by_rows order hosts name rows =
    elim (is_refused order hosts rows) as (λ t. NoGrant (if t then None else option_and_then (lead_by name) (deciding rows))) [ true ↦ tt | false ↦ by_row name (deciding rows) ]

pub nothing_granted : (rules : Ruling) (hosts : List (List ℕ)) (name : List ℕ) → NoGrant (resolution rules hosts name)
unfolding resolution
nothing_granted rules hosts name =
    elim rules.is_open as (λ t. NoGrant (if t then Some (lead_to name no_group) else lead_among rules.order hosts name (matching rules.rows name))) [ true ↦ refl | false ↦ by_rows rules.order hosts name (matching rules.rows name) ]
