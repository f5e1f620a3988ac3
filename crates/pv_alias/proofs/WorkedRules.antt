-- The definition run on a small rule file: an alias, a DENY FROM and a DENY without hosts, in this order.
use Rattle.std.proofs.Common.{◌≡◌, ℕ, List, [], ◌∷◌, codes, Option, Some, None, false, refl}
use Rattle.access_file.specs.declared.rule.Level.TheVariants.{Zero}
use Rattle.pvlist.specs.declared.row.Verb.TheVariants.{Alias, Deny}
use Rattle.pvlist.specs.declared.rules.Order.{Order}
use Rattle.pvlist.specs.declared.rules.Order.TheVariants.{AllowDeny, DenyAllow}
use Rattle.pvlist.specs.Ruling.{Ruling}
use Rattle.regex.specs.Patterns.{Match, find_str}
use Rattle.regex.specs.Strings.{regex_pattern}
use Rattle.regex.specs.Writes.{group_of}
use Rattle.regex.specs.declared.string.regex.Regex.{Regex}
use Rattle.pv_alias.specs.Resolution.{resolution}

-- `\(.*\):SET ALIAS \1:SP ops 0`, `.*:SET DENY FROM lab7`, `X.* DENY`
abbrev rules : Order → Regex → Regex → Regex → Ruling
rules order set deny x = record {
  order = order;
  is_open = false;
  rows =
      (record { pattern = set; verb = Alias (codes "\\1:SP") (record { group = Some (codes "ops"); level = Zero }) })
      ∷ (record { pattern = deny; verb = Deny (codes "lab7" ∷ []) })
      ∷ (record { pattern = x; verb = Deny [] })
      ∷ [];
}

-- what the three patterns match of a name; the first pattern's group takes so many bytes
record Takes (name : List ℕ) (size : ℕ) (third : Option Match) (set deny x : Regex) (m n : Match) : Type 0 where
  aliased : find_str (regex_pattern set) name 0 ≡ Some m
  front : group_of m 1 ≡ Some (0, size)
  denied : find_str (regex_pattern deny) name 0 ≡ Some n
  in_x : find_str (regex_pattern x) name 0 ≡ third

-- desk1 asks for A:SET
under_its_alias : (set deny x : Regex) (m n : Match) → Takes (codes "A:SET") 1 None set deny x m n
    → resolution (rules AllowDeny set deny x) (codes "desk1" ∷ []) (codes "A:SET") ≡ Some (record { real = codes "A:SP"; group = Some (codes "ops"); level = Zero; grant = None })
unfolding resolution
under_its_alias set deny x m n t = rw (t.aliased, t.denied, t.in_x) (rw (t.aliased, t.front) refl)

-- LAB7 asks for it
from_a_denied_host : (order : Order) (set deny x : Regex) (m n : Match) → Takes (codes "A:SET") 1 None set deny x m n
    → resolution (rules order set deny x) (codes "LAB7" ∷ []) (codes "A:SET") ≡ None
unfolding resolution
from_a_denied_host AllowDeny set deny x m n t = rw (t.aliased, t.denied) refl
from_a_denied_host DenyAllow set deny x m n t = rw (t.aliased, t.denied) refl

-- desk1 asks for X1:SET
denied_to_all : (set deny x : Regex) (m n k : Match) → Takes (codes "X1:SET") 2 (Some k) set deny x m n
    → resolution (rules AllowDeny set deny x) (codes "desk1" ∷ []) (codes "X1:SET") ≡ None
unfolding resolution
denied_to_all set deny x m n k t = rw (t.aliased, t.denied, t.in_x) refl

allowed_in_spite : (set deny x : Regex) (m n k : Match) → Takes (codes "X1:SET") 2 (Some k) set deny x m n
    → resolution (rules DenyAllow set deny x) (codes "desk1" ∷ []) (codes "X1:SET") ≡ Some (record { real = codes "X1:SP"; group = Some (codes "ops"); level = Zero; grant = None })
unfolding resolution
allowed_in_spite set deny x m n k t = rw (t.aliased, t.denied, t.in_x) (rw (t.aliased, t.front) refl)

-- lab7 asks for it
denied_in_both_orders : (order : Order) (set deny x : Regex) (m n k : Match) → Takes (codes "X1:SET") 2 (Some k) set deny x m n
    → resolution (rules order set deny x) (codes "lab7" ∷ []) (codes "X1:SET") ≡ None
unfolding resolution
denied_in_both_orders AllowDeny set deny x m n k t = rw (t.aliased, t.denied) refl
denied_in_both_orders DenyAllow set deny x m n k t = rw (t.aliased, t.denied) refl
