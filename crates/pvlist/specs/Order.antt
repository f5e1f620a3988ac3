-- The order of rules.
use Rattle.std.specs.Prelude.{ℕ, List, codes}
use Rattle.pvlist.specs.declared.rules.Order.{Order}
use Rattle.pvlist.specs.declared.rules.Order.TheVariants.{AllowDeny, DenyAllow}

-- how it is written
abbrev pub order_text : Order → List ℕ
order_text AllowDeny = codes "ALLOW, DENY"
order_text DenyAllow = codes "DENY, ALLOW"
