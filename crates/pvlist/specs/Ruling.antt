-- What rules say.
use Rattle.std.specs.Prelude.{ℕ, List, Bool, is_some}
use Rattle.regex.specs.Patterns.{find_str}
use Rattle.regex.specs.Strings.{regex_pattern}
use Rattle.pvlist.specs.declared.rules.Order.{Order}
use Rattle.pvlist.specs.declared.row.Row.{Row}

-- the order, the rows in the order of the file, and whether there is no file, so that each name leads to itself
pub record Ruling : Type 0 where
  pub order : Order
  pub rows : List Row
  pub is_open : Bool

-- the row matches the name: a text that is translated from a pattern matches whole names or nothing
abbrev pub matches : Row → List ℕ → Bool
matches row name = is_some (find_str (regex_pattern row.pattern) name 0)
