-- What a rule file says, by its lines and the syntax of its patterns (user's guide, PVLIST).
use Rattle.std.specs.Prelude.{◌≡◌, ℕ, ◌≤◌, Bool, false, nat_le, List, [], ◌∷◌, ◌++◌, length, filter_map, Option, Some, None}
use Rattle.std.specs.List.{AllZip, last_or}
use Rattle.std.specs.Str.Lines.{lines}
use Rattle.pvlist.specs.declared.fault.RuleLineFault.{RuleLineFault}
use Rattle.pvlist.specs.declared.fault.RuleCause.{RuleCause}
use Rattle.pvlist.specs.declared.fault.RuleFault.{RuleFault}
use Rattle.pvlist.specs.declared.line.Item.{Item}
use Rattle.pvlist.specs.declared.line.Item.TheVariants as item
use Rattle.pvlist.specs.declared.line.TheConstants.{ROW_LIMIT}
use Rattle.pvlist.specs.declared.row.Row.{Row}
use Rattle.pvlist.specs.declared.rules.Order.{Order}
use Rattle.pvlist.specs.declared.rules.Order.TheVariants.{AllowDeny}
use Rattle.pvlist.specs.declared.syntax.Syntax.{Syntax}
use Rattle.pvlist.specs.File.{IsFileFault}
use Rattle.pvlist.specs.RuleLine.{entry, IsItem, IsCause, IsFaultOf, HasRoom}
use Rattle.pvlist.specs.Ruling.{Ruling}
use Rattle.pvlist.specs.Words.{words, first_word}

abbrev pub row_in : Item → Option Row
row_in (item.Row row) = Some row
row_in _ = None

abbrev pub order_in : Item → Option Order
order_in (item.Order order) = Some order
order_in _ = None

-- no further row may stand in the file
abbrev pub is_full : Ruling → Bool
is_full ruling = nat_le ROW_LIMIT (length ruling.rows)

-- each of the lines is without fault; their rows are those of the rules, and the last order is theirs
pub record IsRulingOf (syntax : Syntax) (all : List (List ℕ)) (ruling : Ruling) : Type 0 where
  pub items : List Item
  pub read : AllZip (IsItem syntax) all items
  pub rows : ruling.rows ≡ filter_map row_in items
  pub order : last_or (Some AllowDeny) (filter_map order_in items) ≡ Some ruling.order
  pub few : length ruling.rows ≤ ROW_LIMIT
  pub closed : ruling.is_open ≡ false

-- after lines that say this, the line is faulty
abbrev pub RefusesLine : Syntax → Ruling → List ℕ → RuleCause → Type 0
RefusesLine syntax ruling line cause = IsCause syntax (is_full ruling) line cause

-- the fault is that of the first faulty line
abbrev pub IsRuleFault : Syntax → List ℕ → RuleFault → Type 0
IsRuleFault syntax text fault = IsFileFault (IsRulingOf syntax) (RefusesLine syntax) (lines text) fault

-- with what a line says
abbrev pub with_item : Ruling → Item → Ruling
with_item ruling item.Nothing = ruling
with_item ruling (item.Order order) = record ruling { order = order }
with_item ruling (item.Row row) = record ruling { rows = ruling.rows ++ row ∷ [] }

-- the line is without fault, and is taken up
pub record TakesLine (syntax : Syntax) (line : List ℕ) (old new : Ruling) : Type 0 where
  pub said : Item
  pub read : IsItem syntax line said
  pub room : HasRoom (is_full old) said
  pub after : new ≡ with_item old said

-- why the line is not taken up
abbrev pub IsLineFault : Syntax → Ruling → List ℕ → RuleLineFault → Type 0
IsLineFault syntax old line fault = IsFaultOf syntax (first_word (words line)) (entry syntax (is_full old) line) fault
