-- Standard input, cut into lines of at most 1,024 bytes. A line feed is 10.
use Rattle.std.specs.Prelude.{ℕ, ◌==◌, nat_le, if◌then◌else◌, List, [], ◌∷◌, ◌++◌, length, Bool, true, false, Option, Some, None}
use Rattle.serve_state.specs.Orders.{order_of}
use Rattle.serve_state.specs.declared.order.OperatorOrder.{OperatorOrder}
use Rattle.serve_state.specs.declared.order_lines.OrderLine.{OrderLine}
use Rattle.serve_state.specs.declared.order_lines.OrderLine.TheVariants as line

-- what came of the line that has not ended, its first 1,024 bytes, and whether it has more
pub record HeardState : Type 0 where
  pub held : List ℕ
  pub is_long : Bool

abbrev pub order_line : Option OperatorOrder → OrderLine
order_line (Some order) = line.Order order
order_line None = line.NoOrder

abbrev pub line_of : HeardState → OrderLine
line_of heard = if heard.is_long then line.NoOrder else order_line (order_of heard.held)

-- the line that a byte ends
abbrev pub line_at : ℕ → HeardState → Option OrderLine
line_at byte heard = if byte == 10 then Some (line_of heard) else None

abbrev pub with_byte : ℕ → HeardState → HeardState
with_byte byte heard =
    if heard.is_long then heard
    else if nat_le 1024 (length heard.held) then record heard { is_long = true }
    else record heard { held = heard.held ++ byte ∷ [] }

abbrev pub after_byte : ℕ → HeardState → HeardState
after_byte byte heard = if byte == 10 then record { held = []; is_long = false } else with_byte byte heard

-- the line that the end of input ends
abbrev pub last_line : HeardState → Option OrderLine
last_line heard = if length heard.held == 0 then None else Some (line_of heard)
