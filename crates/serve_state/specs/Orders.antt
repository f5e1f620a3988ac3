-- Lines of standard input.
use Rattle.std.specs.Prelude.{ℕ, nat_lt, if◌then◌else◌, List, take, drop, length, bytes_eq, codes, Option, Some, None, option_map}
use Rattle.decimal_text.specs.Numbers.{number_of}
use Rattle.serve_state.specs.declared.order.OperatorOrder.{OperatorOrder}
use Rattle.serve_state.specs.declared.order.OperatorOrder.TheVariants.{Ask, Sweep, Reload, Connect, Quit}

-- `connect ` and a number
abbrev pub connect_order : List ℕ → Option OperatorOrder
connect_order line =
    if nat_lt (length line) 8 then None
    else if bytes_eq (take 8 line) (codes "connect ") then option_map Connect (number_of 32 (drop 8 line))
    else None

-- the order that a line gives, without its line feed
abbrev pub order_of : List ℕ → Option OperatorOrder
order_of line =
    if bytes_eq line (codes "ask") then Some Ask
    else if bytes_eq line (codes "sweep") then Some Sweep
    else if bytes_eq line (codes "reload") then Some Reload
    else if bytes_eq line (codes "quit") then Some Quit
    else connect_order line
