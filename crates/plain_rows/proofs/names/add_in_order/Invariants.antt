use Rattle.std.proofs.Common.{◌≡◌, ◌++◌, take, drop}
use Rattle.gateway_state.specs.Variables.{with_name}
use Rattle.plain_rows.proofs.names.add_in_order.Given as goal

-- no name so far is behind it, so it goes among those that are left
abbrev pub invariant-loop-place : goal.invariant-loop-place
invariant-loop-place l = record {
  names : l.names.items ≡ l.fn.names.items;
  name : l.name ≡ l.fn.name;
  rest : take l.place l.names.items ++ with_name l.name (drop l.place l.names.items) ≡ with_name l.fn.name l.fn.names.items;
}
