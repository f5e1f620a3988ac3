use Rattle.std.proofs.Common.{◌≡◌, ◌++◌, drop}
use Rattle.std.specs.Prelude.{flat_map}
use Rattle.rule_desk.specs.Said.{shown}
use Rattle.rule_desk.proofs.said.show.Given as goal

-- what is told so far, and what the bytes that are left are told as
abbrev pub invariant-loop-byte : goal.invariant-loop-byte
invariant-loop-byte l = l.text.items ++ flat_map shown (drop l.byte-index l.bytes) ≡ l.fn.text.items ++ flat_map shown l.bytes
