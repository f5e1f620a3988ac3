use Rattle.std.proofs.Common.{◌≡◌, drop}
use Rattle.serve_state.specs.Versions.{after_bytes}
use Rattle.serve_state.proofs.versions.Versions.hear.Given as goal

-- what is left decides
abbrev pub invariant-loop-byte : goal.invariant-loop-byte
invariant-loop-byte l = after_bytes (drop l.byte-index l.piece) l.self ≡ after_bytes l.piece l.initial.self
