use Rattle.std.proofs.Common.{rules}
use Rattle.std.proofs.lemmas.Fn.{always_returns_same}
use Rattle.serve_state.specs.declared.in_all.WaitingBytes.{WaitingBytes}
use Rattle.serve_state.proofs.in_all.sort.Goals as goal

-- the closure gives the bytes and the number of a client
pub returns-clause-order : goal.returns-clause-order
returns-clause-order c =
    c.sort_unstable_by_key.ensures.sorted (λ (client : WaitingBytes). (record { 0 = client.bytes }, client.number))
    (always_returns_same _ _ _ (λ a r f called. search rules))
