-- How many datagrams are sent in a look.
use Rattle.std.proofs.Common.{◌≡◌, ℕ, zero, suc, ◌-◌, ◌≤◌, Bool, refl, arith}
use Rattle.serve_state.specs.AskRhythm.{BudgetState, may_send, sent_in, sent_of, AtMostFour}

-- what is left of a look's datagrams, where one more may be sent, and where none may
sends : (n look : ℕ) (budget : BudgetState) (b : Bool) → may_send look budget ≡ b
    → ((next : BudgetState) → sent_of n look next ≤ 4 - sent_in look next)
    → sent_of (suc n) look budget ≤ 4 - sent_in look budget
sends n look budget b e h = grind (arith, e, h)

within : (n look : ℕ) (budget : BudgetState) → sent_of n look budget ≤ 4 - sent_in look budget
within zero look budget = omega arith
within (suc n) look budget = sends n look budget (may_send look budget) refl (within n look)

pub at_most_four : AtMostFour
at_most_four n look budget = let h : sent_of n look budget ≤ 4 - sent_in look budget = within n look budget in omega (arith, h)
