-- The remembered searches, under the policy that holds.
use Rattle.std.specs.Prelude.{ℕ, List, Bool, false, bytes_eq, Option, Some, None}
use Rattle.rule_desk.specs.declared.policy.Policy.{Policy}
use Rattle.gateway_state.specs.declared.search.RememberedSearch.{RememberedSearch}

-- the policy that holds, and the searches that are remembered
pub record SearchRows : Type 0 where
  pub policy : Policy
  pub rows : List RememberedSearch

-- it is there and this name
abbrev pub is_the : List ℕ → Option (List ℕ) → Bool
is_the name None = false
is_the name (Some real) = bytes_eq real name

-- what is kept of names that may be there
abbrev pub itself : Option (List ℕ) → Option (List ℕ)
itself real = real
