-- The remembered searches, under the policy that holds.
use Rattle.std.specs.Prelude.{List}
use Rattle.rule_desk.specs.declared.policy.Policy.{Policy}
use Rattle.gateway_state.specs.declared.search.RememberedSearch.{RememberedSearch}

-- the policy that holds, and the searches that are remembered
pub record SearchRows : Type 0 where
  pub policy : Policy
  pub rows : List RememberedSearch
