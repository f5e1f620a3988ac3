-- What contracts see of what the gateway knows.
use Rattle.std.specs.Prelude.{◌≡◌, ℕ}
use Rattle.gateway_state.specs.Gateway.{Gateway}

-- what is known, and the brand of the table of clients, which the count of looks at its rows bears too
pub record BrandedState : Type 0 where
  pub state : Gateway
  pub brand : ℕ

-- a change to this state, over the same table of clients
abbrev pub Becomes : Gateway → BrandedState → BrandedState → Type 0
Becomes state old new = (new.state ≡ state) × (new.brand ≡ old.brand)
