-- What workers were told of why they have to end.
use Rattle.std.specs.Prelude.{ℕ, List, [], ◌∷◌}
use Rattle.gateway_state.specs.declared.event.Dest.{Dest}
use Rattle.gateway_state.specs.declared.event.Dest.TheVariants.{Session, Upstream}

-- the numbers by which a connection is named: its kind, and its own
abbrev pub name_of : Dest → List ℕ
name_of (Session number) = 0 ∷ number ∷ []
name_of (Upstream number) = 1 ∷ number ∷ []

-- how often a worker was told that messages come to an end, and of which connection the last time
pub record TimesTold : Type 0 where
  pub times : ℕ
  pub last : List ℕ
