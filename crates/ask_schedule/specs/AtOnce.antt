-- How much is heard at once, where hosts send more than can be.
use Rattle.std.specs.Prelude.{ℕ, ◌==◌, ◌&&◌, nat_eq, nat_lt, Bool, if◌then◌else◌, List}
use Rattle.std.specs.Map.{lookup}
use Rattle.std.specs.Option.{unwrap_or}

-- the look in which parts were heard last, how many were, and how many of each host
pub record AtOnceState : Type 0 where
  pub look : ℕ
  pub all : ℕ
  pub parts : List (ℕ × ℕ)

-- how many were heard in a look
abbrev pub all_heard_in : ℕ → AtOnceState → ℕ
all_heard_in look state = if state.look == look then state.all else 0

-- how many of a host
abbrev pub heard_in : ℕ → ℕ → AtOnceState → ℕ
heard_in look host state = if state.look == look then unwrap_or (lookup (nat_eq host) state.parts) 0 else 0

-- eight parts are heard in a look, and four of each host
abbrev pub may_hear : ℕ → ℕ → AtOnceState → Bool
may_hear look host state = nat_lt (all_heard_in look state) 8 && nat_lt (heard_in look host state) 4
