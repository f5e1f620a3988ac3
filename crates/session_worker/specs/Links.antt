-- What a failed call leaves.
use Rattle.std.specs.Prelude.{◌≡◌, ℕ, ◌<◌, ◌⊎◌}

-- one call more has failed; at its last value the count stays
abbrev pub HasRisen : ℕ → ℕ → Type 0
HasRisen old new = (old < new) ⊎ (new ≡ 18446744073709551615)
