-- The texts of the files that a policy is read from, each of which may be missing.
use Rattle.std.specs.Prelude.{ℕ, List, Option, None}

pub record Texts : Type 0 where
  pub rules : Option (List ℕ)
  pub groups : Option (List ℕ)
  pub access : Option (List ℕ)

-- the same without an access security file
abbrev pub without_access : Option (List ℕ) → Option (List ℕ) → Texts
without_access rules groups = record { rules = rules; groups = groups; access = None }
