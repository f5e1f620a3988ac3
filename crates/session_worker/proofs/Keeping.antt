-- Bytes that stay as they were.
use Rattle.std.proofs.Common.{ℕ, List, None, Option, Some, refl, ◌∙◌}
use Rattle.std.specs.Io.KnownBytes.{Keeps}

pub keeps_same : (known : Option (List ℕ)) → Keeps known known
keeps_same None = tt
keeps_same (Some xs) = refl

pub keeps_on : (old between new : Option (List ℕ)) → Keeps old between → Keeps between new → Keeps old new
keeps_on None between new a b = tt
keeps_on (Some xs) None new a b = absurd a
keeps_on (Some xs) (Some ys) None a b = absurd b
keeps_on (Some xs) (Some ys) (Some zs) a b = b ∙ a
