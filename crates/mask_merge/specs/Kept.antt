-- What a tally keeps, as counts.
use Rattle.std.specs.Prelude.{ℕ, ◌+◌, ◌≤◌, ◌<◌, List, [], ◌∷◌, Bool, nat_le, length, vec_capacity}
use Rattle.mask_merge.specs.declared.kept.KeptCounts.{KeptCounts}
use Rattle.mask_merge.specs.Counts.{Counts}

abbrev pub counts_of : KeptCounts → Counts
counts_of kept =
    record { logs = kept.logs; silent = kept.silent; props = kept.props; texts = kept.texts; counts = kept.counts.items }

-- no more ask for LOG, for properties or for texts than want something
pub record AreWithin (c : Counts) : Type 0 where
  pub logs : c.logs ≤ length c.counts
  pub props : c.props ≤ length c.counts
  pub texts : c.texts ≤ length c.counts

-- none is greater than the next
abbrev pub NeverFalls : List ℕ → Type 0
NeverFalls [] = Unit {0}
NeverFalls (x ∷ []) = Unit {0}
NeverFalls (x ∷ y ∷ ys) = (x ≤ y) × NeverFalls (y ∷ ys)

-- and the counts rise, and there is room for each reader's
pub record Fits (kept : KeptCounts) : Type 0 where
  pub within : AreWithin (counts_of kept)
  pub rising : NeverFalls kept.counts.items
  pub room : length kept.counts.items + kept.silent ≤ vec_capacity kept.counts

-- there is room for one reader more
abbrev pub HasRoom : KeptCounts → Type 0
HasRoom kept = length kept.counts.items + kept.silent < vec_capacity kept.counts

abbrev pub is_not_less : ℕ → ℕ → Bool
is_not_less count other = nat_le count other
