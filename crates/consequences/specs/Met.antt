-- Pairs of a type and a count that were met: the last eight that differ.
use Rattle.std.specs.Prelude.{ℕ, ◌+◌, ◌%◌, Bool, if◌then◌else◌, set, replicate}
use Rattle.std.specs.List.{list_any}
use Rattle.value_cache.specs.Kept.{is_pair}
use Rattle.consequences.specs.declared.met.MetPairs.{MetPairs}

-- places for eight pairs, each with the number of no type
abbrev pub none_met : MetPairs
none_met = record { pairs = replicate 8 (65_535, 0); next = 0 }

abbrev pub was_met : ℕ → ℕ → MetPairs → Bool
was_met dtype count met = list_any (is_pair dtype count) met.pairs

-- once a pair is met: a new one takes the place of the one that was met first
abbrev pub meeting : ℕ → ℕ → MetPairs → MetPairs
meeting dtype count met =
    if was_met dtype count met then met
    else record { pairs = set met.pairs (met.next % 8) (dtype, count); next = met.next % 8 + 1 }
