-- How beacons are counted, and how their gaps grow.
use Rattle.std.proofs.Common.{◌≡◌, ℕ, zero, suc, ◌+◌, ◌*◌, ◌^◌, ◌≤◌, ◌%◌, List, [], ◌∷◌, length, refl, sym, arith}
use Rattle.std.proofs.Math.Nat.{suc-mod}
use Rattle.std.proofs.Math.Numerals.{suc-eq-add-one}
use Rattle.serve_state.specs.Beacons.{after_sent, gap_behind, longer, AreCounted}

one_least : (n : ℕ) → 1 ≤ 2 ^ n
one_least zero = omega arith
one_least (suc n) = let h : 1 ≤ 2 ^ n = one_least n in omega (arith, h)

twice : (n : ℕ) → 2 ^ suc n ≡ 2 * 2 ^ n
twice n = omega arith

grows : (n : ℕ) → longer (gap_behind n) ≡ gap_behind (suc n)
grows zero = refl
grows (suc n) = let h : 1 ≤ 2 ^ n = one_least n in grind (arith, h, twice n)

gap_after : (times : List ℕ) → (after_sent times).gap ≡ gap_behind (length times)
gap_after [] = refl
gap_after (now ∷ times) = rw (gap_after times) (grows (length times))

id_after : (times : List ℕ) → (after_sent times).id ≡ length times % 4294967296
id_after [] = refl
id_after (now ∷ times) =
    rw (id_after times) (rw (sym (suc-eq-add-one (length times % 4294967296))) (sym (suc-mod (length times) 4294967296)))

pub are_counted : (times : List ℕ) → AreCounted times
are_counted times = record { ids = id_after times; gaps = gap_after times }
