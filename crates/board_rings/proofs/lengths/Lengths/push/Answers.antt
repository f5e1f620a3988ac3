use Rattle.std.proofs.Common.{ℕ, ◌^◌, arith}
use Rattle.std.proofs.lemmas.List.Sums.{sum_by-le}
use Rattle.board_rings.proofs.lengths.Lengths.push.Goals as goal

-- the lengths are so few and so short that one more still fits
pub overflow_add-self : goal.overflow_add-self
overflow_add-self c =
    let counts = c.self.invariant in
    omega (arith, sum_by-le (λ (len : ℕ). len) (2 ^ 65) c.self.inside.lens.items counts.short, counts.few, counts.counted, c.requires.short)
