use Rattle.std.proofs.Common.{◌≡◌, ℕ, ◌+◌, ◌-◌, List, ◌∷◌, length, subst, sym, ap, ◌∙◌, arith, rules, ◌^◌, ◌≤◌}
use Rattle.std.specs.Prelude.{All}
use Rattle.std.proofs.lemmas.List.Elements.{All-tail}
use Rattle.std.proofs.lemmas.List.Sums.{sum_by-cons}
use Rattle.board_rings.specs.OnTheWay.{total_of, CountsLengths}
use Rattle.board_rings.proofs.lengths.Lengths.drop_first.Goals as goal

-- what is left behind the first has its bytes less
without_the_first : (old rest : List ℕ) (len bytes room : ℕ) → old ≡ len ∷ rest → CountsLengths old bytes room → CountsLengths rest (bytes - len) room
without_the_first old rest len bytes room front counts =
    let short : All (λ (x : ℕ). x ≤ 2 ^ 65) (len ∷ rest) = subst (λ (xs : List ℕ). All (λ (x : ℕ). x ≤ 2 ^ 65) xs) front counts.short in
    let total : bytes ≡ len + total_of rest = counts.counted ∙ ap total_of front ∙ sum_by-cons (λ (x : ℕ). x) len rest in
    record {
      few = omega (arith, ap length front, counts.few);
      room_for_all = counts.room_for_all;
      short = All-tail (λ (x : ℕ). x ≤ 2 ^ 65) len rest short;
      counted = omega (arith, total);
    }

pub invariant_of-self : goal.invariant_of-self
invariant_of-self c =
    let front : c.self.inside.lens.items ≡ c.in-Some.len ∷ c.pop_front.new.self.items = search rules in
    subst (λ (room : ℕ). CountsLengths c.pop_front.new.self.items (c.self.inside.bytes - c.in-Some.len) room) (sym c.pop_front.ensures.capacity)
    (without_the_first _ _ _ _ _ front c.self.invariant)
