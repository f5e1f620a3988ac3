use Rattle.std.proofs.Common.{◌≡◌, ℕ, ◌+◌, ◌-◌, List, ◌∷◌, length, subst, ap, ◌∙◌, arith, rules, ◌^◌, ◌≤◌}
use Rattle.std.specs.Prelude.{All, sum_by}
use Rattle.std.proofs.lemmas.List.Elements.{All-tail}
use Rattle.std.proofs.lemmas.List.Sums.{sum_by-cons}
use Rattle.fanout.specs.declared.outbox.Out.{Out}
use Rattle.fanout.specs.Waiting.{out_len, CountsBytes}
use Rattle.fanout.proofs.outbox.Outbox.take_front.Goals as goal

-- what is left behind the first message has its bytes less
without_the_first : (old rest : List Out) (out : Out) (bytes len : ℕ) → old ≡ out ∷ rest → len ≡ out_len out → CountsBytes old bytes → CountsBytes rest (bytes - len)
without_the_first old rest out bytes len front is counts =
    let short : All (λ x. out_len x ≤ 2 ^ 65) (out ∷ rest) = subst (λ (xs : List Out). All (λ x. out_len x ≤ 2 ^ 65) xs) front counts.short in
    let total : bytes ≡ out_len out + sum_by out_len rest = counts.counted ∙ ap (sum_by out_len) front ∙ sum_by-cons out_len out rest in
    record {
      few = omega (arith, ap length front, counts.few);
      short = All-tail (λ x. out_len x ≤ 2 ^ 65) out rest short;
      counted = omega (arith, total, is);
    }

pub invariant_of-self-2 : goal.invariant_of-self-2
invariant_of-self-2 c =
    let front : c.self.inside.messages.items ≡ c.in_ok-out.out ∷ c.pop_front.new.self.items = search rules in
    without_the_first _ _ _ _ _ front c.len.ensures.len c.self.invariant
