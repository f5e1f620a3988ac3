use Rattle.std.proofs.Common.{Bool, ◌≡◌, ℕ, ◌+◌, ◌-◌, List, [], ◌∷◌, ◌++◌, length, take, drop, append_assoc, sym, ap, ◌∙◌, Some, arith, rules}
use Rattle.rows.proofs.RowLemmas.{take_first_of, drop_first_of}
use Rattle.fanout.specs.declared.outbox.Out.{Out}
use Rattle.fanout.specs.Waiting.{Waiting}
use Rattle.fanout.specs.Outbox.{front, without_first}
use Rattle.fanout.proofs.outbox.Outbox.take.Goals as goal

-- a message that was found in front stood before the rest
behind : (outs : List Out) (marked : Bool) (out : Out) → Some out ≡ front (record { messages = outs; marked = marked }) → outs ≡ out ∷ drop 1 outs
behind [] marked out e = cc
behind (first ∷ outs) marked out e = cc

first_and_rest : (old new : Waiting) (out : Out) → Some out ≡ front old → new ≡ without_first 1 old → old.messages ≡ out ∷ new.messages
first_and_rest old new out found rest =
    behind old.messages old.marked out found ∙ ap (λ (box : Waiting). out ∷ box.messages) (sym rest)

-- one more is taken from the front of what is left
taken_more : {A : Type 0} (outs outs' old rest whole : List A) (x : A) (n m : ℕ) → old ≡ x ∷ rest → outs' ≡ outs ++ x ∷ [] → n ≡ m + 1 → outs ++ take n old ≡ whole → outs' ++ take m rest ≡ whole
taken_more outs outs' old rest whole x n m front pushed more told =
    ap (λ xs. xs ++ take m rest) pushed ∙ append_assoc outs (x ∷ []) (take m rest) ∙ ap (λ xs. outs ++ xs) (sym (take_first_of n m x rest more)) ∙ ap (λ xs. outs ++ take n xs) (sym front) ∙ told

rest_more : {A : Type 0} (old rest whole : List A) (x : A) (n m : ℕ) → old ≡ x ∷ rest → n ≡ m + 1 → drop n old ≡ whole → drop m rest ≡ whole
rest_more old rest whole x n m front more left =
    sym (drop_first_of n m x rest more) ∙ ap (drop n) (sym front) ∙ left

pub loop-preserved : goal.loop-preserved
loop-preserved c =
    let front : c.loop.self.messages ≡ c.unwrap-out.result ∷ c.take_front.new.self.messages =
    first_and_rest _ _ _ (sym c.unwrap-out.ensures ∙ c.take_front.ensures.found) c.take_front.ensures.rest in
    let more : c.min-found.result - c.loop.counter ≡ c.min-found.result - (c.loop.counter + 1) + 1 = omega arith in
    record {
      room = omega arith;
      there = omega (arith, ap length front);
      taken = taken_more _ _ _ _ _ _ _ _ front c.push_reserved.ensures.items more c.loop.invariant.taken;
      rest = rest_more _ _ _ _ _ _ front more c.loop.invariant.rest;
      mark = search rules;
    }
