use Rattle.std.proofs.Common.{sym, ap, ◌∙◌}
use Rattle.std.specs.Option.{option_copied}
use Rattle.value_cache.specs.Message.{held_in}
use Rattle.value_cache.specs.Held.{answer}
use Rattle.value_cache.proofs.KeptLemmas.{found_is_answer, given_either, some_either}
use Rattle.value_cache.proofs.cached.Cached.answer.Goals as goal

-- what is kept is what is answered
pub returns-in-Some-clause-ok : goal.returns-in-Some-clause-ok
returns-in-Some-clause-ok c =
    let s = c.self.inside in
    let found = sym c.get.ensures ∙ ap option_copied c.in-Some.is in
    let is = found_is_answer (held_in s.last s.described) c.args.dtype c.args.count s.kept c.in-Some.encoding.now c.self.invariant.answers found in
    given_either c.shared.result c.shared.ensures (sym is ∙ ap (λ k. answer c.args.dtype c.args.count k.held) c.self.view_is)

pub returns-in-Some-clause-err : goal.returns-in-Some-clause-err
returns-in-Some-clause-err c =
    let s = c.self.inside in
    let found = sym c.get.ensures ∙ ap option_copied c.in-Some.is in
    let is = found_is_answer (held_in s.last s.described) c.args.dtype c.args.count s.kept c.in-Some.encoding.now c.self.invariant.answers found in
    some_either c.shared.result (sym (ap (λ k. answer c.args.dtype c.args.count k.held) c.self.view_is) ∙ is)
