use Rattle.std.proofs.Common.{sym, ap, subst, ◌∙◌}
use Rattle.value_cache.specs.Encodings.{AreAnswers}
use Rattle.value_cache.specs.Kept.{thinned}
use Rattle.value_cache.specs.Message.{held_in, keeping_in}
use Rattle.value_cache.proofs.KeptLemmas.{thinned_answers, thinned_as_pairs}
use Rattle.value_cache.proofs.cached.Cached.thin.Goals as goal

-- those that stay are answers as before
pub invariant_of-self : goal.invariant_of-self
invariant_of-self c =
    let s = c.self.inside in
    record {
      readable = c.self.invariant.readable;
      told = c.self.invariant.told;
      answers = subst (AreAnswers (held_in s.last s.described)) (sym c.thin.ensures) (thinned_answers (held_in s.last s.described) s.kept c.self.invariant.answers);
    }

-- and their types and counts are those that stay
pub returns : goal.returns
returns c =
    let s = c.self.inside in
    ap (keeping_in s.last s.described) c.thin.ensures
    ∙ thinned_as_pairs s.last s.described s.kept c.self.invariant.answers
    ∙ ap thinned c.self.view_is
