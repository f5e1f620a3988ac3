use Rattle.std.proofs.Common.{is_some, sym, ap, ◌∙◌}
use Rattle.value_cache.specs.declared.encodings.Encoding.{Encoding}
use Rattle.value_cache.specs.Message.{held_in}
use Rattle.value_cache.specs.Kept.{keeping}
use Rattle.value_cache.proofs.KeptLemmas.{answers_either, kept_already, kept_either, copied_some}
use Rattle.value_cache.proofs.cached.Cached.keep.Goals as goal

-- nothing changes where the pair is kept
pub returns-then-is_some-clause-ok : goal.returns-then-is_some-clause-ok
returns-then-is_some-clause-ok c =
    let s = c.self.inside in
    let found = ap is_some (sym c.get.ensures) ∙ copied_some c.get.result ∙ sym c.is_some.ensures ∙ c.if-is_some.true in
    sym c.self.view_is ∙ kept_already s.last s.described s.kept c.args.dtype c.args.count found ∙ ap (keeping c.args.dtype c.args.count) c.self.view_is

-- what is kept is what is answered
pub invariant_of-self : goal.invariant_of-self
invariant_of-self c =
    let s = c.self.inside in
    let e : Encoding = record { dtype = c.args.dtype; count = c.args.count; given = c.in-Some.given; payload = c.in-Some.payload } in
    let is = sym c.in_ok-given.ensures.ok ∙ c.in-Some.is in
    record {
      readable = c.self.invariant.readable;
      told = c.self.invariant.told;
      answers = answers_either c.add.result (held_in s.last s.described) s.kept c.add.new.self e c.add.ensures.ok c.add.ensures.err is c.self.invariant.answers;
    }

pub returns-in-Some-clause-ok : goal.returns-in-Some-clause-ok
returns-in-Some-clause-ok c =
    let s = c.self.inside in
    let e : Encoding = record { dtype = c.args.dtype; count = c.args.count; given = c.in-Some.given; payload = c.in-Some.payload } in
    let none = ap is_some (sym c.get.ensures) ∙ copied_some c.get.result ∙ sym c.is_some.ensures ∙ c.if-is_some.false in
    let is = ap is_some (sym c.in_ok-given.ensures.ok ∙ c.in-Some.is) in
    kept_either c.add.result s.last s.described s.kept c.add.new.self e c.add.ensures.ok none is c.self.view_is
