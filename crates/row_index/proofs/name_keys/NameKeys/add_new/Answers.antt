use Rattle.std.proofs.Common.{bytes_eq, List, is_some, Some, ◌++◌, ◌∷◌, [], ap, sym, ◌∙◌}
use Rattle.std.proofs.lemmas.Result.{MatchResult-from_err}
use Rattle.row_index.specs.Lists.{of}
use Rattle.row_index.specs.declared.key.Key.{Key}
use Rattle.row_index.proofs.Named.{of_there, of_nowhere, of_updated, of_kept, no_empty_updated, none_there, last_there, same_bytes, kept_as_long}
use Rattle.row_index.proofs.name_keys.NameKeys.add_new.Goals as goal

pub add_first-requires : goal.add_first-requires
add_first-requires c =
    rw c.get_mut.follows.holds-at-none (sym (of_nowhere bytes_eq same_bytes c.args.name.now c.self.inside.lists.entries c.in-None.ensures.value))

-- a new key is new to the list that the map has
pub push-requires : goal.push-requires
push-requires c =
    let there = of_there bytes_eq same_bytes c.args.name.now c.self.inside.lists.entries c.in-Some.keys.now c.in-Some.ensures.value in
    record { new = rw there (rw (← c.self.view_is) at c.requires.new) }

pub returns-in_ok-push-in-Some-clause-ok : goal.returns-in_ok-push-in-Some-clause-ok
returns-in_ok-push-in-Some-clause-ok c =
    let ended : List Key → List Key = λ keys. keys ++ c.args.key ∷ [] in
    let old = c.self.inside.lists.entries in
    let there = of_there bytes_eq same_bytes c.args.name.now old c.in-Some.keys.now c.in-Some.ensures.value in
    let written = c.get_mut.follows.holds c.push.new.self in
    rw (← c.self.view_is) (
    of_updated bytes_eq same_bytes ended c.args.name.now old (c.get_mut.follows.lender c.push.new.self).entries (Some c.push.new.self) (written.3 (sym (ap is_some c.in-Some.ensures.value))).0
    (c.in_ok-push-in-Some.ensures.ok ∙ ap (λ keys. keys ++ c.args.key ∷ []) there)
    )

pub returns-in_err-push-in-Some-clause-err : goal.returns-in_err-push-in-Some-clause-err
returns-in_err-push-in-Some-clause-err c =
    let old = c.self.inside.lists.entries in
    let there = of_there bytes_eq same_bytes c.args.name.now old c.in-Some.keys.now c.in-Some.ensures.value in
    let written = c.get_mut.follows.holds c.push.new.self in
    let kept = of_kept bytes_eq same_bytes c.args.name.now old (c.get_mut.follows.lender c.push.new.self).entries (Some c.push.new.self) (written.3 (sym (ap is_some c.in-Some.ensures.value))).0 (c.in_err-push-in-Some.ensures.err ∙ there) in
    MatchResult-from_err c.from_residual.result _ _ c.from_residual.ensures.0 (λ _. λ n. kept n ∙ ap (λ lists. of lists n) c.self.view_is)

-- one more is listed, so the list isn't empty
pub invariant_of-self-in-Some : goal.invariant_of-self-in-Some
invariant_of-self-in-Some c =
    let old = c.self.inside.lists.entries in
    let written = c.get_mut.follows.holds c.push.new.self in
    let new = (c.get_mut.follows.lender c.push.new.self).entries in
    let filled = no_empty_updated bytes_eq same_bytes c.args.name.now old new (Some c.push.new.self) (written.3 (sym (ap is_some c.in-Some.ensures.value))).0
    (last_there c.args.key c.in-Some.keys.now c.push.new.self c.in_ok-push-in-Some.ensures.ok) c.self.invariant.filled in
    kept_as_long bytes_eq old new c.self.inside.hints c.self.invariant filled written.2

-- or the list is as it was
pub invariant_of-self : goal.invariant_of-self
invariant_of-self c =
    let old = c.self.inside.lists.entries in
    let kept = c.in_err-push-in-Some.ensures.err in
    let some = none_there bytes_eq same_bytes c.args.name.now old c.in-Some.keys.now c.in-Some.ensures.value c.self.invariant.filled in
    let written = c.get_mut.follows.holds c.push.new.self in
    let new = (c.get_mut.follows.lender c.push.new.self).entries in
    let filled = no_empty_updated bytes_eq same_bytes c.args.name.now old new (Some c.push.new.self) (written.3 (sym (ap is_some c.in-Some.ensures.value))).0
    (λ none. ap Some kept ∙ some (sym kept ∙ none)) c.self.invariant.filled in
    kept_as_long bytes_eq old new c.self.inside.hints c.self.invariant filled written.2
