use Rattle.std.proofs.Common.{◌∙◌, sym, ap}
use Rattle.std.specs.List.{list_any}
use borrow.Author.Tests.{ltb-true}
use Rattle.row_index.specs.Lists.{is_key}
use Rattle.row_index.proofs.Known.{none_owns, none_has_id}
use Rattle.row_index.proofs.Once.{none_pass, is_false}
use Rattle.row_index.proofs.long_keys.LongKeys.is_new.Goals as goal
use Rattle.row_index.proofs.long_keys.LongKeys.is_new.Goals.{then-key-self, else-key-self}

pub returns-then-key-self-2 : goal.returns-then-key-self-2
returns-then-key-self-2 c =
    let inside = c.self.inside in
    let up = c.self.invariant.up_to in
    elim c.if-key-self.branch [
      | then-key-self w ↦ λ _. rw (← c.self.view_is) (none_owns inside.top c.args.key inside.keys up w.if-key-self.true)
      | else-key-self w ↦ λ _. rw (← c.self.view_is) (none_has_id inside.top c.args.key inside.keys up (ltb-true _ _ (sym w.value-is ∙ c.if-key-self-2.true)))
    ]

pub returns-else-key-self-2 : goal.returns-else-key-self-2
returns-else-key-self-2 c =
    λ new. rw (← c.self.view_is) (none_pass (is_key c.args.key) c.self.inside.keys (ap (list_any (is_key c.args.key)) (sym c.as_slice.ensures) ∙ sym c.contains.ensures.value ∙ is_false c.contains.result new))
