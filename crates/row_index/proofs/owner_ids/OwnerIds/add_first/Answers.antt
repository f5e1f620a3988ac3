use Rattle.std.proofs.lemmas.Bool.{eqb-true}
use Rattle.std.proofs.Common.{◌≡◌, ℕ, Some, cond, ap, sym, ◌∙◌, nat_eq}
use Rattle.std.specs.Map.{lookup}
use Rattle.row_index.specs.Lists.{with_last}
use Rattle.row_index.proofs.Named.{of_updated, no_empty_updated, last_there, kept_longer}
use Rattle.row_index.proofs.owner_ids.OwnerIds.add_first.Goals as goal

pub returns-in-Ok-clause-ok : goal.returns-in-Ok-clause-ok
returns-in-Ok-clause-ok c =
    let updates : (n : ℕ) → lookup (nat_eq n) c.insert.new.self.entries ≡ cond (nat_eq c.args.owner n) (Some c.push.new.self) (lookup (nat_eq n) c.self.inside.lists.entries) = c.in-Ok.ensures.updates.0 in
    rw (← c.self.view_is) (
    of_updated nat_eq eqb-true (with_last c.args.id) c.args.owner c.self.inside.lists.entries c.insert.new.self.entries (Some c.push.new.self) updates
    (c.in_ok-push.ensures.ok ∙ ap (with_last c.args.id) (c.new-ids.ensures ∙ sym (rw (← c.self.view_is) at c.requires)))
    )

pub invariant_of-self : goal.invariant_of-self
invariant_of-self c =
    let updates : (n : ℕ) → lookup (nat_eq n) c.insert.new.self.entries ≡ cond (nat_eq c.args.owner n) (Some c.push.new.self) (lookup (nat_eq n) c.self.inside.lists.entries) = c.in-Ok.ensures.updates.0 in
    let filled = no_empty_updated nat_eq eqb-true c.args.owner c.self.inside.lists.entries c.insert.new.self.entries (Some c.push.new.self) updates
    (last_there c.args.id c.new-ids.result c.push.new.self c.in_ok-push.ensures.ok) c.self.invariant.filled in
    kept_longer nat_eq c.self.inside.lists.entries c.insert.new.self.entries c.self.inside.hints _ c.note_last.new.hints c.self.invariant filled c.in-Ok.ensures.len c.note_last.ensures
