use Rattle.std.proofs.Common.{◌≡◌, ℕ, List, Some, cond, ◌++◌, ◌∷◌, [], ap, sym, ◌∙◌, bytes_eq}
use Rattle.std.specs.Map.{lookup}
use Rattle.row_index.specs.declared.key.Key.{Key}
use Rattle.row_index.proofs.Named.{of_updated, no_empty_updated, last_there, same_bytes, kept_longer}
use Rattle.row_index.proofs.name_keys.NameKeys.add_first.Goals as goal

pub returns-in-Ok-insert-clause-ok : goal.returns-in-Ok-insert-clause-ok
returns-in-Ok-insert-clause-ok c =
    let ended : List Key → List Key = λ keys. keys ++ c.args.key ∷ [] in
    let updates : (n : List ℕ) → lookup (bytes_eq n) c.insert.new.self.entries ≡ cond (bytes_eq c.args.name.now n) (Some c.push.new.self) (lookup (bytes_eq n) c.self.inside.lists.entries) = λ n. rw (← c.in-Ok.ensures) (c.in-Ok-insert.ensures.updates.0 n) in
    rw (← c.self.view_is) (
    of_updated bytes_eq same_bytes ended c.args.name.now c.self.inside.lists.entries c.insert.new.self.entries (Some c.push.new.self) updates
    (c.in_ok-push.ensures.ok ∙ ap (λ keys. keys ++ c.args.key ∷ []) (c.new-keys.ensures ∙ sym (rw (← c.self.view_is) at c.requires)))
    )

pub invariant_of-self : goal.invariant_of-self
invariant_of-self c =
    let updates : (n : List ℕ) → lookup (bytes_eq n) c.insert.new.self.entries ≡ cond (bytes_eq c.args.name.now n) (Some c.push.new.self) (lookup (bytes_eq n) c.self.inside.lists.entries) = λ n. rw (← c.in-Ok.ensures) (c.in-Ok-insert.ensures.updates.0 n) in
    let filled = no_empty_updated bytes_eq same_bytes c.args.name.now c.self.inside.lists.entries c.insert.new.self.entries (Some c.push.new.self) updates
    (last_there c.args.key c.new-keys.result c.push.new.self c.in_ok-push.ensures.ok) c.self.invariant.filled in
    kept_longer bytes_eq c.self.inside.lists.entries c.insert.new.self.entries c.self.inside.hints _ c.note_last.new.self c.self.invariant filled c.in-Ok-insert.ensures.len c.note_last.ensures
