use Rattle.std.proofs.Common.{◌∙◌, ap, ◌≡◌, ◌+◌, length, Some, cond}
use Rattle.std.specs.Map.{lookup}
use Rattle.row_index.specs.declared.key.Key.{Key}
use Rattle.row_index.specs.Rows.{same_key}
use Rattle.row_index.proofs.Agreeing.{bounded_more, none_found}
use Rattle.row_index.proofs.Slotted.{filled_more}
use Rattle.row_index.proofs.slots.Slots.add.Goals as goal

pub put_place-requires : goal.put_place-requires
put_place-requires g c =
    let inside = c.self.inside in
    let none = none_found c.args.key inside.slots.items inside.places.entries c.self.invariant.agrees (rw (← c.self.view_is) at c.requires.new) in
    let kept = c.in_ok-reserve.ensures.entries in
    record { room = c.in_ok-reserve.ensures.ok; new = ap (lookup (same_key c.args.key)) kept ∙ none }

pub invariant_of-self-2 : goal.invariant_of-self-2
invariant_of-self-2 g c =
    let inside = c.self.inside in
    let kept = c.in_ok-reserve.ensures.entries in
    let place : c.len-place.result ≡ length inside.slots.items = c.len-place.ensures ∙ inside.slots.ok.0 in
    let found : (q : Key) → lookup (same_key q) c.put_place.new.places.entries ≡ cond (same_key c.args.key q) (Some (length inside.slots.items)) (lookup (same_key q) inside.places.entries) =
    λ q. c.put_place.ensures.found q ∙ (λ i. cond (same_key c.args.key q) (Some (place i)) (lookup (same_key q) (kept i))) in
    let more : length c.put_place.new.places.entries ≡ length inside.places.entries + 1 = c.put_place.ensures.count ∙ ap (λ entries. length entries + 1) kept in
    let room = rw (c.deref.ensures.value, c.in_ok-push.ensures.items) at c.note_new.ensures in
    rw c.in_ok-push.ensures.items (bounded_more c.args.key inside.slots.items inside.places.entries inside.hints c.self.invariant c.args.value c.put_place.new.places.entries c.note_new.new.hints (rw (← c.self.view_is) at c.requires.new) found more room)

pub returns-clause-ok : goal.returns-clause-ok
returns-clause-ok g c =
    rw (← c.self.view_is, c.in_ok-push.ensures.items) (filled_more c.self.inside.slots.items c.args.key c.args.value)
