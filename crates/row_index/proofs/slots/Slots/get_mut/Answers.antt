use borrow.Follows.Closed.{read_of}
use Rattle.std.specs.Option.{ghost_name_of}
use Rattle.std.proofs.lemmas.List.{set-get_or}
use Rattle.std.proofs.Common.{◌≡◌, set, ◌<◌, length, sym, ap, ◌∙◌, arith, refl}
use Rattle.row_index.specs.Slots.{value_in, with_value, filled}
use Rattle.row_index.specs.Rows.{put_at, value_at}
use Rattle.row_index.proofs.Agreeing.{bounded_put, bounded_same}
use Rattle.row_index.proofs.Slotted.{place_here, none_here, place_within, found_there, filled_put}
use Rattle.row_index.proofs.slots.Slots.get_mut.Goals as goal

pub index_mut-requires : goal.index_mut-requires
index_mut-requires g c =
    let inside = c.self.inside in
    let at = place_here c.args.key inside.slots.items c.deref.result.now c.in-Some.place c.deref.ensures.value c.in-Some.ensures in
    let within : c.in-Some.place < length inside.slots.items = place_within c.args.key inside.slots.items c.in-Some.place at in
    let long = inside.slots.ok.0 in
    omega (arith, within, long)

pub invariant_of-self-lent : goal.invariant_of-self-lent
invariant_of-self-lent g c =
    λ _. (
    let inside = c.self.inside in
    let at = place_here c.args.key inside.slots.items c.deref.result.now c.in-Some.place c.deref.ensures.value c.in-Some.ensures in (
      λ w. rw c.index_mut.ensures.value (bounded_put c.args.key inside.slots.items inside.places.entries inside.hints c.self.invariant c.in-Some.place c.index_mut.result.now w at),
      bounded_same inside.slots.items inside.places.entries inside.hints c.in-Some.place c.index_mut.result.now c.index_mut.ensures.value c.self.invariant,
    )
    )

pub returns-in-Some : goal.returns-in-Some
returns-in-Some g c =
    let inside = c.self.inside in
    let at = place_here c.args.key inside.slots.items c.deref.result.now c.in-Some.place c.deref.ensures.value c.in-Some.ensures in
    let value = c.value_mut.ensures.value ∙ ap value_in c.index_mut.ensures.value ∙ sym (found_there c.args.key inside.slots.items c.in-Some.place c.index_mut.result.now at) in
    let written : (w : g.row.V.Denot) → filled (set inside.slots.items c.in-Some.place (with_value c.index_mut.result.now w)) ≡ put_at c.args.key c.args.self.now w =
    λ w. ap (λ slot. filled (set inside.slots.items c.in-Some.place (with_value slot w))) c.index_mut.ensures.value ∙ filled_put c.args.key inside.slots.items c.in-Some.place c.index_mut.result.now w at ∙ ap (λ entries. put_at c.args.key entries w) c.self.view_is in
    let same : filled (set inside.slots.items c.in-Some.place c.index_mut.result.now) ≡ c.args.self.now =
    ap filled (ap (set inside.slots.items c.in-Some.place) c.index_mut.ensures.value ∙ set-get_or inside.slots.items c.in-Some.place c.index_mut.result.now) ∙ c.self.view_is in (
      λ t. read_of (ghost_name_of c.value_mut.result) (λ (w : g.row.V.Denot). written w t) (same t),
      record { writes_back = tt; value = value ∙ ap (value_at c.args.key) c.self.view_is },
    )

pub returns-in-None : goal.returns-in-None
returns-in-None g c =
    rw (← c.self.view_is) (
      refl,
      record { writes_back = tt; value = none_here c.args.key c.self.inside.slots.items c.deref.result.now c.deref.ensures.value c.in-None.ensures },
    )
