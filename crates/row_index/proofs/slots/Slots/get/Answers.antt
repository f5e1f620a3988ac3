use Rattle.std.proofs.Common.{◌<◌, length, sym, ap, ◌∙◌, arith}
use Rattle.row_index.specs.Slots.{value_in}
use Rattle.row_index.proofs.Slotted.{place_here, none_here, place_within, found_there}
use Rattle.row_index.proofs.slots.Slots.get.Goals as goal

pub index-requires : goal.index-requires
index-requires g c =
    let inside = c.self.inside in
    let at = place_here c.args.key inside.slots.items c.deref.result.now c.in-Some.place c.deref.ensures.value c.in-Some.ensures in
    let within : c.in-Some.place < length inside.slots.items = place_within c.args.key inside.slots.items c.in-Some.place at in
    let long = inside.slots.ok.0 in
    omega (arith, within, long)

pub returns-in-Some : goal.returns-in-Some
returns-in-Some g c =
    let inside = c.self.inside in
    let at = place_here c.args.key inside.slots.items c.deref.result.now c.in-Some.place c.deref.ensures.value c.in-Some.ensures in
    rw (← c.self.view_is) (c.value.ensures ∙ ap value_in c.index.ensures ∙ sym (found_there c.args.key inside.slots.items c.in-Some.place c.index.result.now at))

pub returns-in-None : goal.returns-in-None
returns-in-None g c =
    rw (← c.self.view_is) (none_here c.args.key c.self.inside.slots.items c.deref.result.now c.deref.ensures.value c.in-None.ensures)
