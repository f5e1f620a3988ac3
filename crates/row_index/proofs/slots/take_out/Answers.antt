use Rattle.std.proofs.Common.{◌<◌, length, sym, arith}
use Rattle.row_index.specs.Slots.{filled}
use Rattle.row_index.proofs.Agreeing.{place_is, none_is, agrees_out}
use Rattle.row_index.proofs.Slotted.{place_within, filled_out, all_lack}
use Rattle.row_index.proofs.slots.take_out.Goals as goal

pub index_mut-requires : goal.index_mut-requires
index_mut-requires g c =
    let at = place_is c.args.key c.args.slots.now.items c.args.places.now.entries c.requires.agree c.in-Some.place c.in-Some.ensures.value in
    let within : c.in-Some.place < length c.args.slots.now.items = place_within c.args.key c.args.slots.now.items c.in-Some.place at in
    let long = c.args.slots.now.ok.0 in
    omega (arith, within, long)

pub returns-in-Some-clause-rows : goal.returns-in-Some-clause-rows
returns-in-Some-clause-rows g c =
    filled_out c.args.key c.args.slots.now.items c.in-Some.place (place_is c.args.key c.args.slots.now.items c.args.places.now.entries c.requires.agree c.in-Some.place c.in-Some.ensures.value) c.requires.agree.apart

pub returns-in-Some-clause-agree : goal.returns-in-Some-clause-agree
returns-in-Some-clause-agree g c =
    let at = place_is c.args.key c.args.slots.now.items c.args.places.now.entries c.requires.agree c.in-Some.place c.in-Some.ensures.value in
    agrees_out c.args.key c.args.slots.now.items c.args.places.now.entries c.requires.agree c.in-Some.place c.swap_remove.new.self.entries at c.in-Some.ensures.updates.0 c.in-Some.ensures.len

pub returns-in_default-clause-rows : goal.returns-in_default-clause-rows
returns-in_default-clause-rows g c =
    sym (all_lack c.args.key (filled c.args.slots.now.items) (sym (none_is c.args.key c.args.slots.now.items c.args.places.now.entries c.requires.agree c.in_default.ensures.value)))
