use Rattle.row_index.proofs.Slotted.{place_there}
use Rattle.row_index.proofs.slots.stands_at.Goals as goal

pub returns-in-Some : goal.returns-in-Some
returns-in-Some g c =
    let read = c.in-Some.ensures.lookup in
    place_there c.args.key c.args.slots.now c.args.place c.in-Some.slot.now c.has_key.result c.has_key.ensures read.1 read.3.0 c.requires.apart
