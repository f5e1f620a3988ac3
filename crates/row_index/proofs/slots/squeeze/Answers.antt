use Rattle.std.proofs.Common.{◌≡◌, length, sym, ap, ◌∙◌, arith}
use Rattle.row_index.specs.Slots.{filled}
use Rattle.row_index.proofs.Slotted.{filled_tight, tight}
use Rattle.row_index.proofs.slots.squeeze.Goals as goal

pub renew-requires-clause-apart : goal.renew-requires-clause-apart
renew-requires-clause-apart g c =
    rw (c.deref.ensures.value, c.keep_full.ensures, filled_tight c.args.slots.now.items) c.requires.agree.apart

pub renew-requires-clause-room : goal.renew-requires-clause-room
renew-requires-clause-room g c =
    let fewer : length c.deref.result.now ≡ length c.args.places.now.entries = ap length (c.deref.ensures.value ∙ c.keep_full.ensures) ∙ tight c.args.slots.now.items ∙ sym c.requires.agree.count in
    omega (arith, fewer)

-- each slot that is kept has a row
pub returns-clause-tight : goal.returns-clause-tight
returns-clause-tight g c =
    ap length c.keep_full.ensures ∙ tight c.args.slots.now.items ∙ sym (ap length (ap filled c.keep_full.ensures ∙ filled_tight c.args.slots.now.items))

pub returns-clause-rows : goal.returns-clause-rows
returns-clause-rows g c = ap filled c.keep_full.ensures ∙ filled_tight c.args.slots.now.items
