use Rattle.std.proofs.Common.{◌≡◌, ◌<◌, ◌≤◌, true, length, sym, ap, ◌∙◌, rules, arith}
use Rattle.ask_schedule.specs.Plan.{has_name}
use Rattle.ask_schedule.proofs.Found.{lacks_before, remove-there, somewhere}
use Rattle.ask_schedule.proofs.schedule.place_of.Goals as goal

pub loop-place-init : goal.loop-place-init
loop-place-init c = λ k d less.
    lacks_before c.args.name.now c.args.rows.now.items c.args.due k d c.requires.apart c.requires.there (let within = c.due_before-place.ensures.within in omega arith) (c.due_before-place.ensures.before k d less)

pub returns-then-eq : goal.returns-then-eq
returns-then-eq c =
    let within : c.loop-place.place < length c.args.rows.now.items = search rules in
    let has : has_name c.args.name.now c.index.result.now ≡ true = sym c.if-eq.ensures in
    (within, remove-there c.args.name.now c.args.rows.now.items c.loop-place.place c.index.result.now c.requires.apart within (ap (has_name c.args.name.now) (sym c.index.ensures) ∙ has))

pub returns : goal.returns
returns c =
    let all : length c.args.rows.now.items ≤ c.loop-place.place = search rules in
    somewhere c.args.name.now c.args.rows.now.items c.args.due c.requires.there (λ k d less. c.loop-place.invariant k d (omega arith))
