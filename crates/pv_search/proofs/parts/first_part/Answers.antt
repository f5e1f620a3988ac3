use Rattle.std.proofs.Common.{◌<◌, ◌-◌, ◌+◌, length, drop, arith}
use Rattle.std.proofs.lemmas.List.{length-drop, take_rest}
use Rattle.ca_header.proofs.Fields.{IsBytes-drop}
use Rattle.pv_search.proofs.Cutting.{cutting-ends, cutting-full, cutting-other, cutting-search, front-some}
use Rattle.pv_search.proofs.parts.first_part.Goals as goal
use Rattle.pv_search.proofs.parts.first_part.Goals.{then-message+else-searches-most, else-message}

pub returns-then-searches-most-clause-part : goal.returns-then-searches-most-clause-part
returns-then-searches-most-clause-part c =
    let rest = drop c.loop-message.len c.args.datagram.now in
    let cut = front-some rest c.in-Some.message (IsBytes-drop c.loop-message.len c.args.datagram.now c.loop-message.invariant.fits) (rw (take_rest c.args.datagram.now c.loop-message.len) at c.in-Some.ensures) in
    cutting-full c.args.datagram.now c.args.most c.loop-message.len c.loop-message.searches c.in-Some.message c.loop-message.invariant cut c.if-message.true c.if-searches-most.true

pub loop-message-smaller : goal.loop-message-smaller
loop-message-smaller c =
    let rest = drop c.loop-message.len c.args.datagram.now in
    let cut = front-some rest c.in-Some.message (IsBytes-drop c.loop-message.len c.args.datagram.now c.loop-message.invariant.fits) (rw (take_rest c.args.datagram.now c.loop-message.len) at c.in-Some.ensures) in
    let some = cut.some in
    let within = cut.within in
    let len = length-drop c.loop-message.len c.args.datagram.now in
    let new : length c.args.datagram.now - (c.loop-message.len + c.in-Some.message.len) < length c.args.datagram.now - c.loop-message.len = omega arith in
    new

pub loop-message-preserved : goal.loop-message-preserved
loop-message-preserved c =
    let rest = drop c.loop-message.len c.args.datagram.now in
    let cut = front-some rest c.in-Some.message (IsBytes-drop c.loop-message.len c.args.datagram.now c.loop-message.invariant.fits) (rw (take_rest c.args.datagram.now c.loop-message.len) at c.in-Some.ensures) in
    elim c.if-message.branch [
      | then-message+else-searches-most w ↦
          rw w.searches-is (cutting-search c.args.datagram.now c.args.most c.loop-message.len c.loop-message.searches c.in-Some.message c.loop-message.invariant cut w.if-message.true (let few = c.loop-message.invariant.few in omega arith))
      | else-message w ↦
          rw w.searches-is (cutting-other c.args.datagram.now c.args.most c.loop-message.len c.loop-message.searches c.in-Some.message c.loop-message.invariant cut w.if-message.false)
    ]

pub returns-clause-part : goal.returns-clause-part
returns-clause-part c = cutting-ends c.args.datagram.now c.args.most c.loop-message.len c.loop-message.searches c.loop-message.invariant (rw (take_rest c.args.datagram.now c.loop-message.len) at c.in_default.ensures)
