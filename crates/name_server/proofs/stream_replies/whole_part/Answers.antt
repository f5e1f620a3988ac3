use Rattle.std.proofs.Common.{◌<◌, ◌-◌, ◌+◌, length, drop, Option, Ok, ℕ, sym, ap, ◌∙◌, arith}
use Rattle.std.proofs.lemmas.List.{length-drop, take_rest}
use Rattle.ca_header.proofs.Fields.{IsBytes-drop}
use Rattle.name_server.proofs.Wholes.{ends, front-some, goes-on}
use Rattle.name_server.proofs.stream_replies.whole_part.Goals as goal

pub loop-message-smaller : goal.loop-message-smaller
loop-message-smaller c =
    let bytes = c.args.bytes.now in
    let rest = drop c.loop-message.len bytes in
    let told = rw (take_rest bytes c.loop-message.len) at c.in_ok-message.ensures in
    let front = front-some rest c.in-Some.message (IsBytes-drop c.loop-message.len bytes c.loop-message.invariant.fits) (sym told ∙ ap (λ (o : Option ℕ). Ok o) c.in-Some.is) in
    let some = front.some in
    let within = front.within in
    let len = length-drop c.loop-message.len bytes in
    let less : length bytes - (c.loop-message.len + c.in-Some.message) < length bytes - c.loop-message.len = omega arith in
    less

pub loop-message-preserved : goal.loop-message-preserved
loop-message-preserved c =
    let bytes = c.args.bytes.now in
    let rest = drop c.loop-message.len bytes in
    let told = rw (take_rest bytes c.loop-message.len) at c.in_ok-message.ensures in
    goes-on bytes c.loop-message.len c.in-Some.message c.loop-message.invariant
    (front-some rest c.in-Some.message (IsBytes-drop c.loop-message.len bytes c.loop-message.invariant.fits) (sym told ∙ ap (λ (o : Option ℕ). Ok o) c.in-Some.is))

pub returns-clause-ok : goal.returns-clause-ok
returns-clause-ok c =
    let told = rw (take_rest c.args.bytes.now c.loop-message.len) at c.in_ok-message.ensures in
    ends c.args.bytes.now c.loop-message.len c.loop-message.invariant (sym told ∙ ap (λ (o : Option ℕ). Ok o) c.in_default.is)
