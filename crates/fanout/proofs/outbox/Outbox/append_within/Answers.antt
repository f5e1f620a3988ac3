use Rattle.std.proofs.Common.{◌^◌, arith}
use Rattle.std.proofs.lemmas.List.Sums.{sum_by-le}
use Rattle.fanout.specs.Waiting.{out_len}
use Rattle.fanout.proofs.outbox.Outbox.append_within.Goals as goal

-- the messages are so few and so short that one more still fits
pub overflow_add-self : goal.overflow_add-self
overflow_add-self c =
    let counts = c.self.invariant in
    omega (arith, sum_by-le out_len (2 ^ 65) c.self.inside.messages.items counts.short, counts.few, counts.counted, c.len-len.ensures.short)
