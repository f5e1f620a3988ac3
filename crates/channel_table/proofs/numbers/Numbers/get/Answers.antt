use Rattle.channel_table.specs.Numbers.{IsRising}
use Rattle.channel_table.proofs.Rising.{nth_lower}
use Rattle.channel_table.proofs.numbers.Numbers.get.Goals as goal

pub returns-clause-lower : goal.returns-clause-lower
returns-clause-lower c =
    let rising : IsRising c.deref.result.now = rw c.deref.ensures.value c.self.invariant in
    rw (c.copied.ensures, ← c.self.view_is, ← c.deref.ensures.value) (nth_lower c.deref.result.now c.args.n c.get.result rising c.get.ensures.lookup.3)
