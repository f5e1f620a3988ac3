use Rattle.std.proofs.Common.{refl, sym, subst}
use Rattle.std.specs.List.{All}
use Rattle.row_index.specs.KeyLists.{IsUpTo}
use Rattle.row_index.proofs.Known.{last_out, all_but_one}
use Rattle.row_index.proofs.long_keys.LongKeys.top_without.Goals as goal

pub returns-then-is_last : goal.returns-then-is_last
returns-then-is_last c =
    let inside = c.self.inside in
    let is = (rw (← c.self.view_is) at c.if-is_last.ensures) refl in
    rw (← c.self.view_is) (subst (All (IsUpTo inside.under)) (sym (last_out inside.keys c.args.place is)) c.self.invariant.before)

pub returns-else-is_last : goal.returns-else-is_last
returns-else-is_last c =
    let inside = c.self.inside in
    rw (← c.self.view_is) (all_but_one (IsUpTo inside.top) inside.keys c.args.place c.self.invariant.up_to)
