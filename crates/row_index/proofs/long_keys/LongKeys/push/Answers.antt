use Rattle.std.proofs.Common.{[], ◌∷◌}
use Rattle.std.proofs.lemmas.List.Elements.{All-nil, All-cons, All-append}
use Rattle.row_index.specs.KeyLists.{IsUpTo}
use Rattle.row_index.proofs.Known.{known_more, up_to_above}
use Rattle.row_index.proofs.long_keys.LongKeys.push.Goals as goal

pub invariant_of-self-2 : goal.invariant_of-self-2
invariant_of-self-2 c =
    let inside = c.self.inside in
    let key = c.args.key in
    let above = c.raised-self-inside.result in
    let earlier = up_to_above inside.top above inside.keys c.raised-self-inside.ensures.0 c.self.invariant.up_to in
    let up = All-append (IsUpTo above) inside.keys (key ∷ []) earlier (All-cons (IsUpTo above) key [] c.raised-self-inside.ensures.1 (All-nil (IsUpTo above))) in
    rw c.in_ok-push.ensures.ok (known_more inside.top inside.under above inside.apart inside.keys key c.self.invariant up c.stays_apart-apart.result (rw (← c.self.view_is) at c.stays_apart-apart.ensures))
