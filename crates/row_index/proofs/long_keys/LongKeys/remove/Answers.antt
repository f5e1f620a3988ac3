use Rattle.std.proofs.Common.{◌∙◌, subst}
use Rattle.std.proofs.lemmas.List.Elements.{All-filter}
use Rattle.std.specs.List.{All}
use Rattle.row_index.specs.KeyLists.{IsUpTo}
use Rattle.row_index.specs.Lists.{is_key, is_not_key}
use Rattle.row_index.proofs.Keys.{same_key_itself}
use Rattle.row_index.proofs.Known.{known_fewer}
use Rattle.row_index.proofs.Once.{others_at}
use Rattle.row_index.proofs.long_keys.LongKeys.remove.Goals as goal

pub invariant_of-self : goal.invariant_of-self
invariant_of-self c =
    let inside = c.self.inside in
    let key = c.args.key in
    let found = rw (← c.self.view_is) at c.in-Some.ensures in
    let others = others_at (is_key key) inside.keys c.in-Some.place key found.0 (same_key_itself key) found.1 in
    let up = subst (All (IsUpTo c.top_without-top.result)) others (rw (← c.self.view_is) at c.top_without-top.ensures) in
    rw (c.remove.ensures ∙ others) (known_fewer inside.top inside.under c.top_without-top.result inside.apart inside.keys (is_not_key key) c.self.invariant up)

pub invariant_of-self-in-None : goal.invariant_of-self-in-None
invariant_of-self-in-None c =
    let inside = c.self.inside in
    let up = All-filter (is_not_key c.args.key) (IsUpTo inside.top) inside.keys c.self.invariant.up_to in
    rw c.remove_all.ensures (known_fewer inside.top inside.under inside.top inside.apart inside.keys (is_not_key c.args.key) c.self.invariant up)

pub returns-in-Some : goal.returns-in-Some
returns-in-Some c =
    let key = c.args.key in
    let found = rw (← c.self.view_is) at c.in-Some.ensures in
    rw (← c.self.view_is) (c.remove.ensures ∙ others_at (is_key key) c.self.inside.keys c.in-Some.place key found.0 (same_key_itself key) found.1)
