use Rattle.std.proofs.Common.{bytes_eq, ◌≡◌, List, is_some, refl, length, Some, None, ap, sym, ◌∙◌, arith}
use Rattle.std.specs.List.{filter}
use Rattle.std.proofs.lemmas.Bool.{eqb-true}
use Rattle.row_index.specs.declared.key.Key.{Key}
use Rattle.row_index.specs.Lists.{is_not_key}
use Rattle.row_index.proofs.Named.{of_there, of_updated, of_without, taken_out, no_items, no_empty_updated, some_items, same_bytes, kept_as_long}
use Rattle.row_index.proofs.name_lists.NameLists.remove.Goals as goal

pub returns-in_default : goal.returns-in_default
returns-in_default c =
    rw (c.get_mut.follows.holds-at-none, ← c.self.view_is) (of_without bytes_eq same_bytes (filter (is_not_key c.args.key)) c.args.name.now c.self.inside.lists.entries c.in_default.ensures.value refl)

pub returns-else-is_empty : goal.returns-else-is_empty
returns-else-is_empty c =
    let without : List Key → List Key = filter (is_not_key c.args.key) in
    let old = c.self.inside.lists.entries in
    let there = of_there bytes_eq same_bytes c.args.name.now old c.in-Some.keys.now c.in-Some.ensures.value in
    let written = c.get_mut.follows.holds c.remove.new.self in
    rw (← c.self.view_is) (
    of_updated bytes_eq same_bytes without c.args.name.now old (c.get_mut.follows.lender c.remove.new.self).entries (Some c.remove.new.self) (written.3 (sym (ap is_some c.in-Some.ensures.value))).0
    (c.remove.ensures ∙ ap without there)
    )

pub returns-then-is_empty : goal.returns-then-is_empty
returns-then-is_empty c =
    let without : List Key → List Key = filter (is_not_key c.args.key) in
    let old = c.self.inside.lists.entries in
    let mid = (c.get_mut.follows.lender c.remove.new.self).entries in
    let there = of_there bytes_eq same_bytes c.args.name.now old c.in-Some.keys.now c.in-Some.ensures.value in
    let written = c.get_mut.follows.holds c.remove.new.self in
    let empty : length c.remove.new.self ≡ 0 = eqb-true (length c.remove.new.self) 0 (sym c.if-is_empty.ensures) in
    rw (← c.self.view_is) (
    of_updated bytes_eq same_bytes without c.args.name.now old c.forget.new.lists.entries None
    (taken_out bytes_eq same_bytes c.args.name.now old mid c.forget.new.lists.entries (Some c.remove.new.self) (written.3 (sym (ap is_some c.in-Some.ensures.value))).0 c.forget.ensures.lists)
    (sym (no_items c.remove.new.self empty) ∙ c.remove.ensures ∙ ap without there)
    )

pub invariant_of-self-then-is_empty : goal.invariant_of-self-then-is_empty
invariant_of-self-then-is_empty c =
    let old = c.self.inside.lists.entries in
    let mid = (c.get_mut.follows.lender c.remove.new.self).entries in
    let written = c.get_mut.follows.holds c.remove.new.self in
    let filled = no_empty_updated bytes_eq same_bytes c.args.name.now old c.forget.new.lists.entries None
    (taken_out bytes_eq same_bytes c.args.name.now old mid c.forget.new.lists.entries (Some c.remove.new.self) (written.3 (sym (ap is_some c.in-Some.ensures.value))).0 c.forget.ensures.lists)
    (λ none. refl) c.self.invariant.filled in
    let same = written.2 in
    let spare = c.self.invariant.spare in
    record { filled = filled; spare = c.forget.ensures.hints (omega (arith, same, spare)) }

pub invariant_of-self-else-is_empty : goal.invariant_of-self-else-is_empty
invariant_of-self-else-is_empty c =
    let old = c.self.inside.lists.entries in
    let written = c.get_mut.follows.holds c.remove.new.self in
    let new = (c.get_mut.follows.lender c.remove.new.self).entries in
    let filled = no_empty_updated bytes_eq same_bytes c.args.name.now old new (Some c.remove.new.self) (written.3 (sym (ap is_some c.in-Some.ensures.value))).0
    (some_items c.remove.new.self (sym c.if-is_empty.ensures)) c.self.invariant.filled in
    kept_as_long bytes_eq old new c.self.inside.hints c.self.invariant filled written.2
