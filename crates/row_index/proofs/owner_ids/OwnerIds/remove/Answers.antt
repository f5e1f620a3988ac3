use Rattle.std.proofs.Common.{ℕ, nat_eq, ◌≡◌, List, is_some, refl, length, Some, None, ap, sym, ◌∙◌, arith}
use Rattle.std.specs.List.{filter}
use Rattle.std.proofs.lemmas.Bool.{eqb-true}
use Rattle.row_index.specs.Lists.{is_not_id}
use Rattle.row_index.proofs.Named.{of_there, of_updated, of_without, taken_out, no_items, no_empty_updated, some_items, kept_as_long}
use Rattle.row_index.proofs.owner_ids.OwnerIds.remove.Goals as goal

pub returns-in_default : goal.returns-in_default
returns-in_default c =
    rw (c.get_mut.follows.holds-at-none, ← c.self.view_is) (of_without nat_eq eqb-true (filter (is_not_id c.args.id)) c.args.owner c.self.inside.lists.entries c.in_default.ensures.value refl)

pub returns-else-is_empty : goal.returns-else-is_empty
returns-else-is_empty c =
    let without : List ℕ → List ℕ = filter (is_not_id c.args.id) in
    let old = c.self.inside.lists.entries in
    let there = of_there nat_eq eqb-true c.args.owner old c.in-Some.ids.now c.in-Some.ensures.value in
    let written = c.get_mut.follows.holds c.remove.new.self in
    rw (← c.self.view_is) (
    of_updated nat_eq eqb-true without c.args.owner old (c.get_mut.follows.lender c.remove.new.self).entries (Some c.remove.new.self) (written.3 (sym (ap is_some c.in-Some.ensures.value))).0
    (c.remove.ensures ∙ ap without there)
    )

pub returns-then-is_empty : goal.returns-then-is_empty
returns-then-is_empty c =
    let without : List ℕ → List ℕ = filter (is_not_id c.args.id) in
    let old = c.self.inside.lists.entries in
    let mid = (c.get_mut.follows.lender c.remove.new.self).entries in
    let there = of_there nat_eq eqb-true c.args.owner old c.in-Some.ids.now c.in-Some.ensures.value in
    let written = c.get_mut.follows.holds c.remove.new.self in
    let empty : length c.remove.new.self ≡ 0 = eqb-true (length c.remove.new.self) 0 (sym c.if-is_empty.ensures) in
    rw (← c.self.view_is) (
    of_updated nat_eq eqb-true without c.args.owner old c.forget.new.lists.entries None
    (taken_out nat_eq eqb-true c.args.owner old mid c.forget.new.lists.entries (Some c.remove.new.self) (written.3 (sym (ap is_some c.in-Some.ensures.value))).0 c.forget.ensures.lists)
    (sym (no_items c.remove.new.self empty) ∙ c.remove.ensures ∙ ap without there)
    )

pub remove-requires : goal.remove-requires
remove-requires c =
    let there = of_there nat_eq eqb-true c.args.owner c.self.inside.lists.entries c.in-Some.ids.now c.in-Some.ensures.value in
    rw there (rw (← c.self.view_is) at c.requires)

pub invariant_of-self-then-is_empty : goal.invariant_of-self-then-is_empty
invariant_of-self-then-is_empty c =
    let old = c.self.inside.lists.entries in
    let mid = (c.get_mut.follows.lender c.remove.new.self).entries in
    let written = c.get_mut.follows.holds c.remove.new.self in
    let filled = no_empty_updated nat_eq eqb-true c.args.owner old c.forget.new.lists.entries None
    (taken_out nat_eq eqb-true c.args.owner old mid c.forget.new.lists.entries (Some c.remove.new.self) (written.3 (sym (ap is_some c.in-Some.ensures.value))).0 c.forget.ensures.lists)
    (λ none. refl) c.self.invariant.filled in
    let same = written.2 in
    let spare = c.self.invariant.spare in
    record { filled = filled; spare = c.forget.ensures.hints (omega (arith, same, spare)) }

pub invariant_of-self-else-is_empty : goal.invariant_of-self-else-is_empty
invariant_of-self-else-is_empty c =
    let old = c.self.inside.lists.entries in
    let written = c.get_mut.follows.holds c.remove.new.self in
    let new = (c.get_mut.follows.lender c.remove.new.self).entries in
    let filled = no_empty_updated nat_eq eqb-true c.args.owner old new (Some c.remove.new.self) (written.3 (sym (ap is_some c.in-Some.ensures.value))).0
    (some_items c.remove.new.self (sym c.if-is_empty.ensures)) c.self.invariant.filled in
    kept_as_long nat_eq old new c.self.inside.hints c.self.invariant filled written.2
