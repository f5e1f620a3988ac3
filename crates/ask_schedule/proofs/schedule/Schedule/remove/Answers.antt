use Rattle.std.proofs.Common.{◌≡◌, ℕ, List, Option, Some, None, cond, is_some, bytes_eq, sym, ap, subst, ◌∙◌, rules}
use Rattle.std.specs.HashMap.{get}
use Rattle.std.specs.List.{filter, remove}
use Rattle.std.specs.Option.{IsSome, OnSome}
use Rattle.ask_schedule.specs.declared.row.ScheduleRow.{ScheduleRow}
use Rattle.ask_schedule.specs.Places.{AreRows, due_of}
use Rattle.ask_schedule.specs.Plan.{Plan, lacks_name}
use Rattle.ask_schedule.proofs.Found.{due-gone, filter-none, no_row, rows-without}
use Rattle.ask_schedule.proofs.schedule.Schedule.remove.Goals as goal

pub returns-in_default : goal.returns-in_default
returns-in_default c =
    let rows = c.self.inside.rows.items in
    let name = c.args.name.now in
    let none = no_row name rows (get bytes_eq c.self.inside.dues name) (c.self.invariant.1 name) (ap is_some (sym c.in_default.ensures.value)) in
    let plan : List ScheduleRow → Plan = λ xs. record { limit = c.self.inside.limit; rows = xs } in
    rw (← c.self.view_is) (ap plan (sym (filter-none name rows none)))

on_some : (taken : Option ScheduleRow) (P : Type 0) → IsSome taken → OnSome taken P → P
on_some None P some p = absurd cc
on_some (Some row) P some p = p

pub invariant_of-self-in-Some-place_of : goal.invariant_of-self-in-Some-place_of
invariant_of-self-in-Some-place_of c =
    let rows = c.self.inside.rows.items in
    let name = c.args.name.now in
    let none : Option ℕ = None in
    let new = c.remove-in-Some-place_of.new.self.items in
    let some : IsSome c.remove-in-Some-place_of.result = c.remove-in-Some-place_of.ensures.variant.1 (search (rules, c.in-Some-place_of.ensures.0)) in
    let taken = on_some c.remove-in-Some-place_of.result (new ≡ remove rows c.in-Some-place_of.place) some c.remove-in-Some-place_of.ensures.items in
    let is : new ≡ filter (lacks_name name) rows = taken ∙ c.in-Some-place_of.ensures.1 in (
      subst (AreRows c.self.inside.limit) (sym is) (rows-without c.self.inside.limit name rows c.self.invariant.0),
      λ other. c.in-Some.ensures.updates.0 other ∙ ap (cond (bytes_eq name other) none) (c.self.invariant.1 other) ∙ sym (due-gone name other rows) ∙ ap (due_of other) (sym is),
    )
