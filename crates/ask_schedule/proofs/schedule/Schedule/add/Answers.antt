use Rattle.std.proofs.Common.{◌≡◌, ℕ, ◌<◌, ◌≤◌, List, length, Some, cond, rules, bytes_eq, sym, ap, subst, ◌∙◌}
use Rattle.std.specs.HashMap.{get}
use Rattle.std.specs.List.{count_by, insert}
use Rattle.ask_schedule.specs.declared.row.ScheduleRow.{ScheduleRow}
use Rattle.ask_schedule.specs.Places.{AreRows, due_of}
use Rattle.ask_schedule.specs.Plan.{Plan, fresh, is_due, placed}
use Rattle.ask_schedule.proofs.Found.{answer-full, answer-known, answer-new, due-added, no_row, rows-placed}
use Rattle.ask_schedule.proofs.Order.{insert-placed}
use Rattle.ask_schedule.proofs.schedule.Schedule.add.Goals as goal

pub returns-then-contains_key-clause-answer : goal.returns-then-contains_key-clause-answer
returns-then-contains_key-clause-answer c =
    rw (← c.self.view_is) (answer-known c.args.name.now _ (get bytes_eq c.self.inside.dues c.args.name.now) (c.self.invariant.1 c.args.name.now) (sym c.if-contains_key.ensures))

pub returns-then-len-self-clause-answer : goal.returns-then-len-self-clause-answer
returns-then-len-self-clause-answer c =
    let full : c.self.inside.limit ≤ length c.self.inside.rows.items = search rules in
    rw (← c.self.view_is) (answer-full c.args.name.now _ (get bytes_eq c.self.inside.dues c.args.name.now) (c.self.invariant.1 c.args.name.now) (sym c.if-contains_key.ensures) full)

pub returns-clause-answer : goal.returns-clause-answer
returns-clause-answer c =
    let room : length c.self.inside.rows.items < c.self.inside.limit = search rules in
    rw (← c.self.view_is) (answer-new c.args.name.now _ (get bytes_eq c.self.inside.dues c.args.name.now) (c.self.invariant.1 c.args.name.now) (sym c.if-contains_key.ensures) room)

-- the new row stands behind those that are due as soon
stands : (rows new : List ScheduleRow) (place : ℕ) (copy name : List ℕ) (limit : ℕ) → AreRows limit rows → copy ≡ name → place ≡ count_by (is_due 0) rows
    → new ≡ insert rows place (fresh copy) → new ≡ placed (fresh name) rows
stands rows new place copy name limit are same at put =
    put ∙ ap (insert rows place) (ap fresh same) ∙ ap (λ (k : ℕ). insert rows k (fresh name)) at ∙ insert-placed (fresh name) 0 rows are.ordered

pub invariant_of-self-in_default-insert : goal.invariant_of-self-in_default-insert
invariant_of-self-in_default-insert c =
    let rows = c.self.inside.rows.items in
    let name = c.args.name.now in
    let new = c.insert-2.new.self.items in
    let none = no_row name rows (get bytes_eq c.self.inside.dues name) (c.self.invariant.1 name) (sym c.if-contains_key.ensures) in
    let is = stands rows new c.due_by-place.result c.in_ok-copy.field-0 name c.self.inside.limit c.self.invariant.0 c.in_ok-copy.ensures c.due_by-place.ensures.count c.in_default-insert.ensures.items in
    let room : length rows < c.self.inside.limit = search rules in (
      subst (AreRows c.self.inside.limit) (sym is) (rows-placed c.self.inside.limit (fresh name) rows none room c.self.invariant.0),
      λ other.
          let put = rw c.in_ok-copy-2.ensures at c.in_default.ensures.updates.0 other in
          put
          ∙ ap (cond (bytes_eq name other) (Some 0)) (c.self.invariant.1 other)
          ∙ sym (due-added name other rows none)
          ∙ ap (due_of other) (sym is),
    )

pub returns-clause-ok : goal.returns-clause-ok
returns-clause-ok c =
    let rows = c.self.inside.rows.items in
    let name = c.args.name.now in
    let is = stands rows c.insert-2.new.self.items c.due_by-place.result c.in_ok-copy.field-0 name c.self.inside.limit c.self.invariant.0 c.in_ok-copy.ensures c.due_by-place.ensures.count c.in_default-insert.ensures.items in
    let plan : List ScheduleRow → Plan = λ xs. record { limit = c.self.inside.limit; rows = xs } in
    rw (← c.self.view_is) (ap plan is)
