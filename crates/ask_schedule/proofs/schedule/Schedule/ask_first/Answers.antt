use Rattle.std.proofs.Common.{◌≡◌, ℕ, ◌+◌, min, Bool, cond, bytes_eq, List, ◌∷◌, Option, sym, ap, subst, ◌∙◌, arith}
use Rattle.std.specs.List.{count_by, insert}
use Rattle.std.specs.HashMap.{get}
use Rattle.std.specs.Option.{option_map}
use Rattle.ask_schedule.specs.declared.row.ScheduleRow.{ScheduleRow}
use Rattle.ask_schedule.specs.declared.row.TheConstants.{MOST_TRIES}
use Rattle.ask_schedule.specs.Places.{AreRows, InOrder, due_of, first_asked}
use Rattle.ask_schedule.specs.Plan.{Plan, again, due_after, is_due, placed}
use Rattle.ask_schedule.proofs.Found.{same_either_way}
use Rattle.ask_schedule.proofs.Looks.{due-asked, rows-asked}
use Rattle.ask_schedule.proofs.Order.{earlier, insert-placed}
use Rattle.ask_schedule.proofs.schedule.Schedule.ask_first.Goals as goal

-- the rows behind the first are in order
others : (limit : ℕ) (old new : List ScheduleRow) (row : ScheduleRow) → AreRows limit old → old ≡ row ∷ new → InOrder new
others limit old new row are front =
    let all = subst (AreRows limit) front are in
    earlier 0 row.due new (omega arith) all.ordered.1

pub due_by-place-requires : goal.due_by-place-requires
due_by-place-requires c = others c.self.inside.limit c.self.inside.rows.items c.pop_front.new.self.items c.in-Some.row c.self.invariant.0 c.in-Some.ensures.items

-- the row stands where it is due
stands : (limit now : ℕ) (old left new : List ScheduleRow) (row put : ScheduleRow) (place : ℕ) → AreRows limit old → old ≡ row ∷ left → put ≡ again now row → place ≡ count_by (is_due put.due) left
    → new ≡ insert left place put → new ≡ first_asked now old
stands limit now old left new row put place are front is at there =
    there ∙ ap (λ (k : ℕ). insert left k put) at ∙ insert-placed put 0 left (others limit old left row are front) ∙ ap (λ (r : ScheduleRow). placed r left) is ∙ ap (first_asked now) (sym front)

again-is : (now : ℕ) (row : ScheduleRow) (tries due : ℕ) → tries ≡ min (row.tries + 1) MOST_TRIES → due ≡ due_after now row.tries
    → let put : ScheduleRow = record { name = row.name; tries = tries; due = due } in put ≡ again now row
again-is now row tries due t d =
    let by_tries : ℕ → ScheduleRow = λ k. record { name = row.name; tries = k; due = due } in
    let by_due : ℕ → ScheduleRow = λ k. record { name = row.name; tries = min (row.tries + 1) MOST_TRIES; due = k } in
    ap by_tries t ∙ ap by_due d

-- when a name is due
kept : (limit now : ℕ) (old left new : List ScheduleRow) (row : ScheduleRow) (due : ℕ) (before after : Option ℕ) (n : List ℕ) → AreRows limit old → old ≡ row ∷ left
    → new ≡ first_asked now old → due ≡ due_after now row.tries → before ≡ due_of n old
    → after ≡ cond (bytes_eq row.name n) (option_map (λ (x : ℕ). due) before) before → after ≡ due_of n new
kept limit now old left new row due before after n are front is due_is was set =
    let changed : ℕ → Option ℕ → Bool → Option ℕ = λ k o b. cond b (option_map (λ (x : ℕ). k) o) o in
    set
    ∙ ap (λ (o : Option ℕ). changed due o (bytes_eq row.name n)) (was ∙ ap (due_of n) front)
    ∙ ap (changed due (due_of n (row ∷ left))) (same_either_way row.name n)
    ∙ ap (λ (k : ℕ). changed k (due_of n (row ∷ left)) (bytes_eq n row.name)) due_is
    ∙ sym (due-asked limit now row left n (subst (AreRows limit) front are))
    ∙ ap (λ (xs : List ScheduleRow). due_of n (first_asked now xs)) (sym front)
    ∙ ap (due_of n) (sym is)

pub invariant_of-self-2 : goal.invariant_of-self-2
invariant_of-self-2 c =
    let row = c.in-Some.row in
    let tries : c.min.result ≡ min (c.in-Some.row.tries + 1) MOST_TRIES = omega arith in
    let put = again-is c.args.now row c.min.result c.due_after-due.result tries c.due_after-due.ensures in
    let is = stands c.self.inside.limit c.args.now c.self.inside.rows.items c.pop_front.new.self.items c.insert.new.self.items row _ c.due_by-place.result c.self.invariant.0 c.in-Some.ensures.items put c.due_by-place.ensures.count c.in_default-insert.ensures.items in (
      subst (AreRows c.self.inside.limit) (sym is) (rows-asked c.self.inside.limit c.args.now c.self.inside.rows.items c.self.invariant.0),
      λ n. kept c.self.inside.limit c.args.now c.self.inside.rows.items c.pop_front.new.self.items c.insert.new.self.items row c.due_after-due.result (get bytes_eq c.self.inside.dues n) (get bytes_eq c.set_due.new.dues n) n
          c.self.invariant.0 c.in-Some.ensures.items is c.due_after-due.ensures (c.self.invariant.1 n) (c.set_due.ensures n),
    )

pub returns : goal.returns
returns c =
    let row = c.in-Some.row in
    let tries : c.min.result ≡ min (c.in-Some.row.tries + 1) MOST_TRIES = omega arith in
    let put = again-is c.args.now row c.min.result c.due_after-due.result tries c.due_after-due.ensures in
    let is = stands c.self.inside.limit c.args.now c.self.inside.rows.items c.pop_front.new.self.items c.insert.new.self.items row _ c.due_by-place.result c.self.invariant.0 c.in-Some.ensures.items put c.due_by-place.ensures.count c.in_default-insert.ensures.items in
    let plan : List ScheduleRow → Plan = λ xs. record { limit = c.self.inside.limit; rows = xs } in
    rw (← c.self.view_is) (ap plan is)
