use Rattle.std.proofs.Common.{◌≡◌, ℕ, ◌≤◌, List, map, min, take, sym, ap, ◌∙◌, arith}
use Rattle.std.specs.List.{count_by}
use Rattle.ask_schedule.specs.declared.row.ScheduleRow.{ScheduleRow}
use Rattle.ask_schedule.specs.declared.row.TheConstants.{LAST_LOOK}
use Rattle.ask_schedule.specs.Places.{InOrder}
use Rattle.ask_schedule.specs.Plan.{Plan, is_due, name_of}
use Rattle.ask_schedule.proofs.Looks.{asked-front, asked_times, left-is}
use Rattle.ask_schedule.proofs.schedule.Schedule.due.Goals as goal

pub returns-clause-names : goal.returns-clause-names
returns-clause-names c =
    let rows = c.self.inside.rows.items in
    let count : c.min-count.result ≡ min (count_by (is_due c.args.now) rows) c.args.most = c.min-count.ensures ∙ ap (λ (k : ℕ). min k c.args.most) c.due_by.ensures.count in
    rw (← c.self.view_is) (
    c.in_ok-names.ensures ∙ ap (λ (k : ℕ). map name_of (take k rows)) count ∙ ap (map name_of) (sym (asked-front c.args.now c.args.most rows c.self.invariant.0.ordered))
    )

pub returns-clause-ok : goal.returns-clause-ok
returns-clause-ok c =
    let ordered : InOrder c.args.self.now.rows = rw (← c.self.view_is) c.self.invariant.0.ordered in
    let by_rows : c.due_by.result ≡ count_by (is_due c.args.now) c.args.self.now.rows = rw (← c.self.view_is) c.due_by.ensures.count in
    let count : c.min-count.result ≡ min (count_by (is_due c.args.now) c.args.self.now.rows) c.args.most = c.min-count.ensures ∙ ap (λ (k : ℕ). min k c.args.most) by_rows in
    let done : c.loop.counter ≡ c.min-count.result = omega arith in
    let last : c.args.now ≤ LAST_LOOK = omega arith in
    let plan : ℕ → List ScheduleRow → Plan = λ k xs. record { limit = k; rows = xs } in
    ap (λ (k : ℕ). plan k c.loop.self.rows) c.loop.invariant.limit
    ∙ ap (plan c.args.self.now.limit) (
    c.loop.invariant.rows
    ∙ ap (λ (k : ℕ). asked_times c.args.now k c.args.self.now.rows) (done ∙ count)
    ∙ left-is c.args.now c.args.most c.args.self.now.rows ordered last
    )
