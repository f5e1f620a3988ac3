use Rattle.std.proofs.Common.{ℕ, min, sym, ap, subst, ◌∙◌}
use Rattle.std.specs.Option.{option_map}
use Rattle.ask_schedule.specs.Places.{AreRows, due_of}
use Rattle.ask_schedule.proofs.Found.{due-sooner, rows-sooner}
use Rattle.ask_schedule.proofs.schedule.Schedule.soon.Goals as goal

pub invariant_of-self : goal.invariant_of-self
invariant_of-self c =
    let rows = c.self.inside.rows.items in (
      subst (AreRows c.self.inside.limit) (sym c.make_rows_sooner.ensures) (rows-sooner c.self.inside.limit c.args.now c.args.tries rows c.self.invariant.0),
      λ name.
          c.make_dues_sooner.ensures name
          ∙ ap (option_map (λ (due : ℕ). min due c.due_after-latest.result)) (c.self.invariant.1 name)
          ∙ ap (λ (latest : ℕ). option_map (λ (due : ℕ). min due latest) (due_of name rows)) c.due_after-latest.ensures
          ∙ sym (due-sooner name c.args.now c.args.tries rows)
          ∙ ap (due_of name) (sym c.make_rows_sooner.ensures),
    )
