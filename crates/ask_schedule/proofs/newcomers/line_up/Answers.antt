use Rattle.std.proofs.Common.{◌≡◌, ℕ, ap, ◌∙◌}
use Rattle.std.specs.List.{insert}
use Rattle.ask_schedule.proofs.Lines.{insert-lined}
use Rattle.ask_schedule.proofs.newcomers.line_up.Goals as goal

pub returns-clause-rows : goal.returns-clause-rows
returns-clause-rows c =
    let rows = c.args.rows.now.items in
    c.in_default-insert-2.ensures.items
    ∙ ap (λ xs. insert xs c.by_lap-place.result c.args.row) c.reserve.ensures.items
    ∙ ap (λ (k : ℕ). insert rows k c.args.row) c.by_lap-place.ensures.count
    ∙ insert-lined c.args.row 0 rows c.requires
