use Rattle.std.proofs.Common.{ap, ◌∙◌}
use Rattle.named_rows.specs.Demand.{all_exchanged}
use Rattle.named_rows.specs.Indexes.{SubRows}
use Rattle.named_rows.proofs.BySid.{exchanged_by_sid}
use Rattle.named_rows.proofs.subs.Subs.exchange_on.Goals as goal

pub returns : goal.returns
returns c =
    c.exchange_all.ensures
    ∙ exchanged_by_sid c.args.before c.args.after c.args.session c.args.sid c.self.inside.rows.rows c.self.inside.by_sid _ c.args.tally.now c.are_apart.ensures c.self.invariant c.of-keys.ensures
    ∙ ap (λ (subs : SubRows). all_exchanged c.args.before c.args.after c.args.session c.args.sid subs.rows c.args.tally.now) c.self.view_is
