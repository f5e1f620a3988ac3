use Rattle.std.proofs.Common.{ap, ◌∙◌}
use Rattle.std.specs.List.{find}
use Rattle.named_rows.specs.Indexes.{SubRows, sub_home, sub_key}
use Rattle.named_rows.specs.Subs.{is_sub_on}
use Rattle.named_rows.proofs.BySid.{found_by_sid}
use Rattle.named_rows.proofs.Waiting.{second_of_both}
use Rattle.named_rows.proofs.subs.Subs.first_on.Goals as goal

pub returns : goal.returns
returns c =
    c.first.ensures
    ∙ found_by_sid sub_key sub_home (is_sub_on c.args.session c.args.sid) c.args.sid c.self.inside.rows.rows c.self.inside.by_sid _ (λ sub on. second_of_both _ _ on) c.are_apart.ensures c.self.invariant c.of.ensures
    ∙ ap (λ (subs : SubRows). find (is_sub_on c.args.session c.args.sid) subs.rows) c.self.view_is
