use Rattle.std.proofs.Common.{ap, ◌∙◌}
use Rattle.std.specs.List.{find}
use Rattle.named_rows.specs.Indexes.{ReadRows, is_kept_on, read_home, read_key}
use Rattle.named_rows.proofs.BySid.{found_by_sid}
use Rattle.named_rows.proofs.Waiting.{second_of_both}
use Rattle.named_rows.proofs.reads.Reads.first_on.Goals as goal

pub returns : goal.returns
returns c =
    c.first_on.ensures
    ∙ found_by_sid read_key read_home (is_kept_on c.args.session c.args.sid) c.args.sid c.self.inside.rows.rows c.self.inside.by_sid _ (λ row on. second_of_both _ _ on) c.are_apart.ensures c.self.invariant c.of.ensures
    ∙ ap (λ (reads : ReadRows). find (is_kept_on c.args.session c.args.sid) reads.rows) c.self.view_is
