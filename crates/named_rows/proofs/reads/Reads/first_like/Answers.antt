use Rattle.std.proofs.Common.{ap, ◌∙◌}
use Rattle.std.specs.List.{find}
use Rattle.named_rows.specs.Indexes.{ReadRows, is_kept_like, read_home, read_key}
use Rattle.named_rows.proofs.BySid.{found_by_sid}
use Rattle.named_rows.proofs.Waiting.{like_named}
use Rattle.named_rows.proofs.reads.Reads.first_like.Goals as goal

-- an equal read names the same channel
pub returns : goal.returns
returns c =
    c.first_like.ensures
    ∙ found_by_sid read_key read_home (is_kept_like c.args.read.now) c.args.read.now.sid c.self.inside.rows.rows c.self.inside.by_sid _ (like_named c.args.read.now) c.are_apart.ensures c.self.invariant c.of.ensures
    ∙ ap (λ (reads : ReadRows). find (is_kept_like c.args.read.now) reads.rows) c.self.view_is
