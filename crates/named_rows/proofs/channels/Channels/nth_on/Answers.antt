use Rattle.std.proofs.Common.{slice_get, bytes_eq, ap, ◌∙◌}
use Rattle.std.specs.List.{filter}
use Rattle.named_rows.specs.Channels.{is_on}
use Rattle.named_rows.specs.Indexes.{channel_key}
use Rattle.named_rows.proofs.Listed.{nth_listed}
use Rattle.named_rows.proofs.channels.Channels.nth_on.Goals as goal

-- the nth key of the name is the key of the nth channel on it
pub returns : goal.returns
returns c =
    c.nth_on.ensures
    ∙ nth_listed bytes_eq channel_key is_on c.self.inside.rows.rows c.self.inside.rows.on c.args.name.now c.args.n c.are_apart.ensures c.self.invariant
    ∙ ap (λ rows. slice_get (filter (is_on c.args.name.now) rows) c.args.n) c.self.view_is
