use Rattle.std.proofs.Common.{nat_lt, ap, ◌∙◌}
use Rattle.named_rows.specs.Channels.{is_on}
use Rattle.named_rows.proofs.Lists.{any_where_some}
use Rattle.named_rows.proofs.channels.Channels.is_used.Goals as goal

pub returns : goal.returns
returns c = ap (nat_lt 0) c.count_on.ensures ∙ any_where_some (is_on c.args.name.now) _
