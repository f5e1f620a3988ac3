use Rattle.std.proofs.Common.{bytes_eq, ap, ◌∙◌}
use Rattle.std.specs.List.{list_any}
use Rattle.named_rows.specs.Channels.{is_channel, is_on}
use Rattle.named_rows.specs.Indexes.{channel_key}
use Rattle.named_rows.proofs.Listed.{unlisted}
use Rattle.named_rows.proofs.channels.Channels.add.Goals as goal

pub add_named-requires-clause-unlisted : goal.add_named-requires-clause-unlisted
add_named-requires-clause-unlisted c =
    unlisted bytes_eq channel_key is_on c.self.inside.rows.rows c.self.inside.rows.on (channel_key c.args.channel) c.args.channel.real c.self.invariant
    (ap (list_any (is_channel c.args.channel.session c.args.channel.sid)) c.self.view_is ∙ c.requires.new)
