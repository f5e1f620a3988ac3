use Rattle.std.proofs.Common.{◌≡◌, arith}
use Rattle.std.specs.Prelude.{count_by}
use Rattle.named_rows.specs.Channels.{is_channel_of}
use Rattle.gateway_core.proofs.Named.{all_named}
use Rattle.gateway_core.proofs.connections.names_of.Goals as goal

-- the loop goes as far as the session has channels
pub returns-clause-names : goal.returns-clause-names
returns-clause-names c =
    let counted : c.channel_count-n-end.result ≡ count_by (is_channel_of c.args.number) c.args.clients.now.rows.channels = c.channel_count-n-end.ensures in
    all_named (is_channel_of c.args.number) c.args.clients.now.rows.channels c.loop-n.names c.loop-n.n
    (omega (arith, c.loop-n-test.false, counted)) c.loop-n.invariant.0
