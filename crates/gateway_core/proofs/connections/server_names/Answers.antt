use Rattle.std.proofs.Common.{◌≡◌, arith, filter, length}
use Rattle.link_table.specs.Links.{is_of}
use Rattle.gateway_core.proofs.Named.{all_linked}
use Rattle.gateway_core.proofs.connections.server_names.Goals as goal

-- the loop goes as far as the server has links
pub returns : goal.returns
returns c =
    let counted : c.link_count_of-n-end.result ≡ length (filter (is_of c.args.number) c.args.upstream.now.links) = c.link_count_of-n-end.ensures in
    all_linked (filter (is_of c.args.number) c.args.upstream.now.links) c.loop-n.names c.loop-n.n
    (omega (arith, c.loop-n-test.false, counted)) c.loop-n.invariant
