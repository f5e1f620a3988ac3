use Rattle.std.proofs.Common.{◌≡◌, filter, fold, drop}
use Rattle.gateway_state.specs.Servers.{fails_without, read_failed}
use Rattle.direct_effect.proofs.update.fail_reads.Given as goal

-- failing those that are left leads from here to where failing all leads
abbrev pub invariant-loop-read : goal.invariant-loop-read
invariant-loop-read l =
    let fails = fails_without l.subject l.native in
    (fold read_failed l.known.state (filter fails (drop l.read-index l.read-items)) ≡ fold read_failed l.fn.known.state (filter fails l.read-items))
    × (l.known.brand ≡ l.fn.known.brand)
