-- Each law is that of the definitions.
use Rattle.serve_state.proofs.BeaconLemmas.{are_counted}
use Rattle.serve_state.proofs.beacon.beacons_are_counted.Goals as goal

pub returns-clause-counted : goal.returns-clause-counted
returns-clause-counted c = are_counted
