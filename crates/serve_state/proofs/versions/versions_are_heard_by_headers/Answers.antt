use Rattle.serve_state.proofs.VersionLemmas.{by_headers}
use Rattle.serve_state.proofs.versions.versions_are_heard_by_headers.Goals as goal

pub returns : goal.returns
returns c = by_headers
