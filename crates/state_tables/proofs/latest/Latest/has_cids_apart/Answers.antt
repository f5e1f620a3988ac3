use Rattle.std.proofs.Common.{subst}
use Rattle.state_tables.specs.LatestRows.{AreApart}
use Rattle.state_tables.proofs.LatestLemmas.{latest_apart}
use Rattle.state_tables.proofs.latest.Latest.has_cids_apart.Goals as goal

-- each row stands alone under its CID
pub returns : goal.returns
returns c = subst AreApart c.self.view_is (latest_apart c.self.inside.rows c.self.invariant c.has_keys_apart.ensures)
