use Rattle.std.proofs.Common.{ap, ◌∙◌}
use Rattle.std.specs.List.{list_any}
use Rattle.gateway_state.specs.CachedRows.{is_cached_of}
use Rattle.state_tables.proofs.LatestLemmas.{latest_more, none_found, rows_and_one}
use Rattle.state_tables.proofs.latest.Latest.add.Goals as goal

pub add-requires : goal.add-requires
add-requires c = record {
  new = none_found c.self.inside.rows c.self.invariant c.args.cid _ c.key.ensures (ap (list_any (is_cached_of c.args.cid)) c.self.view_is ∙ c.requires.new);
}

pub invariant_of-self : goal.invariant_of-self
invariant_of-self c = latest_more c.self.inside.rows c.self.invariant _ _ c.key.ensures _ c.add.result c.add.ensures.ok c.add.ensures.err

pub returns-clause-ok : goal.returns-clause-ok
returns-clause-ok c = rw (← c.self.view_is, ← c.empty.ensures) (rows_and_one c.self.inside.rows c.self.invariant _ _ c.key.ensures _ c.add.result c.add.ensures.ok)
