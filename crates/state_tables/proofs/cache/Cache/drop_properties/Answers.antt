use Rattle.value_cache.specs.Held.{without_properties}
use Rattle.state_tables.proofs.ServerLemmas.{listed_changed}
use Rattle.state_tables.proofs.cache.Cache.drop_properties.Goals as goal

-- the row is of the same server
pub invariant_of-self : goal.invariant_of-self
invariant_of-self c =
    let s = c.self.inside in
    rw c.drop_properties.ensures (listed_changed c.args.cid without_properties s.latest s.listed c.self.invariant)
