use Rattle.std.proofs.Common.{◌≡◌, length}
use Rattle.std.specs.List.{filter}
use Rattle.gateway_state.specs.CachedRows.{is_cached_by_another}
use Rattle.state_tables.proofs.cache.Cache.remove_by.Given as goal

-- the rows of others are as they were
abbrev pub invariant-loop : goal.invariant-loop
invariant-loop l = filter (is_cached_by_another l.server) l.self ≡ filter (is_cached_by_another l.server) l.fn.self

-- a row goes each time
abbrev pub decreases-loop : goal.decreases-loop
decreases-loop l = length l.self
