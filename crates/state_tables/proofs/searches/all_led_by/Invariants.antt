use Rattle.std.proofs.Common.{◌≡◌, ◌++◌, drop, map}
use Rattle.state_tables.specs.Kept.{AreRight, search_of, searches_of}
use Rattle.state_tables.proofs.searches.all_led_by.Given as goal

-- those that were added and those that are left are all; the rules stay
abbrev pub invariant-loop-row : goal.invariant-loop-row
invariant-loop-row l =
    (l.resolver ≡ l.policy.rules)
    × (AreRight l.policy l.new × (searches_of l.new ++ map (λ row. search_of row.now) (drop l.row-index l.rows) ≡ map (λ row. search_of row.now) l.rows))
