-- What the laws of searches say.
use Rattle.std.specs.Prelude.{ℕ, ◌<◌, ◌^◌, List, [], ◌∷◌}
use Rattle.pv_name.specs.Name.{IsName}
use Rattle.pv_search.specs.declared.asks.NameAsk.{NameAsk}

-- each number fits in the field of a CID
abbrev pub AreCids : List ℕ → Type 0
AreCids [] = Unit {0}
AreCids (cid ∷ cids) = (cid < 2 ^ 32) × AreCids cids

-- each asks for a name, under a number that fits in the field of a CID
abbrev pub AreAsks : List NameAsk → Type 0
AreAsks [] = Unit {0}
AreAsks (asked ∷ asks) = IsName asked.name × (asked.cid < 2 ^ 32) × AreAsks asks
