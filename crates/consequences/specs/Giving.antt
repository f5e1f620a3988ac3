-- What subscribers of one variable are given of it, one after the other.
use Rattle.std.specs.Prelude.{◌≡◌, ℕ, List, Option, Some, None, IfSome}
use Rattle.std.specs.List.{find}
use Rattle.gateway_state.specs.declared.cached.LastMessage.{LastMessage}
use Rattle.gateway_state.specs.declared.reading.Given.{Given}
use Rattle.gateway_state.specs.Answer.{cached_as}
use Rattle.gateway_state.specs.CachedRows.{is_cached_of}
use Rattle.gateway_state.specs.Gateway.{Gateway}
use Rattle.gateway_state.specs.Quantities.{Count, Dtype}
use Rattle.gateway_state.specs.Variables.{connected}
use Rattle.consequences.specs.InTurn.{source_over}
use Rattle.consequences.specs.declared.giving.Giving.{Giving}
use Rattle.consequences.specs.declared.giving.LastGiven.{LastGiven}
use Rattle.consequences.specs.declared.source.ValueSource.{ValueSource}

-- what is had from there as an asked type and count; nothing from nowhere
abbrev pub given_from : List LastMessage → Option ValueSource → Dtype → Count → Option Given
given_from cache None dtype count = None
given_from cache (Some source) dtype count = cached_as source.native dtype count (find (is_cached_of source.cid) cache)

abbrev pub given_of : LastGiven → Given
given_of last = record { count = last.given; payload = last.payload }

-- what was given last, if anything was, is what is had from there now
abbrev pub IsHadStill : List LastMessage → Option ValueSource → Option LastGiven → Type 0
IsHadStill cache source last = IfSome last (λ given. Some (given_of given) ≡ given_from cache source given.dtype given.count)

abbrev pub IsGivenStill : List LastMessage → Giving → Type 0
IsGivenStill cache giving = IsHadStill cache giving.source giving.last

-- all of it is of the variable that this name is connected to, if it is to one
abbrev pub GivesOf : Gateway → List ℕ → Giving → Type 0
GivesOf w name giving = (giving.source ≡ source_over (connected w name)) × IsGivenStill w.cache giving
