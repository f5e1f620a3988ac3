-- What a gateway answers to searches by datagram.
use Rattle.std.specs.Prelude.{◌≡◌, ℕ, List}
use Rattle.pv_search.specs.declared.answering.SearchAnswer.{SearchAnswer}
use Rattle.pv_search.specs.Answer.{IsAnswer}
use Rattle.gateway_state.specs.Gateway.{Gateway}
use Rattle.gateway_state.specs.Rights.{is_found}

-- the answer to a host's datagram: those names pass that lead to connected variables
abbrev pub IsSearched : Gateway → List ℕ → List ℕ → SearchAnswer → Type 0
IsSearched w host datagram answer = IsAnswer (λ name passes. passes ≡ is_found w host name) datagram w.config.port answer
