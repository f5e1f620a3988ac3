use Rattle.std.proofs.Common.{◌≡◌, ℕ, List, Bool, subst, rules}
use Rattle.gateway_rows.specs.BrandedState.{BrandedState}
use Rattle.gateway_state.specs.Rights.{is_found}
use Rattle.pv_search.specs.Answer.{IsAnswer}
use Rattle.pv_search.proofs.AnswerLemmas.{answer_weaker}
use Rattle.gateway_core.proofs.search.search_known.Goals as goal

-- the closure answers the test
pub returns : goal.returns
returns c =
    let passing : List ℕ → Bool → Type 0 = λ name passes. passes ≡ is_found c.args.known.now.state c.args.host.now name in
    subst (λ (w : BrandedState). IsAnswer passing c.args.datagram.now w.state.config.port c.in_ok-found.found) c.known.view_is
    (answer_weaker _ passing (λ name passes called. search rules) c.args.datagram.now _ _ c.in_ok-found.ensures.ok)
