-- What is given one by one.
use Rattle.std.proofs.Common.{◌≡◌, ℕ, suc, ◌+◌, ◌<◌, List, length, drop, get_or, sym, ap, ◌∙◌}
use Rattle.std.specs.List.{fold}
use Rattle.std.proofs.Math.Numerals.{suc-eq-add-one}
use Rattle.std.proofs.Math.Seq.{drop-cons}
use Rattle.gateway_state.specs.Gateway.{Gateway}

-- giving the next one leads to where giving all that are left does
pub told_next : {X : Type 0} (tell : Gateway → X → Gateway) (v w end : Gateway) (notices : List X) (place : ℕ) (d : X) → place < length notices → v ≡ tell w (get_or notices place d)
    → fold tell w (drop place notices) ≡ end → fold tell v (drop (place + 1) notices) ≡ end
told_next tell v w end notices place d within is so_far =
    rw (sym (suc-eq-add-one place)) (ap (λ (from : Gateway). fold tell from (drop (suc place) notices)) is ∙ ap (fold tell w) (sym (drop-cons notices place d within)) ∙ so_far)
