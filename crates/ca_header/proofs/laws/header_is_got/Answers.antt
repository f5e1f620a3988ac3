use Rattle.std.proofs.Common.{◌∙◌}
use Rattle.ca_header.proofs.Fronts.{begins-head_at, head_at-begins, verdict-well_formed}
use Rattle.ca_header.proofs.laws.header_is_got.Goals as goal

pub returns : goal.returns
returns c bytes h n fits =
    (λ e. begins-head_at bytes h n fits e, λ there. head_at-begins bytes h n there.0 ∙ verdict-well_formed h n there.1)
