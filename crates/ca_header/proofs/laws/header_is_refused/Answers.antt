use Rattle.std.proofs.Common.{◌∙◌}
use Rattle.ca_header.proofs.Fronts.{faulty-head_at, head_at-begins, verdict-fault}
use Rattle.ca_header.proofs.laws.header_is_refused.Goals as goal

pub returns : goal.returns
returns c bytes f fits =
    (λ e. faulty-head_at bytes f fits e, λ there. head_at-begins bytes there.0 there.1 there.2 ∙ verdict-fault there.0 there.1 f there.3)
