use Rattle.ca_header.proofs.Fronts.{begins-front_at, front_at-begins}
use Rattle.ca_header.proofs.laws.message_is_whole.Goals as goal

pub returns : goal.returns
returns c bytes h n fits =
    (λ e. begins-front_at bytes h n fits e, λ there. front_at-begins bytes h n there.0 there.1 there.2)
