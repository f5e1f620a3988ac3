use Rattle.ca_header.proofs.Fronts.{faulty-front_at, front_at-faulty}
use Rattle.ca_header.proofs.laws.stream_is_faulty.Goals as goal

pub returns : goal.returns
returns c bytes f fits =
    (λ e. faulty-front_at bytes f fits e, λ there. front_at-faulty bytes there.0 there.1 f there.2 there.3)
