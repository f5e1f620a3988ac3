use Rattle.ca_header.proofs.Fronts.{partial-front_at}
use Rattle.ca_header.proofs.Messages.{front_at-partial}
use Rattle.ca_header.proofs.laws.message_is_partial.Goals as goal

pub returns : goal.returns
returns c bytes fits = (λ e. partial-front_at bytes fits e, λ part. front_at-partial bytes fits part)
