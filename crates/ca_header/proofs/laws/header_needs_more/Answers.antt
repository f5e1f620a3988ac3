use Rattle.ca_header.proofs.Fronts.{part-head_at}
use Rattle.ca_header.proofs.Messages.{head_at-part}
use Rattle.ca_header.proofs.laws.header_needs_more.Goals as goal

pub returns : goal.returns
returns c bytes fits = (λ e. part-head_at bytes fits e, λ part. head_at-part bytes fits part)
