use Rattle.ca_header.proofs.Framings.{unique}
use Rattle.ca_header.proofs.laws.framing_is_unique.Goals as goal

pub returns : goal.returns
returns c stream ms ns end other fits f g = unique stream ms ns end other fits f g
