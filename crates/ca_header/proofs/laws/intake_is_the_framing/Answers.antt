use Rattle.ca_header.proofs.Framings.{framed-intake}
use Rattle.ca_header.proofs.laws.intake_is_the_framing.Goals as goal

pub returns : goal.returns
returns c happenings held end fits leads e = framed-intake happenings held end fits leads e
