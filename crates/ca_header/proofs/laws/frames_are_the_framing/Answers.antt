use Rattle.ca_header.proofs.Framings.{framed-next}
use Rattle.ca_header.proofs.laws.frames_are_the_framing.Goals as goal

pub returns : goal.returns
returns c bytes frames last end fits calls e = framed-next bytes frames last end fits calls e
