use Rattle.ca_header.proofs.Framings.{framing_of}
use Rattle.ca_header.proofs.laws.every_stream_has_a_framing.Goals as goal

pub returns : goal.returns
returns c stream fits = framing_of stream fits
