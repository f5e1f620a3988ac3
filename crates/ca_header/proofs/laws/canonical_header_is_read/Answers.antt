use Rattle.std.proofs.Common.{length, ap, ◌∙◌}
use Rattle.ca_header.specs.Header.{canonical_header}
use Rattle.ca_header.specs.Reading.{judged}
use Rattle.ca_header.proofs.Fronts.{verdict-well_formed}
use Rattle.ca_header.proofs.Heads.{IsSpelling-canonical, header_at-spelling}
use Rattle.ca_header.proofs.laws.canonical_header_is_read.Goals as goal

pub returns : goal.returns
returns c h rest fits w =
    ap judged (header_at-spelling h (canonical_header h) rest (IsSpelling-canonical h fits)) ∙ verdict-well_formed h (length (canonical_header h)) w
