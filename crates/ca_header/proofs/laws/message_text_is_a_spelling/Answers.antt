use Rattle.std.proofs.Common.{refl}
use Rattle.ca_header.specs.Header.{canonical_header}
use Rattle.ca_header.proofs.Heads.{IsSpelling-canonical}
use Rattle.ca_header.proofs.laws.message_text_is_a_spelling.Goals as goal

pub returns : goal.returns
returns c m fits w size =
    record { head = canonical_header m.head; spelling = IsSpelling-canonical m.head fits; well_formed = w; size = size; parts = refl }
