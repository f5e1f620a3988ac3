-- The law is that of the definitions.
use Rattle.dbr_layout.proofs.WritingBack.{shown-written}
use Rattle.dbr_layout.proofs.laws.views_write_back.Goals as goal

pub returns : goal.returns
returns c = shown-written
