-- The law is that of the definitions.
use Rattle.dbr_layout.proofs.ReadingBack.{shown-layout}
use Rattle.dbr_layout.proofs.laws.layouts_read_back.Goals as goal

pub returns : goal.returns
returns c = shown-layout
