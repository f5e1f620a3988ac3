-- There are as many as are counted.
use Rattle.std.proofs.Common.{sym}
use Rattle.dbr_layout.proofs.Elements.{length-elements_in}
use Rattle.dbr_layout.proofs.sized.Elements.count.Goals as goal

pub returns : goal.returns
returns c = rw (← c.self.view_is) (sym (length-elements_in _ _ _))
