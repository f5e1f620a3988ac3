-- The model has as many elements as the view counts.
use Rattle.std.proofs.Common.{sym}
use Rattle.dbr_layout.proofs.Elements.{length-elements_in}
use Rattle.dbr_layout.proofs.view.View.count.Goals as goal

pub returns : goal.returns
returns c = rw (← c.self.view_is) (sym (length-elements_in _ _ _))
