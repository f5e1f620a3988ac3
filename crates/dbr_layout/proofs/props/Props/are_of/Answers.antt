-- Properties in bytes are as large as those of their base.
use Rattle.dbr_layout.proofs.Fitting.{Fit-properties_of}
use Rattle.dbr_layout.proofs.props.Props.are_of.Goals as goal

pub returns-clause-fit : goal.returns-clause-fit
returns-clause-fit c = rw (← c.self.view_is) (Fit-properties_of _ _ c.self.invariant)
