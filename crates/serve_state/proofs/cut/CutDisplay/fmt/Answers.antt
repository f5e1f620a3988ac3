use Rattle.serve_state.proofs.cut.CutDisplay.fmt.Goals as goal

-- the pieces that are written are those of the text
pub returns-in-TooMuchInAll-clause-writes : goal.returns-in-TooMuchInAll-clause-writes
returns-in-TooMuchInAll-clause-writes g c = rw c.in-TooMuchInAll.is c.write-in-TooMuchInAll.ensures.writes
