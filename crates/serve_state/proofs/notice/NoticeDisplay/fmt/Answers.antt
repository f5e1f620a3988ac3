use Rattle.serve_state.proofs.notice.NoticeDisplay.fmt.Goals as goal

-- the pieces that are written are those of the text
pub returns-in-FoundCut-clause-writes : goal.returns-in-FoundCut-clause-writes
returns-in-FoundCut-clause-writes g c = rw c.in-FoundCut.is c.write-in-FoundCut.ensures.writes

pub returns-in-NameServerCut-clause-writes : goal.returns-in-NameServerCut-clause-writes
returns-in-NameServerCut-clause-writes g c = rw c.in-NameServerCut.is c.write-in-NameServerCut.ensures.writes

pub returns-in-ServersFull-clause-writes : goal.returns-in-ServersFull-clause-writes
returns-in-ServersFull-clause-writes g c = rw c.in-ServersFull.is c.write-in-ServersFull.ensures.writes

pub returns-in-NameAtTwo-clause-writes : goal.returns-in-NameAtTwo-clause-writes
returns-in-NameAtTwo-clause-writes g c = rw c.in-NameAtTwo.is c.write-in-NameAtTwo.ensures.writes

pub returns-in-ClientCut-clause-writes : goal.returns-in-ClientCut-clause-writes
returns-in-ClientCut-clause-writes g c = rw c.in-ClientCut.is c.write-in-ClientCut.ensures.writes

pub returns-in-ClientRefused-clause-writes : goal.returns-in-ClientRefused-clause-writes
returns-in-ClientRefused-clause-writes g c = rw c.in-ClientRefused.is c.write-in-ClientRefused.ensures.writes

pub returns-in-NamesNearLimit-clause-writes : goal.returns-in-NamesNearLimit-clause-writes
returns-in-NamesNearLimit-clause-writes g c = rw c.in-NamesNearLimit.is c.write-in-NamesNearLimit.ensures.writes

pub returns-in-NameOfTwo-clause-writes : goal.returns-in-NameOfTwo-clause-writes
returns-in-NameOfTwo-clause-writes g c = rw c.in-NameOfTwo.is c.write-in-NameOfTwo.ensures.writes
