use Rattle.replay_text.proofs.WordsLemmas.{no_word-slice_split}
use Rattle.replay_text.proofs.words.Words.none.Goals as goal

pub returns-in-Some : goal.returns-in-Some
returns-in-Some c = rw (← (rw c.in-Some.is at c.self.view_is)) (no_word-slice_split c.in-Some.field-0.now)
