use Rattle.server_book.proofs.RunLemmas.{waits-handed_out}
use Rattle.server_book.proofs.laws.a_name_that_waits_is_handed_out.Goals as goal

pub returns : goal.returns
returns c = λ address name look number calls book either none. waits-handed_out address name look number calls book either none
