-- The law is that of the definitions.
use Rattle.value_cache.proofs.GivingBack.{answer-held}
use Rattle.value_cache.proofs.laws.messages_are_given_back.Goals as goal

pub returns : goal.returns
returns c = answer-held
