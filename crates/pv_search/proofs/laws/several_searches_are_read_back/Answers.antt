use Rattle.pv_search.proofs.ReadBack.{searches_read_back}
use Rattle.pv_search.proofs.laws.several_searches_are_read_back.Goals as goal

pub returns-clause-several : goal.returns-clause-several
returns-clause-several c asks all = searches_read_back asks all
