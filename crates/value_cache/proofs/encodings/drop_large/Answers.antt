use Rattle.std.proofs.Common.{rules}
use Rattle.std.proofs.lemmas.Fn.{filter_same}
use Rattle.value_cache.specs.Encodings.{is_small_one}
use Rattle.value_cache.proofs.encodings.drop_large.Goals as goal

-- the closure answers the test and stays as it is
pub returns-clause-value : goal.returns-clause-value
returns-clause-value c = filter_same _ is_small_one _ (λ row kept closure called. search rules) _ _ c.retain.ensures.filtered
