-- The law is that of the definitions.
use Rattle.mask_merge.proofs.ChangeLemmas.{counts_of_standing, wanted_by_standing, props_by_standing, nobody_stands}
use Rattle.mask_merge.proofs.laws.tallies_follow_those_that_stand.Goals as goal

pub returns : goal.returns
returns c =
    record {
      counts = counts_of_standing;
      wanted = wanted_by_standing;
      props = props_by_standing;
      nobody = nobody_stands;
    }
