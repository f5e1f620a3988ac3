use Rattle.named_rows.proofs.TalliesByName.{demand_back}
use Rattle.named_rows.proofs.counted_rows.add_sub.Goals as goal

-- what was counted is counted no longer
pub returns-in-Err-clause-err_demand : goal.returns-in-Err-clause-err_demand
returns-in-Err-clause-err_demand c =
    demand_back c.args.channel.now.real _ _ _ _ c.in_ok-add.ensures.ok c.remove.ensures c.requires.counts
