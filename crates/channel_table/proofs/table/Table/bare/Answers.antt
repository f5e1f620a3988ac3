use Rattle.named_rows.specs.Indexes.{read_home, read_key, sub_home, sub_key}
use Rattle.named_rows.proofs.Following.{follow_none}
use Rattle.named_rows.proofs.Asking.{demand_none}
use Rattle.channel_table.proofs.table.Table.bare.Goals as goal

pub invariant_of-result : goal.invariant_of-result
invariant_of-result c = record {
  subs_follow = follow_none sub_key sub_home _ _ _ c.new-3.ensures.rows c.new-3.ensures.on;
  reads_follow = follow_none read_key read_home _ _ _ c.new-5.ensures.rows c.new-5.ensures.on;
  demand = demand_none _ _ _ c.new-2.ensures c.new-3.ensures.rows c.new-4.ensures;
}
