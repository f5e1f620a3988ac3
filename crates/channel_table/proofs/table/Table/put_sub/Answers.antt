use Rattle.std.proofs.Common.{refl}
use Rattle.named_rows.specs.Subs.{is_sub, with_owed}
use Rattle.named_rows.specs.Indexes.{sub_home, sub_key}
use Rattle.named_rows.proofs.Following.{follow_put}
use Rattle.named_rows.proofs.Asking.{demand_owed}
use Rattle.channel_table.proofs.table.Table.put_sub.Goals as goal

pub invariant_of-self : goal.invariant_of-self
invariant_of-self c = record {
  subs_follow = follow_put sub_key sub_home _ _ _ _ _ (is_sub c.args.session c.args.id) (with_owed c.args.owed) (λ row. refl) (λ row. refl) c.put.ensures.rows c.put.ensures.on c.self.invariant.subs_follow;
  reads_follow = c.self.invariant.reads_follow;
  demand = demand_owed _ _ _ _ c.args.session c.args.id c.args.owed c.put.ensures.rows c.self.invariant.demand;
}
