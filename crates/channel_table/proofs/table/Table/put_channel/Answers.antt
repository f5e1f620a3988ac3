use Rattle.named_rows.specs.Indexes.{read_home, read_key, sub_home, sub_key}
use Rattle.named_rows.proofs.Following.{follow_changed}
use Rattle.named_rows.proofs.Asking.{demand_put}
use Rattle.channel_table.proofs.table.Table.put_channel.Goals as goal

pub invariant_of-self : goal.invariant_of-self
invariant_of-self c = record {
  subs_follow = rw c.put_channel.ensures.put (follow_changed sub_key sub_home _ _ _ c.args.session c.args.sid c.args.reach c.args.rights c.self.invariant.subs_follow);
  reads_follow = rw c.put_channel.ensures.put (follow_changed read_key read_home _ _ _ c.args.session c.args.sid c.args.reach c.args.rights c.self.invariant.reads_follow);
  demand = demand_put _ _ _ (record { owner = c.args.session; id = c.args.sid }) c.args.reach c.args.rights _ _ c.are_apart.ensures c.put_channel.ensures.put c.put_channel.ensures.demand c.self.invariant.demand;
}
