use Rattle.named_rows.specs.Indexes.{read_home, read_key, sub_home, sub_key}
use Rattle.named_rows.proofs.Following.{follow_more}
use Rattle.named_rows.proofs.Asking.{demand_more_channel, demand_same_channels}
use Rattle.channel_table.proofs.table.Table.add_channel_within.Goals.{in-Ok, in-Err}
use Rattle.channel_table.proofs.table.Table.add_channel_within.Goals as goal

pub invariant_of-self : goal.invariant_of-self
invariant_of-self c =
    elim c.match-add_channel.branch [
      | in-Ok w ↦ record {
        subs_follow = rw w.in-Ok.ensures.ok (follow_more sub_key sub_home c.self.inside.channels _ _ c.args.channel c.self.invariant.subs_follow);
        reads_follow = rw w.in-Ok.ensures.ok (follow_more read_key read_home c.self.inside.channels _ _ c.args.channel c.self.invariant.reads_follow);
        demand = rw w.in-Ok.ensures.ok (demand_more_channel c.self.inside.channels c.self.inside.subs.rows c.args.channel _ _ c.self.invariant.subs_follow.standing w.in-Ok.ensures.ok_demand c.self.invariant.demand);
      }
      | in-Err w ↦ record {
        subs_follow = rw w.in-Err.ensures.err c.self.invariant.subs_follow;
        reads_follow = rw w.in-Err.ensures.err c.self.invariant.reads_follow;
        demand = demand_same_channels _ _ _ _ _ w.in-Err.ensures.err w.in-Err.ensures.err_demand c.self.invariant.demand;
      }
    ]
