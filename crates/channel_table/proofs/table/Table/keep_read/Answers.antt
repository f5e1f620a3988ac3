use Rattle.std.proofs.Common.{bytes_eq, sym}
use Rattle.named_rows.specs.Indexes.{read_home, read_key}
use Rattle.named_rows.proofs.Following.{follow_added}
use Rattle.named_rows.proofs.Listed.{unlisted}
use Rattle.channel_table.proofs.table.Table.keep_read.Goals as goal

-- listed under the real name of its channel
pub invariant_of-self-2 : goal.invariant_of-self-2
invariant_of-self-2 c =
    let added = c.in_ok-add.ensures in
    record {
      subs_follow = c.self.invariant.subs_follow;
      reads_follow = follow_added read_key read_home _ _ _ _ _ (record { id = c.in_ok-id.id; read = c.args.read }) c.in-Some.channel.now (sym c.in-Some.ensures) added.ok_rows added.ok_on c.self.invariant.reads_follow;
      demand = c.self.invariant.demand;
    }

-- under an ID that is free it isn't listed yet
pub add-requires : goal.add-requires
add-requires c =
    let reads = c.self.inside.reads in
    let key = read_key (record { id = c.in_ok-id.id; read = c.args.read }) in
    record {
      new = c.in_ok-id.ensures;
      unlisted = unlisted bytes_eq read_key _ reads.rows reads.on key c.in-Some.channel.now.real c.self.invariant.reads_follow.listed c.in_ok-id.ensures;
    }
