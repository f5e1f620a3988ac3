use Rattle.named_rows.proofs.Indexed.{channels_put}
use Rattle.named_rows.proofs.channels.Channels.put.Goals as goal

pub invariant_of-self : goal.invariant_of-self
invariant_of-self c = channels_put c.self.inside.rows c.put.new.self c.key_of.result c.args.reach c.args.rights c.put.ensures.rows c.put.ensures.on c.self.invariant
