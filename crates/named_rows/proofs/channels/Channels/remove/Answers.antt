use Rattle.named_rows.proofs.Indexed.{channels_less}
use Rattle.named_rows.proofs.channels.Channels.remove.Goals as goal

pub invariant_of-self : goal.invariant_of-self
invariant_of-self c = channels_less c.self.inside.rows c.remove_named.new.self c.key_of.result c.are_apart.ensures c.remove_named.ensures.rows c.remove_named.ensures.on c.self.invariant
