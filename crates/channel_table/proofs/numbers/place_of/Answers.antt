use Rattle.channel_table.proofs.Rising.{placed}
use Rattle.channel_table.proofs.numbers.place_of.Goals as goal

pub returns : goal.returns
returns c = placed c.args.number c.args.numbers.now c.requires c.binary_search.result c.binary_search.ensures.position
