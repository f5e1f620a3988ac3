use Rattle.std.proofs.Common.{refl}
use Rattle.channel_table.proofs.Removal.{subs_gone}
use Rattle.channel_table.proofs.table.Table.remove_subs_on.Goals as goal

pub returns-clause-rows : goal.returns-clause-rows
returns-clause-rows c =
    subs_gone c.args.session c.args.sid c.args.self.now.rows c.loop.self.rows c.remove_sub_on.new.self.rows c.loop.invariant.0 c.loop.invariant.1 c.loop-test.ensures.others c.loop-test.ensures.elsewhere
    (c.loop-test.ensures.none refl)
