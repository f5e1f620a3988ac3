use Rattle.std.proofs.Common.{◌≡◌, Option, true, refl, ap, subst, ◌∙◌}
use Rattle.std.specs.Cmp.{nat_eq_equiv}
use Rattle.std.specs.List.{filter, find}
use Rattle.named_rows.specs.declared.channels.Channel.{Channel}
use Rattle.named_rows.specs.Channels.{is_channel, is_not_channel}
use Rattle.named_rows.specs.Demand.{IsCounted}
use Rattle.named_rows.proofs.Counting.{last_goes, last_is_found}
use Rattle.named_rows.proofs.counted_rows.add_channel.Goals as goal

pub returns-in-Ok-clause-ok_demand : goal.returns-in-Ok-clause-ok_demand
returns-in-Ok-clause-ok_demand c =
    let own : is_channel c.args.channel.session c.args.channel.sid c.args.channel ≡ true = rw (nat_eq_equiv.refl c.args.channel.session, nat_eq_equiv.refl c.args.channel.sid) refl in
    let last = ap (find (is_channel c.args.channel.session c.args.channel.sid)) c.in_ok-add.ensures.ok ∙ last_is_found (is_channel c.args.channel.session c.args.channel.sid) c.args.channels.now c.args.channel c.requires.new own in
    subst (λ (o : Option Channel). IsCounted o c.args.demand.now c.count_channel.new.demand) last c.in-Ok.ensures.ok

-- what was added is removed again
pub returns-in-Err-clause-err : goal.returns-in-Err-clause-err
returns-in-Err-clause-err c =
    let own : is_channel c.args.channel.session c.args.channel.sid c.args.channel ≡ true = rw (nat_eq_equiv.refl c.args.channel.session, nat_eq_equiv.refl c.args.channel.sid) refl in
    c.remove.ensures ∙ ap (filter (is_not_channel c.args.channel.session c.args.channel.sid)) c.in_ok-add.ensures.ok ∙ last_goes (is_channel c.args.channel.session c.args.channel.sid) c.args.channels.now c.args.channel c.requires.new own
