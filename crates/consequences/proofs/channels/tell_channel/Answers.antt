use Rattle.std.proofs.Common.{◌≡◌, arith, ap, length, ◌∙◌}
use Rattle.std.specs.Prelude.{filter}
use Rattle.named_rows.specs.Subs.{is_sub_on}
use Rattle.gateway_rows.specs.CountedState.{CountedState}
use Rattle.gateway_state.specs.Gateway.{Gateway}
use Rattle.consequences.specs.Looks.{notice_looks}
use Rattle.consequences.proofs.RightsLooks.{told_keeps_subs}
use Rattle.consequences.proofs.channels.tell_channel.Goals as goal

-- the subscriptions on the channel are those that it had before it was told
pub returns-in_ok-end_reading-in-RightsChanged-clause-bound : goal.returns-in_ok-end_reading-in-RightsChanged-clause-bound
returns-in_ok-end_reading-in-RightsChanged-clause-bound c =
    let it = c.in-RightsChanged in
    let count : Gateway → _ = λ w. length (filter (is_sub_on it.session it.sid) w.clients.subs) in
    let before = ap (λ (s : CountedState). s.state) c.rows-in-RightsChanged.view_is ∙ c.set_rights.ensures.ok in
    let same = ap count c.in_ok-tell-in-RightsChanged.ensures.ok ∙ told_keeps_subs it.session it.sid it.session _ _
    ∙ ap count before ∙ ap count c.loses_reading-ends.ensures.looked.0 in
    omega (arith, same, ap (λ (s : CountedState). s.count.looks) c.rows-in-RightsChanged.view_is, ap (notice_looks c.args.rows.now.state) it.is, c.loses_reading-ends.ensures.looked.1.2, c.set_rights.ensures.looked.2, c.in_ok-end_reading-in-RightsChanged.ensures.bound)
