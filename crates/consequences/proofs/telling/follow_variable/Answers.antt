use Rattle.std.proofs.Common.{sym, ap, subst, ◌∙◌}
use Rattle.gateway_rows.specs.CountedState.{CountedState}
use Rattle.gateway_state.specs.Settled.{AreNumbersApart}
use Rattle.gateway_state.specs.Told.{KnowRights}
use Rattle.touched_rows.specs.Touched.{updates_withheld_on}
use Rattle.touched_rows.proofs.Ready.{order_before_link, told_after_link, told_after_withheld}
use Rattle.consequences.proofs.telling.follow_variable.Goals as goal

-- the passes before leave numbers apart
pub tell_link_on-requires-clause-order : goal.tell_link_on-requires-clause-order
tell_link_on-requires-clause-order c =
    let name = c.args.name.now in
    let here = ap (λ (s : CountedState). s.state) c.rows.view_is in
    let before = here ∙ c.in_ok-withhold_updates_on.ensures.ok ∙ ap (updates_withheld_on name) c.in_ok-tell_channels_on.ensures.ok in
    subst AreNumbersApart (sym before) (order_before_link name c.args.rows.now.state c.requires.order)

-- and clients know their rights from the pass over channels on
pub tell_value-requires-clause-told : goal.tell_value-requires-clause-told
tell_value-requires-clause-told c =
    let name = c.args.name.now in
    let here = ap (λ (s : CountedState). s.state) c.rows.view_is in
    let before = here ∙ c.in_ok-withhold_updates_on.ensures.ok ∙ ap (updates_withheld_on name) c.in_ok-tell_channels_on.ensures.ok in
    let order = subst AreNumbersApart (sym before) (order_before_link name c.args.rows.now.state c.requires.order) in
    let first = subst KnowRights (sym c.in_ok-tell_channels_on.ensures.ok) c.requires.told in
    let held = subst KnowRights (sym (here ∙ c.in_ok-withhold_updates_on.ensures.ok)) (told_after_withheld name _ first) in
    subst KnowRights (sym c.in_ok-tell_link_on.ensures.ok) (told_after_link name _ order held)
