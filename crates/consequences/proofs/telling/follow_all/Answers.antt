use Rattle.std.proofs.Common.{sym, ap, subst, ◌∙◌}
use Rattle.gateway_rows.specs.CountedState.{CountedState}
use Rattle.gateway_state.specs.Settled.{AreNumbersApart}
use Rattle.gateway_state.specs.Told.{KnowRights}
use Rattle.gateway_state.specs.Updates.{updates_withheld}
use Rattle.gateway_state.proofs.NumbersKept.{numbers_before_links}
use Rattle.gateway_state.proofs.ToldRights.{told_before_links}
use Rattle.consequences.proofs.telling.follow_all.Goals as goal

-- the passes before leave numbers apart
pub tell_links-requires : goal.tell_links-requires
tell_links-requires c =
    let here = ap (λ (s : CountedState). s.state) c.rows.view_is in
    let before = here ∙ c.in_ok-withhold_updates.ensures.ok ∙ ap updates_withheld c.in_ok-tell_channels.ensures.ok in
    record {
      order = subst AreNumbersApart (sym before) (numbers_before_links c.args.rows.now.state c.requires.order);
      told = subst KnowRights (sym before) (told_before_links c.args.rows.now.state c.requires.order);
    }
