use Rattle.std.proofs.Common.{ap, subst, sym, ◌∙◌}
use Rattle.gateway_rows.specs.CountedState.{CountedState}
use Rattle.gateway_state.specs.Told.{KnowRights}
use Rattle.touched_rows.proofs.Ready.{told_after_interest}
use Rattle.touched_rows.specs.Touches.{with_read}
use Rattle.consequences.proofs.reads.tell_kept_read.Goals as goal

-- what a server is told leaves the rights that clients know
pub tell_one_read-requires : goal.tell_one_read-requires
tell_one_read-requires c =
    let kept = c.in_ok-keep_read.ensures.ok ∙ ap (λ (s : CountedState). with_read c.args.read s.state) c.rows.view_is in
    record {
      told =
          subst KnowRights (sym c.in_ok-tell_interest.ensures.ok)
          (told_after_interest c.args.name.now _ (subst KnowRights (sym kept) c.requires.told));
    }
