use Rattle.std.proofs.Common.{inl, inr, refl}
use Rattle.std.proofs.lemmas.Result.{on_ok_weaker}
use Rattle.replay.specs.Editing.{IsPrinted, refusal}
use Rattle.replay.proofs.player.Player.edit.Goals as goal

pub returns-in_ok-step-in-Ok-clause-edited : goal.returns-in_ok-step-in-Ok-clause-edited
returns-in_ok-step-in-Ok-clause-edited g c =
    inl (record {
      policy = c.in-Ok.policy;
      said = rw (c.new-desk.ensures, c.texts.ensures) at c.in-Ok.ensures.ok;
      edited = c.in_ok-step-in-Ok.ensures.ok;
      silent = refl;
    })

pub returns-in-Err-clause-edited : goal.returns-in-Err-clause-edited
returns-in-Err-clause-edited g c =
    let held = g.W.Write.contents in
    on_ok_weaker _
    (λ (told : IsPrinted (refusal c.in-Err.fault) (held c.args.out.now) (held c.print_refusal.new.out)).
    inr (record {
      fault = c.in-Err.fault;
      first = rw (c.new-desk.ensures, c.texts.ensures) at c.in-Err.ensures.err;
      printed = told;
      same = refl;
    }))
    c.print_refusal.ensures
