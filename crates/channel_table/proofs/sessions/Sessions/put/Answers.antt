use Rattle.std.proofs.Common.{List, map, refl, sym, ap, subst, ◌∙◌}
use Rattle.rows.specs.Rows.{change_first}
use Rattle.row_index.specs.Rows.{row_of, same_key}
use Rattle.channel_table.specs.declared.sessions.Session.{Session}
use Rattle.channel_table.specs.Sessions.{is_numbered, with_host_and_pause}
use Rattle.channel_table.specs.SessionIndex.{AreNumbersOf, session_key}
use Rattle.channel_table.proofs.ByNumber.{numbers_kept}
use Rattle.named_rows.proofs.Keyed.{keyed_again, rows_changed, under_change}
use Rattle.channel_table.proofs.Numbered.{by_number, number_key}
use Rattle.channel_table.proofs.sessions.Sessions.put.Goals as goal

pub invariant_of-self : goal.invariant_of-self
invariant_of-self c =
    let under = c.self.invariant.under_keys in
    let changed = rows_changed session_key c.self.inside.rows under _ (with_host_and_pause c.args.host c.args.host_fixed c.args.paused) _ (λ row. refl) c.put.ensures in
    record {
      under_keys = keyed_again session_key _ _ (under_change session_key c.self.inside.rows under _ (with_host_and_pause c.args.host c.args.host_fixed c.args.paused) _ (λ row. refl) c.put.ensures);
      numbered = subst (λ (rows : List Session). AreNumbersOf c.self.inside.numbers rows) (sym changed) (numbers_kept (λ row. same_key (session_key row) (number_key c.args.number)) (with_host_and_pause c.args.host c.args.host_fixed c.args.paused) (λ row. refl) c.self.inside.numbers (map row_of c.self.inside.rows) c.self.invariant.numbered);
    }

pub returns : goal.returns
returns c =
    rows_changed session_key c.self.inside.rows c.self.invariant.under_keys _ (with_host_and_pause c.args.host c.args.host_fixed c.args.paused) _ (λ row. refl) c.put.ensures
    ∙ ap (λ p. change_first p (with_host_and_pause c.args.host c.args.host_fixed c.args.paused) (map row_of c.self.inside.rows)) (by_number c.args.number)
    ∙ ap (change_first (is_numbered c.args.number) (with_host_and_pause c.args.host c.args.host_fixed c.args.paused)) c.self.view_is
