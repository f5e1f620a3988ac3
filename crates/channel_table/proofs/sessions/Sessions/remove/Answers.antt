use Rattle.std.proofs.Common.{map, not, ap, ◌∙◌}
use Rattle.std.specs.List.{filter}
use Rattle.row_index.specs.Rows.{row_of}
use Rattle.channel_table.specs.Sessions.{is_not_numbered}
use Rattle.channel_table.specs.SessionIndex.{session_key}
use Rattle.channel_table.proofs.ByNumber.{numbers_less}
use Rattle.named_rows.proofs.Keyed.{keyed_again, rows_less, under_less}
use Rattle.channel_table.proofs.Numbered.{by_number}
use Rattle.channel_table.proofs.sessions.Sessions.remove.Goals as goal

pub invariant_of-self : goal.invariant_of-self
invariant_of-self c =
    let under = c.self.invariant.under_keys in
    let left =
    rows_less session_key c.self.inside.rows under _ _ c.remove.ensures
    ∙ ap (λ p. filter (λ row. not (p row)) (map row_of c.self.inside.rows)) (by_number c.args.number) in
    record {
      under_keys = keyed_again session_key _ _ (under_less session_key c.self.inside.rows under _ _ c.remove.ensures);
      numbered = rw (c.remove-2.ensures, left) (numbers_less c.args.number c.self.inside.numbers (map row_of c.self.inside.rows) c.self.invariant.numbered);
    }

pub returns : goal.returns
returns c =
    rows_less session_key c.self.inside.rows c.self.invariant.under_keys _ _ c.remove.ensures
    ∙ ap (λ p. filter (λ row. not (p row)) (map row_of c.self.inside.rows)) (by_number c.args.number)
    ∙ ap (filter (is_not_numbered c.args.number)) c.self.view_is
