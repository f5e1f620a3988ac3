use Rattle.std.proofs.Common.{map, ap, ◌∙◌}
use Rattle.std.specs.List.{list_any}
use Rattle.row_index.specs.Rows.{row_of}
use Rattle.channel_table.specs.Sessions.{is_numbered}
use Rattle.channel_table.specs.SessionIndex.{session_key}
use Rattle.channel_table.proofs.ByNumber.{numbers_more, numbers_undone}
use Rattle.named_rows.proofs.Keyed.{entry_absent, keyed_again, rows_more, under_more}
use Rattle.channel_table.proofs.Numbered.{by_number}
use Rattle.channel_table.proofs.sessions.Sessions.add.Goals as goal

pub add-requires-2 : goal.add-requires-2
add-requires-2 c = record {
  new = entry_absent session_key c.self.inside.rows c.self.invariant.under_keys _ (ap (λ p. list_any p (map row_of c.self.inside.rows)) (by_number c.args.session.number) ∙ ap (list_any (is_numbered c.args.session.number)) c.self.view_is ∙ c.requires.new);
}

pub invariant_of-self-in-Ok : goal.invariant_of-self-in-Ok
invariant_of-self-in-Ok c =
    let under = c.self.invariant.under_keys in
    let new = ap (list_any (is_numbered c.args.session.number)) c.self.view_is ∙ c.requires.new in
    record {
      under_keys = keyed_again session_key _ _ (under_more session_key c.self.inside.rows under c.args.session _ c.in-Ok.ensures.ok);
      numbered = rw (c.in_ok-add.ensures.ok, rows_more session_key c.self.inside.rows under c.args.session _ c.in-Ok.ensures.ok) (numbers_more c.self.inside.numbers (map row_of c.self.inside.rows) c.args.session c.self.invariant.numbered new);
    }

-- the number was added first, and is taken out again
pub invariant_of-self-in-Err : goal.invariant_of-self-in-Err
invariant_of-self-in-Err c =
    let new = ap (list_any (is_numbered c.args.session.number)) c.self.view_is ∙ c.requires.new in
    record {
      under_keys = rw c.in-Err.ensures.err c.self.invariant.under_keys;
      numbered = rw (c.remove.ensures, c.in_ok-add.ensures.ok, c.in-Err.ensures.err) (numbers_undone c.args.session.number c.self.inside.numbers (map row_of c.self.inside.rows) c.self.invariant.numbered new);
    }
