use Rattle.std.proofs.Common.{is_some, map, ap, ◌∙◌}
use Rattle.std.specs.List.{find, list_any}
use Rattle.row_index.specs.Rows.{row_of}
use Rattle.channel_table.specs.Sessions.{is_numbered}
use Rattle.channel_table.specs.SessionIndex.{session_key}
use Rattle.named_rows.proofs.Keyed.{entry_found}
use Rattle.named_rows.proofs.Lists.{found_where_any}
use Rattle.channel_table.proofs.Numbered.{by_number}
use Rattle.channel_table.proofs.sessions.Sessions.contains.Goals as goal

pub returns : goal.returns
returns c =
    c.contains.ensures ∙ ap is_some (entry_found session_key c.self.inside.rows c.self.invariant.under_keys _ ∙ ap (λ p. find p (map row_of c.self.inside.rows)) (by_number c.args.number))
    ∙ found_where_any (is_numbered c.args.number) _ ∙ ap (list_any (is_numbered c.args.number)) c.self.view_is
