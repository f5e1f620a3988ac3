use Rattle.std.proofs.Common.{map, ap, ◌∙◌}
use Rattle.std.specs.List.{find}
use Rattle.row_index.specs.Rows.{row_of}
use Rattle.channel_table.specs.Sessions.{is_numbered}
use Rattle.channel_table.specs.SessionIndex.{session_key}
use Rattle.named_rows.proofs.Keyed.{entry_found}
use Rattle.channel_table.proofs.Numbered.{by_number}
use Rattle.channel_table.proofs.sessions.Sessions.get.Goals as goal

-- the key's row is the first of its number
pub returns : goal.returns
returns c =
    c.get.ensures ∙ entry_found session_key c.self.inside.rows c.self.invariant.under_keys _
    ∙ ap (λ p. find p (map row_of c.self.inside.rows)) (by_number c.args.number) ∙ ap (find (is_numbered c.args.number)) c.self.view_is
