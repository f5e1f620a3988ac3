use Rattle.std.proofs.Common.{sym, ap, ◌∙◌}
use Rattle.std.specs.List.{filter, list_any}
use Rattle.named_rows.specs.Channels.{is_channel_of, is_not_channel_of}
use Rattle.named_rows.specs.Subs.{is_sub_of, is_not_sub_of}
use Rattle.named_rows.specs.Reads.{is_read_of, is_not_read_of}
use Rattle.channel_table.specs.Sessions.{is_not_numbered}
use Rattle.named_rows.specs.Indexes.{read_home, read_in, read_key, reads_in, sub_home, sub_key}
use Rattle.channel_table.specs.Looks.{BrandedRows}
use Rattle.named_rows.proofs.Following.{none_without}
use Rattle.named_rows.proofs.Lists.{none_dropped}
use Rattle.named_rows.proofs.Mapped.{any_mapped}
use Rattle.channel_table.proofs.table.Table.remove_bare_session.Goals as goal

-- with no channel there is no subscription and no read
pub returns-clause-rows : goal.returns-clause-rows
returns-clause-rows c =
    let bare = ap (λ (t : BrandedRows). list_any (is_channel_of c.args.number) t.rows.channels) c.self.view_is ∙ c.requires.bare in
    let sessions = c.remove.ensures ∙ ap (λ (t : BrandedRows). filter (is_not_numbered c.args.number) t.rows.sessions) c.self.view_is in
    let channels = sym (none_dropped (is_channel_of c.args.number) c.self.inside.channels bare) ∙ ap (λ (t : BrandedRows). filter (is_not_channel_of c.args.number) t.rows.channels) c.self.view_is in
    let subs = sym (none_dropped (is_sub_of c.args.number) c.self.inside.subs.rows (none_without sub_key sub_home c.self.inside.channels c.self.inside.subs.rows c.self.inside.subs.on c.args.number bare c.self.invariant.subs_follow)) ∙ ap (λ (t : BrandedRows). filter (is_not_sub_of c.args.number) t.rows.subs) c.self.view_is in
    let reads = sym (none_dropped (is_read_of c.args.number) (reads_in c.self.inside.reads) (any_mapped read_in (is_read_of c.args.number) c.self.inside.reads.rows ∙ none_without read_key read_home c.self.inside.channels c.self.inside.reads.rows c.self.inside.reads.on c.args.number bare c.self.invariant.reads_follow)) ∙ ap (λ (t : BrandedRows). filter (is_not_read_of c.args.number) t.rows.reads) c.self.view_is in
    (λ i. record { sessions = sessions i; channels = channels i; subs = subs i; reads = reads i })
