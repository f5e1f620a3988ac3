use Rattle.std.proofs.Common.{ap, ◌∙◌}
use Rattle.std.specs.List.{filter, list_any}
use Rattle.named_rows.specs.Channels.{is_not_channel}
use Rattle.named_rows.specs.Reads.{is_not_read_on, is_read_on}
use Rattle.named_rows.specs.Subs.{is_sub_on}
use Rattle.channel_table.specs.ClientRows.{ClientRows}
use Rattle.named_rows.proofs.Lists.{none_among_others}
use Rattle.channel_table.proofs.table.Table.remove_channel.Goals as goal

-- what hung on the channel is gone
pub remove_bare_channel-requires : goal.remove_bare_channel-requires
remove_bare_channel-requires c = record {
  no_sub = ap (λ (t : ClientRows). list_any (is_sub_on c.args.session c.args.sid) t.subs) (c.remove_reads_on.ensures.rows ∙ ap (λ (t : ClientRows). record t { reads = filter (is_not_read_on c.args.session c.args.sid) t.reads }) c.remove_subs_on.ensures.rows)
      ∙ none_among_others (is_sub_on c.args.session c.args.sid) c.args.self.now.rows.subs;
  no_read = ap (λ (t : ClientRows). list_any (is_read_on c.args.session c.args.sid) t.reads) c.remove_reads_on.ensures.rows ∙ none_among_others (is_read_on c.args.session c.args.sid) c.remove_subs_on.new.self.rows.reads;
}

pub returns-clause-rows : goal.returns-clause-rows
returns-clause-rows c =
    c.remove_bare_channel.ensures.rows
    ∙ ap (λ (t : ClientRows). record t { channels = filter (is_not_channel c.args.session c.args.sid) t.channels }) (c.remove_reads_on.ensures.rows ∙ ap (λ (t : ClientRows). record t { reads = filter (is_not_read_on c.args.session c.args.sid) t.reads }) c.remove_subs_on.ensures.rows)
