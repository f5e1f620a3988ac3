use Rattle.std.proofs.Common.{length, arith, sym, ap, ◌∙◌}
use Rattle.std.specs.List.{filter, list_any}
use Rattle.named_rows.specs.Channels.{is_not_channel, is_channel_of, is_not_channel_of}
use Rattle.named_rows.specs.Reads.{is_not_read_of}
use Rattle.named_rows.specs.Subs.{is_not_sub_of}
use Rattle.channel_table.specs.ClientRows.{ClientRows}
use Rattle.channel_table.specs.Looks.{BrandedRows}
use Rattle.channel_table.proofs.Removal.{other_channels_stay, other_subs_stay, other_reads_stay, fewer_channels}
use Rattle.named_rows.proofs.Lists.{no_last}
use Rattle.channel_table.proofs.table.Table.remove_channel_of.Goals as goal

pub returns-in_default-clause-none : goal.returns-in_default-clause-none
returns-in_default-clause-none c = λ _.
    ap (λ (t : BrandedRows). list_any (is_channel_of c.args.number) t.rows.channels) (sym c.self.view_is)
    ∙ no_last (is_channel_of c.args.number) c.self.inside.channels (sym c.in_default.ensures)

pub returns-clause-channels : goal.returns-clause-channels
returns-clause-channels c =
    ap (λ (t : ClientRows). filter (is_not_channel_of c.args.number) t.channels) c.remove_channel.ensures.rows
    ∙ other_channels_stay c.args.number c.in-Some.channel.now.sid c.args.self.now.rows.channels

pub returns-clause-subs : goal.returns-clause-subs
returns-clause-subs c =
    ap (λ (t : ClientRows). filter (is_not_sub_of c.args.number) t.subs) c.remove_channel.ensures.rows
    ∙ other_subs_stay c.args.number c.in-Some.channel.now.sid c.args.self.now.rows.subs

pub returns-clause-reads : goal.returns-clause-reads
returns-clause-reads c =
    ap (λ (t : ClientRows). filter (is_not_read_of c.args.number) t.reads) c.remove_channel.ensures.rows
    ∙ other_reads_stay c.args.number c.in-Some.channel.now.sid c.args.self.now.rows.reads

pub returns-clause-one : goal.returns-clause-one
returns-clause-one c = λ _.
    let fewer = fewer_channels c.args.number c.self.inside.channels _ c.in-Some.channel.now (sym c.in-Some.ensures) in
    let all = ap (λ (t : BrandedRows). length t.rows.channels) c.self.view_is in
    let left = ap (λ (t : BrandedRows). length (filter (is_not_channel c.args.number c.in-Some.channel.now.sid) t.rows.channels)) c.self.view_is in
    let is = ap (λ (t : ClientRows). length t.channels) c.remove_channel.ensures.rows in
    omega (arith, fewer, all, left, is)
