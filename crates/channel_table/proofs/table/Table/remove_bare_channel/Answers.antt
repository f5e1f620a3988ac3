use Rattle.std.proofs.Common.{sym, ap, ◌∙◌}
use Rattle.std.specs.List.{list_any}
use Rattle.named_rows.specs.Reads.{is_read_on}
use Rattle.named_rows.specs.Subs.{is_sub_on}
use Rattle.named_rows.specs.Indexes.{read_home, read_in, read_key, sub_home, sub_key}
use Rattle.channel_table.specs.Looks.{BrandedRows}
use Rattle.named_rows.proofs.Following.{follow_without}
use Rattle.named_rows.proofs.Asking.{demand_removed}
use Rattle.named_rows.proofs.Mapped.{any_mapped}
use Rattle.channel_table.proofs.table.Table.remove_bare_channel.Goals as goal

pub invariant_of-self : goal.invariant_of-self
invariant_of-self c =
    let bare = ap (λ (t : BrandedRows). list_any (is_sub_on c.args.session c.args.sid) t.rows.subs) c.self.view_is ∙ c.requires.no_sub in
    let no_read = sym (any_mapped read_in (is_read_on c.args.session c.args.sid) c.self.inside.reads.rows) ∙ ap (λ (t : BrandedRows). list_any (is_read_on c.args.session c.args.sid) t.rows.reads) c.self.view_is ∙ c.requires.no_read in
    record {
      subs_follow = rw c.remove_channel.ensures.rows (follow_without sub_key sub_home c.self.inside.channels _ _ c.args.session c.args.sid bare c.self.invariant.subs_follow);
      reads_follow = rw c.remove_channel.ensures.rows (follow_without read_key read_home c.self.inside.channels _ _ c.args.session c.args.sid no_read c.self.invariant.reads_follow);
      demand = demand_removed c.self.inside.channels _ c.self.inside.subs.rows (record { owner = c.args.session; id = c.args.sid }) _ _ c.are_apart.ensures c.remove_channel.ensures.rows bare c.remove_channel.ensures.demand c.self.invariant.demand;
    }
