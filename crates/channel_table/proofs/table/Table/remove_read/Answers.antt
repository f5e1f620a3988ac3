use Rattle.std.proofs.Common.{sym, ap, ◌∙◌}
use Rattle.std.specs.List.{find, list_any}
use Rattle.rows.specs.Rows.{remove_first}
use Rattle.named_rows.specs.Channels.{is_channel}
use Rattle.named_rows.specs.Indexes.{is_kept_like, read_home, read_in, read_key}
use Rattle.named_rows.specs.Reads.{same_read}
use Rattle.channel_table.specs.Looks.{BrandedRows}
use Rattle.named_rows.proofs.Following.{follow_removed}
use Rattle.named_rows.proofs.Keyed.{found_again}
use Rattle.named_rows.proofs.Lists.{found_passes, none_is_first, unfound_is_absent}
use Rattle.named_rows.proofs.Mapped.{any_mapped}
use Rattle.named_rows.proofs.Waiting.{first_like_goes, like_ids, none_like}
use Rattle.channel_table.proofs.table.Table.remove_read.Goals as goal

-- where no channel of its IDs stands, no equal read waits
pub returns-in_default-clause-rows : goal.returns-in_default-clause-rows
returns-in_default-clause-rows c =
    let none =
    ap (λ (t : BrandedRows). list_any (same_read c.args.read.now) t.rows.reads) (sym c.self.view_is)
    ∙ none_like c.self.inside.channels c.self.inside.reads c.args.read.now (unfound_is_absent (is_channel c.args.read.now.session c.args.read.now.sid) c.self.inside.channels (sym c.in_default.ensures)) c.self.invariant.reads_follow in
    ap (λ rows. record c.args.self.now.rows { reads = rows }) (sym (none_is_first (same_read c.args.read.now) c.args.self.now.rows.reads none))

pub returns-in_default-first_like-clause-rows : goal.returns-in_default-first_like-clause-rows
returns-in_default-first_like-clause-rows c =
    let none =
    ap (λ (t : BrandedRows). list_any (same_read c.args.read.now) t.rows.reads) (sym c.self.view_is)
    ∙ any_mapped read_in (same_read c.args.read.now) c.self.inside.reads.rows ∙ unfound_is_absent (is_kept_like c.args.read.now) c.self.inside.reads.rows (sym c.in_default-first_like.ensures) in
    ap (λ rows. record c.args.self.now.rows { reads = rows }) (sym (none_is_first (same_read c.args.read.now) c.args.self.now.rows.reads none))

pub invariant_of-self : goal.invariant_of-self
invariant_of-self c =
    let found = sym c.in-Some-first_like.ensures in
    let row = c.in-Some-first_like.row in
    let like = found_passes (is_kept_like c.args.read.now) c.self.inside.reads.rows row found in
    let on = like_ids (λ session sid. find (is_channel session sid) c.self.inside.channels) c.args.read.now row.read like ∙ sym c.in-Some.ensures in
    record {
      subs_follow = c.self.invariant.subs_follow;
      reads_follow = follow_removed read_key read_home c.self.inside.channels _ _ _ _ (read_key row) row c.in-Some.channel.now c.are_apart.ensures (found_again read_key (is_kept_like c.args.read.now) c.self.inside.reads.rows row c.are_apart.ensures found) on c.remove.ensures.rows c.remove.ensures.on c.self.invariant.reads_follow;
      demand = c.self.invariant.demand;
    }

pub returns-in-Some-first_like-clause-rows : goal.returns-in-Some-first_like-clause-rows
returns-in-Some-first_like-clause-rows c =
    let was = c.self.view_is in
    let left =
    first_like_goes c.self.inside.reads c.remove.new.self c.args.read.now c.in-Some-first_like.row c.are_apart.ensures (sym c.in-Some-first_like.ensures) c.remove.ensures.rows
    ∙ ap (λ (t : BrandedRows). remove_first (same_read c.args.read.now) t.rows.reads) was in
    (λ i. record (was i).rows { reads = left i })
