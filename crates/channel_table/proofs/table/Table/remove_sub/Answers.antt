use Rattle.std.proofs.Common.{◌≡◌, None, sym, ap, ◌∙◌, true≢false}
use Rattle.std.specs.List.{find}
use Rattle.named_rows.specs.Channels.{is_channel}
use Rattle.named_rows.specs.Subs.{is_sub}
use Rattle.named_rows.specs.Indexes.{sub_home, sub_key}
use Rattle.channel_table.specs.Looks.{BrandedRows}
use Rattle.named_rows.proofs.Following.{follow_removed, stands_of}
use Rattle.named_rows.proofs.Asking.{demand_less_row}
use Rattle.named_rows.proofs.Lists.{none_dropped, unfound_is_absent}
use Rattle.channel_table.proofs.table.Table.remove_sub.Goals as goal

-- no subscription of these IDs
pub returns-in_default-clause-rows : goal.returns-in_default-clause-rows
returns-in_default-clause-rows c =
    let none : find (is_sub c.args.session c.args.id) c.args.self.now.rows.subs ≡ None = ap (λ (t : BrandedRows). find (is_sub c.args.session c.args.id) t.rows.subs) (sym c.self.view_is) ∙ sym c.get.ensures ∙ sym c.in_default.ensures in
    ap (λ rows. record c.args.self.now.rows { subs = rows }) (sym (none_dropped (is_sub c.args.session c.args.id) c.args.self.now.rows.subs (unfound_is_absent (is_sub c.args.session c.args.id) c.args.self.now.rows.subs none)))

pub invariant_of-self : goal.invariant_of-self
invariant_of-self c =
    let found = sym c.get.ensures ∙ sym c.in-Some.ensures in
    let on = sym c.in-Some-get.ensures in
    record {
      subs_follow = follow_removed sub_key sub_home _ _ _ _ _ (record { owner = c.args.session; id = c.args.id }) c.in-Some.sub c.in-Some-get.channel.now c.are_apart.ensures found on c.remove_sub.ensures.rows c.remove_sub.ensures.on c.self.invariant.subs_follow;
      reads_follow = c.self.invariant.reads_follow;
      demand = demand_less_row _ _ _ c.args.session c.args.id c.in-Some.sub c.in-Some-get.channel.now _ _ c.are_apart.ensures found on c.remove_sub.ensures.rows c.remove_sub.ensures.demand c.self.invariant.demand;
    }

-- its channel stands
pub returns-in_default-get : goal.returns-in_default-get
returns-in_default-get c =
    absurd (true≢false (sym (stands_of sub_key sub_home c.self.inside.channels c.self.inside.subs.rows c.self.inside.subs.on (is_sub c.args.session c.args.id) c.in-Some.sub (sym c.get.ensures ∙ sym c.in-Some.ensures) c.self.invariant.subs_follow) ∙ unfound_is_absent (is_channel c.in-Some.sub.session c.in-Some.sub.sid) c.self.inside.channels (sym c.in_default-get.ensures)))
