use Rattle.std.proofs.Common.{arith, length, sym, ap, ◌∙◌}
use Rattle.std.specs.List.{filter, find, list_any}
use Rattle.named_rows.specs.Channels.{is_channel}
use Rattle.named_rows.specs.Subs.{is_sub, is_sub_on, is_not_sub_on}
use Rattle.named_rows.specs.Indexes.{sub_home, sub_key}
use Rattle.channel_table.specs.Looks.{BrandedRows}
use Rattle.named_rows.proofs.Following.{bare_without, elsewhere_kept, follow_first_removed, found_by_key, on_ids}
use Rattle.named_rows.proofs.Asking.{demand_less_row}
use Rattle.named_rows.proofs.Lists.{found_is_there, found_passes, one_fewer_left, unfound_is_absent}
use Rattle.channel_table.proofs.table.Table.remove_sub_on.Goals as goal

-- no such channel
pub returns-in_default-clause-none : goal.returns-in_default-clause-none
returns-in_default-clause-none c = λ _.
    ap (λ (t : BrandedRows). list_any (is_sub_on c.args.session c.args.sid) t.rows.subs) (sym c.self.view_is)
    ∙ bare_without sub_key sub_home c.self.inside.channels c.self.inside.subs.rows c.self.inside.subs.on c.args.session c.args.sid (unfound_is_absent (is_channel c.args.session c.args.sid) c.self.inside.channels (sym c.in_default.ensures)) c.self.invariant.subs_follow

pub invariant_of-self : goal.invariant_of-self
invariant_of-self c =
    let first = sym c.in-Some-first_on.ensures in
    let key = found_by_key c.self.inside.subs c.args.session c.args.sid c.in-Some-first_on.sub c.are_apart.ensures first in
    let passes = found_passes (is_sub_on c.args.session c.args.sid) c.self.inside.subs.rows c.in-Some-first_on.sub first in
    let on = on_ids (λ a b. find (is_channel a b) c.self.inside.channels) c.args.session c.args.sid c.in-Some-first_on.sub.session c.in-Some-first_on.sub.sid passes ∙ sym c.in-Some.ensures in
    record {
      subs_follow = follow_first_removed _ _ _ c.args.session c.args.sid c.in-Some-first_on.sub c.in-Some.channel.now c.are_apart.ensures first (sym c.in-Some.ensures) c.remove_sub.ensures.rows c.remove_sub.ensures.on c.self.invariant.subs_follow;
      reads_follow = c.self.invariant.reads_follow;
      demand = demand_less_row _ _ _ c.args.session c.in-Some-first_on.sub.id c.in-Some-first_on.sub c.in-Some.channel.now _ _ c.are_apart.ensures key on c.remove_sub.ensures.rows c.remove_sub.ensures.demand c.self.invariant.demand;
    }

pub returns-in-Some-first_on-clause-elsewhere : goal.returns-in-Some-first_on-clause-elsewhere
returns-in-Some-first_on-clause-elsewhere c =
    let first = sym c.in-Some-first_on.ensures in
    ap (filter (is_not_sub_on c.args.session c.args.sid)) c.remove_sub.ensures.rows
    ∙ elsewhere_kept c.self.inside.subs c.args.session c.args.sid c.in-Some-first_on.sub c.are_apart.ensures first
    ∙ ap (λ (t : BrandedRows). filter (is_not_sub_on c.args.session c.args.sid) t.rows.subs) c.self.view_is

pub returns-in-Some-first_on-clause-one : goal.returns-in-Some-first_on-clause-one
returns-in-Some-first_on-clause-one c = λ _.
    let first = sym c.in-Some-first_on.ensures in
    let key = found_by_key c.self.inside.subs c.args.session c.args.sid c.in-Some-first_on.sub c.are_apart.ensures first in
    let fewer = one_fewer_left (is_sub c.args.session c.in-Some-first_on.sub.id) c.self.inside.subs.rows (found_is_there (is_sub c.args.session c.in-Some-first_on.sub.id) c.self.inside.subs.rows c.in-Some-first_on.sub key) in
    let rows = ap (λ (t : BrandedRows). length t.rows.subs) c.self.view_is in
    let left = ap length c.remove_sub.ensures.rows in
    omega (arith, fewer, rows, left)

pub returns-in-None-clause-none : goal.returns-in-None-clause-none
returns-in-None-clause-none c = λ _.
    ap (λ (t : BrandedRows). list_any (is_sub_on c.args.session c.args.sid) t.rows.subs) (sym c.self.view_is)
    ∙ unfound_is_absent (is_sub_on c.args.session c.args.sid) c.self.inside.subs.rows (sym c.in-None.ensures)
