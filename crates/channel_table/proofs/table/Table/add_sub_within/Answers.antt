use Rattle.std.proofs.Common.{◌≡◌, true, false, Ok, Err, OnOk, bytes_eq, refl, sym, ap, ◌∙◌, arith, true≢false}
use Rattle.named_rows.specs.Channels.{is_channel}
use Rattle.channel_table.specs.ClientRows.{has_channel, has_sub, sub_count}
use Rattle.named_rows.specs.Indexes.{sub_home, sub_key}
use Rattle.channel_table.specs.Looks.{BrandedRows}
use Rattle.named_rows.proofs.Following.{follow_added, follow_same}
use Rattle.named_rows.specs.Demand.{asks_on}
use Rattle.named_rows.proofs.Asking.{demand_added, demand_same}
use Rattle.named_rows.proofs.Listed.{unlisted}
use Rattle.named_rows.proofs.Lists.{found_is_there, unfound_is_absent}
use Rattle.channel_table.proofs.table.Table.add_sub_within.Goals.{in-Ok, in-Err}
use Rattle.channel_table.proofs.table.Table.add_sub_within.Goals as goal

pub returns-in_default-clause-missing : goal.returns-in_default-clause-missing
returns-in_default-clause-missing c =
    let gone : has_channel c.args.sub.session c.args.sub.sid c.args.self.now.rows ≡ false = ap (λ (t : BrandedRows). has_channel c.args.sub.session c.args.sub.sid t.rows) (sym c.self.view_is) ∙ unfound_is_absent (is_channel c.args.sub.session c.args.sub.sid) c.self.inside.channels (sym c.in_default.ensures) in
    (λ _. gone, λ _. refl)

pub returns-in_default-clause-full : goal.returns-in_default-clause-full
returns-in_default-clause-full c =
    let gone : has_channel c.args.sub.session c.args.sub.sid c.args.self.now.rows ≡ false = ap (λ (t : BrandedRows). has_channel c.args.sub.session c.args.sub.sid t.rows) (sym c.self.view_is) ∙ unfound_is_absent (is_channel c.args.sub.session c.args.sub.sid) c.self.inside.channels (sym c.in_default.ensures) in
    (λ e. cc, λ h. absurd (true≢false (sym h.0 ∙ gone)))

pub returns-then-count_of-limit-clause-missing : goal.returns-then-count_of-limit-clause-missing
returns-then-count_of-limit-clause-missing c =
    let there : has_channel c.args.sub.session c.args.sub.sid c.args.self.now.rows ≡ true = ap (λ (t : BrandedRows). has_channel c.args.sub.session c.args.sub.sid t.rows) (sym c.self.view_is) ∙ found_is_there (is_channel c.args.sub.session c.args.sub.sid) c.self.inside.channels c.in-Some.channel.now (sym c.in-Some.ensures) in
    (λ e. cc, λ h. absurd (true≢false (sym there ∙ h)))

pub returns-then-count_of-limit-clause-full : goal.returns-then-count_of-limit-clause-full
returns-then-count_of-limit-clause-full c =
    let there : has_channel c.args.sub.session c.args.sub.sid c.args.self.now.rows ≡ true = ap (λ (t : BrandedRows). has_channel c.args.sub.session c.args.sub.sid t.rows) (sym c.self.view_is) ∙ found_is_there (is_channel c.args.sub.session c.args.sub.sid) c.self.inside.channels c.in-Some.channel.now (sym c.in-Some.ensures) in
    let count = c.count_of.ensures ∙ ap (λ (t : BrandedRows). sub_count c.args.sub.session t.rows) c.self.view_is in
    (λ e. (there, omega arith), λ h. refl)

-- listed under the real name of its channel, and counted there
pub invariant_of-self : goal.invariant_of-self
invariant_of-self c =
    let found = sym c.in-Some.ensures in
    elim c.match-add_sub.branch [
      | in-Ok w ↦ record {
        subs_follow = follow_added sub_key sub_home _ _ _ _ _ c.args.sub c.in-Some.channel.now found w.in-Ok.ensures.ok_rows w.in-Ok.ensures.ok_on c.self.invariant.subs_follow;
        reads_follow = c.self.invariant.reads_follow;
        demand = demand_added _ _ _ c.args.sub c.in-Some.channel.now _ _ found w.in-Ok.ensures.ok_rows w.in-Ok.ensures.ok_demand c.self.invariant.demand;
      }
      | in-Err w ↦ record {
        subs_follow = follow_same sub_key sub_home _ _ _ _ _ w.in-Err.ensures.err_rows w.in-Err.ensures.err_on c.self.invariant.subs_follow;
        reads_follow = c.self.invariant.reads_follow;
        demand = demand_same _ _ _ _ _ w.in-Err.ensures.err_rows w.in-Err.ensures.err_demand c.self.invariant.demand;
      }
    ]

-- what is counted under each name is what rows ask for
pub add_sub-requires : goal.add_sub-requires
add_sub-requires c =
    let new = ap (λ (t : BrandedRows). has_sub c.args.sub.session c.args.sub.id t.rows) c.self.view_is ∙ c.requires.new in
    let inside = c.self.inside in record {
      new = new;
      unlisted = unlisted bytes_eq sub_key _ inside.subs.rows inside.subs.on (sub_key c.args.sub) c.in-Some.channel.now.real c.self.invariant.subs_follow.listed new;
      counts = λ name. record { asks = asks_on inside.channels inside.subs.rows name; is = c.self.invariant.demand name };
    }

pub returns-clause-there : goal.returns-clause-there
returns-clause-there c =
    let there : has_channel c.args.sub.session c.args.sub.sid c.args.self.now.rows ≡ true = ap (λ (t : BrandedRows). has_channel c.args.sub.session c.args.sub.sid t.rows) (sym c.self.view_is) ∙ found_is_there (is_channel c.args.sub.session c.args.sub.sid) c.self.inside.channels c.in-Some.channel.now (sym c.in-Some.ensures) in
    elim c.match-add_sub.result as (λ r. OnOk r (has_channel c.args.sub.session c.args.sub.sid c.args.self.now.rows ≡ true)) [ Ok _ ↦ there | Err _ ↦ tt ]

pub returns-clause-missing : goal.returns-clause-missing
returns-clause-missing c =
    let there : has_channel c.args.sub.session c.args.sub.sid c.args.self.now.rows ≡ true = ap (λ (t : BrandedRows). has_channel c.args.sub.session c.args.sub.sid t.rows) (sym c.self.view_is) ∙ found_is_there (is_channel c.args.sub.session c.args.sub.sid) c.self.inside.channels c.in-Some.channel.now (sym c.in-Some.ensures) in
    elim c.match-add_sub.branch [
      | in-Ok w ↦ (λ e. cc (e, w.result-is), λ h. absurd (true≢false (sym there ∙ h)))
      | in-Err w ↦ (λ e. cc (e, w.result-is), λ h. absurd (true≢false (sym there ∙ h)))
    ]
