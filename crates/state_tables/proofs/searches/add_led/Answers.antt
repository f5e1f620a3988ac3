use Rattle.std.proofs.Common.{◌∙◌}
use Rattle.pv_alias.specs.Resolution.{resolution}
use Rattle.state_tables.proofs.SearchChanges.{led_one_more}
use Rattle.state_tables.proofs.searches.add_led.Goals as goal

-- the row leads where its search does under the rules
pub returns-clause-led : goal.returns-clause-led
returns-clause-led c = λ rules.
    let policy = c.args.policy.now in
    let s = c.in-Some.search in
    led_one_more policy c.args.row.now s c.in_ok-search.search c.in_ok-free.field-0 c.in_ok-lead.lead c.in_ok-kept.kept
    c.in-Some.is c.in_ok-search.ensures (c.in_ok-lead.ensures.lead ∙ (λ i. resolution (rules i) (c.of-names.ensures i) s.name)) c.in_ok-kept.ensures
    c.add.result c.args.rows.now c.add.new.self c.add.ensures.ok
