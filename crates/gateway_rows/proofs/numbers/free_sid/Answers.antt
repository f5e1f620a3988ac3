use Rattle.std.proofs.Common.{◌≡◌, ℕ, ◌+◌, ◌-◌, ◌<◌, Bool, false, true, sym, ap, ◌∙◌, arith}
use Rattle.channel_table.specs.ClientRows.{has_channel}
use Rattle.link_table.specs.declared.counter.TheConstants.{LAST_NUMBER}
use Rattle.link_table.specs.Counters.{first_free, turned}
use Rattle.link_table.specs.Numbers.{fitting, fitting_one}
use Rattle.link_table.proofs.SearchLemmas.{fits, free_one, had_one, none_left, none_past}
use Rattle.gateway_rows.proofs.numbers.free_sid.Goals as goal

-- past the last number there is none
pub returns-then-sid-gt-LAST_NUMBER : goal.returns-then-sid-gt-LAST_NUMBER
returns-then-sid-gt-LAST_NUMBER c =
    let had = λ (sid : ℕ). has_channel c.args.number sid c.args.clients.now.rows in
    let over : LAST_NUMBER < turned c.args.reuses c.args.first c.loop-left.next = omega (arith, c.turned-sid.ensures, c.if-sid-gt-LAST_NUMBER.true) in
    sym (none_past c.args.reuses c.args.first had c.loop-left.left c.loop-left.next over) ∙ c.loop-left.invariant

-- one that nothing has is found
pub returns-then-not-has_channel : goal.returns-then-not-has_channel
returns-then-not-has_channel c =
    let had = λ (sid : ℕ). has_channel c.args.number sid c.args.clients.now.rows in
    let at = c.loop-left in
    let lacks : had (turned c.args.reuses c.args.first at.next) ≡ false = ap had (sym c.turned-sid.ensures) ∙ sym c.has_channel.ensures ∙ c.if-not-has_channel.true in
    sym (fits c.turned-sid.result (omega (arith, c.if-sid-gt-LAST_NUMBER.false)))
    ∙ ap fitting c.turned-sid.ensures
    ∙ ap fitting_one (sym (free_one c.args.reuses c.args.first had at.left (at.left - 1) at.next (omega (arith, c.loop-left-test.true)) lacks))
    ∙ at.invariant

-- behind one that is had the search goes on
pub loop-left-preserved : goal.loop-left-preserved
loop-left-preserved c =
    let had = λ (sid : ℕ). has_channel c.args.number sid c.args.clients.now.rows in
    let at = c.loop-left in
    let has : had (turned c.args.reuses c.args.first at.next) ≡ true = ap had (sym c.turned-sid.ensures) ∙ sym c.has_channel.ensures ∙ c.if-not-has_channel.false in
    ap (λ n. fitting_one (first_free c.args.reuses c.args.first had (at.left - 1) (n + 1))) c.turned-sid.ensures
    ∙ ap fitting_one (sym (had_one c.args.reuses c.args.first had at.left (at.left - 1) at.next (omega (arith, c.loop-left-test.true)) has))
    ∙ at.invariant

-- all that are looked at are had
pub returns : goal.returns
returns c =
    let had = λ (sid : ℕ). has_channel c.args.number sid c.args.clients.now.rows in
    sym (none_left c.args.reuses c.args.first had c.loop-left.left c.loop-left.next (omega (arith, c.loop-left-test.false))) ∙ c.loop-left.invariant
