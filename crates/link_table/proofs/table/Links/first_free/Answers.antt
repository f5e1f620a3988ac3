use Rattle.std.proofs.Common.{◌≡◌, ◌+◌, ◌-◌, ◌<◌, false, true, sym, ap, ◌∙◌, arith}
use Rattle.link_table.specs.declared.counter.TheConstants.{LAST_NUMBER}
use Rattle.link_table.specs.Counters.{first_free, turned}
use Rattle.link_table.specs.Numbers.{fitting, fitting_one, is_had}
use Rattle.link_table.proofs.SearchLemmas.{fits, free_one, had_one, none_left, none_past}
use Rattle.link_table.proofs.table.Links.first_free.Goals as goal

-- past the last number there is none
pub returns-then-number-gt-LAST_NUMBER-clause-found : goal.returns-then-number-gt-LAST_NUMBER-clause-found
returns-then-number-gt-LAST_NUMBER-clause-found c =
    let had = is_had c.args.counter c.args.server c.args.self.now in
    let over : LAST_NUMBER < turned c.args.reuses c.args.first c.loop-left.next = omega (arith, c.turned-number.ensures, c.if-number-gt-LAST_NUMBER.true) in
    sym (none_past c.args.reuses c.args.first had c.loop-left.left c.loop-left.next over) ∙ c.loop-left.invariant

-- one that nothing has is found
pub returns-then-not-is_had-clause-found : goal.returns-then-not-is_had-clause-found
returns-then-not-is_had-clause-found c =
    let had = is_had c.args.counter c.args.server c.args.self.now in
    let at = c.loop-left in
    let lacks : had (turned c.args.reuses c.args.first at.next) ≡ false = ap had (sym c.turned-number.ensures) ∙ sym c.is_had.ensures ∙ c.if-not-is_had.true in
    sym (fits c.turned-number.result (omega (arith, c.if-number-gt-LAST_NUMBER.false)))
    ∙ ap fitting c.turned-number.ensures
    ∙ ap fitting_one (sym (free_one c.args.reuses c.args.first had at.left (at.left - 1) at.next (omega (arith, c.loop-left-test.true)) lacks))
    ∙ at.invariant

-- behind one that is had the search goes on
pub loop-left-preserved : goal.loop-left-preserved
loop-left-preserved c =
    let had = is_had c.args.counter c.args.server c.args.self.now in
    let at = c.loop-left in
    let has : had (turned c.args.reuses c.args.first at.next) ≡ true = ap had (sym c.turned-number.ensures) ∙ sym c.is_had.ensures ∙ c.if-not-is_had.false in
    ap (λ n. fitting_one (first_free c.args.reuses c.args.first had (at.left - 1) (n + 1))) c.turned-number.ensures
    ∙ ap fitting_one (sym (had_one c.args.reuses c.args.first had at.left (at.left - 1) at.next (omega (arith, c.loop-left-test.true)) has))
    ∙ at.invariant

-- all that are looked at are had
pub returns-clause-found : goal.returns-clause-found
returns-clause-found c =
    let had = is_had c.args.counter c.args.server c.args.self.now in
    sym (none_left c.args.reuses c.args.first had c.loop-left.left c.loop-left.next (omega (arith, c.loop-left-test.false))) ∙ c.loop-left.invariant
