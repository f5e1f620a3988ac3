use Rattle.std.proofs.Common.{◌≡◌, ◌+◌, ◌-◌, ◌<◌, Bool, false, true, sym, ap, ◌∙◌, arith}
use Rattle.link_table.specs.declared.counter.TheConstants.{LAST_NUMBER}
use Rattle.link_table.specs.Counters.{first_free, turned}
use Rattle.link_table.specs.Numbers.{fitting, fitting_one}
use Rattle.plain_rows.specs.Numbers.{is_taken}
use Rattle.link_table.proofs.SearchLemmas.{fits, free_one, had_one, none_left, none_past}
use Rattle.plain_rows.proofs.state.PlainRows.first_free.Goals as goal

-- past the last number there is none
pub returns-then-number-gt-LAST_NUMBER : goal.returns-then-number-gt-LAST_NUMBER
returns-then-number-gt-LAST_NUMBER c =
    let had = is_taken c.args.counter c.args.owner c.args.self.now in
    let over : LAST_NUMBER < turned c.args.reuses c.args.first c.loop-left.next = omega (arith, c.turned-number.ensures, c.if-number-gt-LAST_NUMBER.true) in
    sym (none_past c.args.reuses c.args.first had c.loop-left.left c.loop-left.next over) ∙ c.loop-left.invariant

-- one that nothing has is found
pub returns-then-not-is_taken : goal.returns-then-not-is_taken
returns-then-not-is_taken c =
    let had = is_taken c.args.counter c.args.owner c.args.self.now in
    let at = c.loop-left in
    let lacks : had (turned c.args.reuses c.args.first at.next) ≡ false = ap had (sym c.turned-number.ensures) ∙ sym c.is_taken.ensures ∙ c.if-not-is_taken.true in
    sym (fits c.turned-number.result (omega (arith, c.if-number-gt-LAST_NUMBER.false)))
    ∙ ap fitting c.turned-number.ensures
    ∙ ap fitting_one (sym (free_one c.args.reuses c.args.first had at.left (at.left - 1) at.next (omega (arith, c.loop-left-test.true)) lacks))
    ∙ at.invariant

-- behind one that is had the search goes on
pub loop-left-preserved : goal.loop-left-preserved
loop-left-preserved c =
    let had = is_taken c.args.counter c.args.owner c.args.self.now in
    let at = c.loop-left in
    let has : had (turned c.args.reuses c.args.first at.next) ≡ true = ap had (sym c.turned-number.ensures) ∙ sym c.is_taken.ensures ∙ c.if-not-is_taken.false in
    ap (λ n. fitting_one (first_free c.args.reuses c.args.first had (at.left - 1) (n + 1))) c.turned-number.ensures
    ∙ ap fitting_one (sym (had_one c.args.reuses c.args.first had at.left (at.left - 1) at.next (omega (arith, c.loop-left-test.true)) has))
    ∙ at.invariant

-- all that are looked at are had
pub returns : goal.returns
returns c =
    let had = is_taken c.args.counter c.args.owner c.args.self.now in
    sym (none_left c.args.reuses c.args.first had c.loop-left.left c.loop-left.next (omega (arith, c.loop-left-test.false))) ∙ c.loop-left.invariant
