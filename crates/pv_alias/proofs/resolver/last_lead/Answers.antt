use Rattle.std.proofs.Common.{rules, ◌≡◌, ◌-◌, ◌<◌, true, false, ◌&&◌, Some, get_or, sym, ◌∙◌, arith, take, set, refl}
use Rattle.std.proofs.lemmas.List.{set-get_or}
use Rattle.pvlist.specs.Ruling.{matches}
use Rattle.pv_alias.specs.Resolution.{matching, deciding, is_grant}
use Rattle.pv_alias.proofs.RowLemmas.{deciding_up_to}
use Rattle.pv_alias.proofs.resolver.last_lead.Goals as goal

pub returns-then-branch-clause-lead : goal.returns-then-branch-clause-lead
returns-then-branch-clause-lead c =
    let row = c.index-rows-end.result in
    let some : 0 < c.loop-end.end = omega arith in
    let yes : (is_grant row.verb && matches row c.args.name.now) ≡ true = search rules in
    let up_to = deciding_up_to c.loop-end.rows c.loop-end.end row c.args.name.now some c.loop-end.invariant.1 c.index-rows-end.is in
    let decided : deciding (matching c.args.rows.now c.args.name.now) ≡ Some row = sym c.loop-end.invariant.2 ∙ (rw yes at up_to) in
    rw decided (search rules)

pub loop-end-preserved : goal.loop-end-preserved
loop-end-preserved c =
    let row = c.index-rows-end.result in
    let some : 0 < c.loop-end.end = omega arith in
    let no : (is_grant row.verb && matches row c.args.name.now) ≡ false = search rules in
    let up_to = deciding_up_to c.loop-end.rows c.loop-end.end row c.args.name.now some c.loop-end.invariant.1 c.index-rows-end.is in
    let decided : deciding (matching (take (c.loop-end.end - 1) c.loop-end.rows) c.args.name.now) ≡ deciding (matching c.args.rows.now c.args.name.now) = sym (rw no at up_to) ∙ c.loop-end.invariant.2 in
    let same : c.decides.new.self ≡ get_or c.loop-end.rows (c.loop-end.end - 1) row = c.in_ok-decides.ensures.same in
    let rows : set c.loop-end.rows (c.loop-end.end - 1) c.decides.new.self ≡ c.loop-end.rows = rw (same, set-get_or c.loop-end.rows (c.loop-end.end - 1) row) refl in
    rw rows (c.loop-end.invariant.0, omega arith, decided)
