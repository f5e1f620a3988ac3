use Rattle.std.proofs.Common.{rules, ◌≡◌, ◌&&◌, true, [], ◌∷◌, ◌++◌, sym, ◌∙◌}
use Rattle.pvlist.specs.Ruling.{matches}
use Rattle.pv_alias.specs.Resolution.{is_grant}
use Rattle.pv_alias.proofs.RowLemmas.{deciding_from_last}
use Rattle.pv_alias.proofs.resolving.deciding.Goals as goal

pub returns-then-branch : goal.returns-then-branch
returns-then-branch c =
    let split : c.loop-row.rest.now ≡ c.in-Some.before.now ++ c.in-Some.row.now ∷ [] = search rules in
    let decides : (is_grant c.in-Some.row.now.verb && matches c.in-Some.row.now c.args.name.now) ≡ true = search rules in
    let last = deciding_from_last c.loop-row.rest.now c.in-Some.before.now c.in-Some.row.now c.args.name.now split in
    sym (rw decides at last) ∙ c.loop-row.invariant
