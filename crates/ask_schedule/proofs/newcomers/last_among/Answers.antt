use Rattle.std.proofs.Common.{◌≡◌, ℕ, ◌-◌, ◌<◌, suc, drop, length, Some, None, subst, sym, ap, ◌∙◌, rules, arith}
use Rattle.ask_schedule.specs.declared.row.Newcomer.{Newcomer}
use Rattle.ask_schedule.specs.Queue.{last_lap}
use Rattle.ask_schedule.proofs.Hosts.{last-there}
use Rattle.ask_schedule.proofs.newcomers.last_among.Goals as goal

pub returns-then-row-host : goal.returns-then-row-host
returns-then-row-host c =
    let rows = c.args.rows.now.items in
    let row = c.index-row.result.now in
    let some : 0 < c.loop-end.end = search rules in
    let within : c.loop-end.end - 1 < length rows = omega (arith, some, c.loop-end.invariant.within) in
    let back : c.loop-end.end ≡ suc (c.loop-end.end - 1) = omega (arith, some) in
    let same : row.host ≡ c.args.host = search rules in
    ap (λ (r : Newcomer). Some r.lap) c.index-row.ensures
    ∙ last-there c.args.host rows (c.loop-end.end - 1) row within
    (subst (λ (k : ℕ). last_lap c.args.host (drop k rows) ≡ None) back c.loop-end.invariant.none)
    (ap (λ (r : Newcomer). r.host) (sym c.index-row.ensures) ∙ same)
