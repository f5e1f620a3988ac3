use Rattle.std.proofs.Common.{◌≡◌, ℕ, length, min, ap, ◌∙◌, arith, rules}
use Rattle.ask_schedule.proofs.Lines.{taken-all, taken_times}
use Rattle.ask_schedule.proofs.newcomers.Newcomers.take.Goals as goal

pub returns-clause-ok : goal.returns-clause-ok
returns-clause-ok c =
    let inside : c.len.result ≡ length c.self.inside.rows.items = search rules in
    let long : c.len.result ≡ length c.args.self.now.rows = rw (← c.self.view_is) inside in
    let count : c.min-count.result ≡ min (length c.args.self.now.rows) c.args.most = c.min-count.ensures ∙ ap (λ (k : ℕ). min k c.args.most) long in
    let done : c.loop.counter ≡ c.min-count.result = omega arith in
    c.loop.invariant ∙ ap (λ (k : ℕ). taken_times k c.args.self.now) (done ∙ count) ∙ taken-all c.args.most c.args.self.now
