use Rattle.std.proofs.Common.{◌≡◌, ℕ, min, bytes_eq, refl, sym, ap, ◌∙◌}
use Rattle.ask_schedule.proofs.Retained.{retained}
use Rattle.ask_schedule.proofs.schedule.make_dues_sooner.Goals as goal

-- the closure keeps its look from call to call, keeps each entry, and leaves the sooner look in it
pub returns : goal.returns
returns c = λ n.
    retained _ (λ f. f.0.now ≡ c.args.latest) c.args.latest
    (λ g k v b w g' i t.
    let said = t.called.met.0.said-raw.1.1.1.1 in (
      said.1.0,
      sym t.leaves ∙ said.1.1 ∙ said.0.ensures ∙ ap (λ (x : ℕ). min x g.0.now) t.shows.1 ∙ ap (min v) i,
      ap (λ x. x.now) t.called.met.1 ∙ i,
    ))
    _ c.args.dues.now.entries c.retain.new.self.entries refl c.retain.ensures.filtered (bytes_eq n)
