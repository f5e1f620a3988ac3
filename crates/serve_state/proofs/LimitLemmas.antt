-- What is told of limits at any looks.
use Rattle.std.proofs.Common.{◌≡◌, ℕ, ◌+◌, ◌-◌, ◌≤◌, ◌<◌, List, [], ◌∷◌, length, Bool, true, false, refl, sym, ◌∙◌, arith}
use Rattle.std.specs.Prelude.{nat_lt, if◌then◌else◌}
use Rattle.std.proofs.lemmas.Bool.{lt-ltb, ltb-true}
use Rattle.serve_state.specs.Limits.{WatchState, after_look, after_looks, told_in, tells, IsSilentFor, IsToldOnce}

-- nothing is told where there is a look to rest
quiet : (met told rest : ℕ) → 0 < rest → tells met (record { told = told; rest = rest }) ≡ false
quiet met told rest h = rw (lt-ltb 0 rest h) refl

-- nothing is told at as many looks as are to rest
silent : (told : ℕ) (counts : List ℕ) (rest : ℕ) → length counts ≤ rest → told_in counts (record { told = told; rest = rest }) ≡ 0
silent told [] rest h = refl
silent told (met ∷ counts) rest h =
    rw (quiet met told rest (omega (arith, h))) (rw (silent told counts (rest - 1) (omega (arith, h))) refl)

pub silent_for : (met : ℕ) (watch : WatchState) (counts : List ℕ) → IsSilentFor met watch counts
silent_for met watch counts is h = rw is (silent met counts 240 h)

-- what one look tells, and those behind it
once : (told met rest more : ℕ) (b : Bool) → (b ≡ true → told < met) →
    told + ((if b then met - told else 0) + more) ≡ (if b then met else told) + more
once told met rest more true h = let less = h refl in omega (arith, less)
once told met rest more false h = omega arith

tells-less : (met : ℕ) (watch : WatchState) → tells met watch ≡ true → watch.told < met
tells-less met watch is = grind (arith, ltb-true)

told-after : (met : ℕ) (watch : WatchState) (b : Bool) → tells met watch ≡ b → (after_look met watch).told ≡ (if b then met else watch.told)
told-after met watch true is = rw is refl
told-after met watch false is = rw is refl

pub told_once : (counts : List ℕ) (watch : WatchState) → IsToldOnce counts watch
told_once [] watch = omega arith
told_once (met ∷ counts) watch =
    once watch.told met 0 (told_in counts (after_look met watch)) (tells met watch) (tells-less met watch)
    ∙ rw (sym (told-after met watch (tells met watch) refl)) (told_once counts (after_look met watch))
