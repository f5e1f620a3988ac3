-- What a map has after each of its looks was made sooner.
use Rattle.std.proofs.Common.{◌≡◌, ℕ, min, Bool, true, false, cond, List, [], ◌∷◌, Option, Some, ap, ◌∙◌}
use Rattle.std.specs.Map.{lookup}
use Rattle.std.specs.Map.Calls.{RetainsPairs}
use Rattle.std.specs.Option.{option_map}

step : (latest : ℕ) (b : Bool) (v w : ℕ) (found kept : Option ℕ) → w ≡ min v latest → kept ≡ option_map (λ (x : ℕ). min x latest) found
    → cond b (Some w) kept ≡ option_map (λ (x : ℕ). min x latest) (cond b (Some v) found)
step latest true v w found kept e on = ap (λ (x : ℕ). Some x) e
step latest false v w found kept e on = on

module _ {F K : Type 0} (T : F → K → ℕ → Bool → ℕ → F → Type 0) (I : F → Type 0) (latest : ℕ) where
  pub retained : ((g : F) (k : K) (v : ℕ) (b : Bool) (w : ℕ) (g' : F) → I g → T g k v b w g' → (b ≡ true) × (w ≡ min v latest) × I g')
      → (f : F) (es kept : List (K × ℕ)) → I f → RetainsPairs T f es kept → (test : K → Bool) → lookup test kept ≡ option_map (λ (x : ℕ). min x latest) (lookup test es)
  retained told f [] kept i s test = ap (lookup test) s
  retained told f (e ∷ es) kept i s test =
      let t = told f e.0 e.1 s.0 s.1 s.2 i s.4 in
      let on = retained told s.2 es s.3 t.2 s.5 test in
      let is : kept ≡ (e.0, s.1) ∷ s.3 = s.6 ∙ ap (λ (b : Bool). cond b ((e.0, s.1) ∷ s.3) s.3) t.0 in
      ap (lookup test) is ∙ step latest (test e.0) e.1 s.1 (lookup test es) (lookup test s.3) t.1 on
