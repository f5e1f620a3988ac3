-- Facts on what is done and printed.
use Rattle.std.proofs.Common.{◌≡◌, ℕ, suc, List, [], ◌++◌, Option, Some, None, refl, ap, subst, ◌∙◌}
use Rattle.std.specs.Prelude.{IfSome, option_map}
use Rattle.std.proofs.lemmas.List.{append-nil}
use Rattle.std.specs.Io.KnownBytes.{Appends, Keeps}
use Rattle.replay_text.proofs.OutputLemmas.{Appends-append, Appends-nil}
use Rattle.replay.specs.Performing.{Becomes, Performs, Rests, Then, Until}

pub Keeps-then : (a b c : Option (List ℕ)) → Keeps a b → Keeps b c → Keeps a c
Keeps-then None b c h k = tt
Keeps-then (Some a) None c h k = absurd h
Keeps-then (Some a) (Some b) None h k = absurd k
Keeps-then (Some a) (Some b) (Some c) h k = k ∙ h

-- what is flushed before a write
pub Appends-kept : (a b c : Option (List ℕ)) (xs : List ℕ) → Keeps a b → Appends b c xs → Appends a c xs
Appends-kept None b c xs h k = tt
Appends-kept (Some a) None c xs h k = absurd h
Appends-kept (Some a) (Some b) None xs h k = absurd k
Appends-kept (Some a) (Some b) (Some c) xs h k = k ∙ ap (λ (l : List ℕ). l ++ xs) h

module _ {A : Type 0} where
  pub Performs-then : (first second : A → A → List ℕ → Type 0) (a b c : Option A) (x y z : Option (List ℕ))
      → Performs first a b x y → Performs second b c y z → Performs (Then first second) a c x z
  Performs-then first second None b c x y z h k = tt
  Performs-then first second (Some a) b c x y z h k =
      let P : Option A → Type 0 = λ o. Performs second o c y z in
      let next = subst P h.2 k in (
        next.0,
        h.1 ++ next.1,
        next.2,
        record { between = h.0; said = h.1; more = next.1; begun = h.3; ended = next.3; parts = refl },
        Appends-append x y z h.1 next.1 h.4 next.4,
      )

  pub Performs-becomes : (after : A → A) (said : A → List ℕ) (a b : Option A) (x y : Option (List ℕ))
      → b ≡ option_map after a → IfSome a (λ old. Appends x y (said old)) → Performs (Becomes after said) a b x y
  Performs-becomes after said None b x y is wrote = tt
  Performs-becomes after said (Some a) b x y is wrote = (after a, said a, is, (refl, refl), wrote)

  pub Performs-rests : (a : Option A) (x : Option (List ℕ)) → Performs Rests a a x x
  Performs-rests None x = tt
  Performs-rests (Some a) x = (a, [], refl, (refl, refl), Appends-nil x)

  -- what is done has this consequence
  pub Performs-weaker : (one other : A → A → List ℕ → Type 0) → ((old new : A) (text : List ℕ) → one old new text → other old new text)
      → (a b : Option A) (x y : Option (List ℕ)) → Performs one a b x y → Performs other a b x y
  Performs-weaker one other f None b x y h = tt
  Performs-weaker one other f (Some a) b x y h = (h.0, h.1, h.2, f a h.0 h.1 h.3, h.4)

  -- what is flushed before
  pub Performs-kept : (does : A → A → List ℕ → Type 0) (a b : Option A) (x y z : Option (List ℕ))
      → Keeps x y → Performs does a b y z → Performs does a b x z
  Performs-kept does None b x y z kept h = tt
  Performs-kept does (Some a) b x y z kept h = (h.0, h.1, h.2, h.3, Appends-kept x y z h.1 kept h.4)

  -- and after
  pub Performs-then_kept : (does : A → A → List ℕ → Type 0) (a b : Option A) (x y z : Option (List ℕ))
      → Performs does a b x y → Appends y z [] → Performs does a b x z
  Performs-then_kept does None b x y z h kept = tt
  Performs-then_kept does (Some a) b x y z h kept =
      let P : List ℕ → Type 0 = λ text. Appends x z text in
      (h.0, h.1, h.2, h.3, subst P (append-nil h.1) (Appends-append x y z h.1 [] h.4 kept))

  -- once more, before the times that follow
  pub Performs-again : (again last : A → A → List ℕ → Type 0) (a b c : Option A) (x y z : Option (List ℕ))
      → Performs again a b x y → Performs (Until again last) b c y z → Performs (Until again last) a c x z
  Performs-again again last a b c x y z h k =
      Performs-weaker (Then again (Until again last)) (Until again last)
      (λ old new text done. (suc done.ended.0, record { between = done.between; said = done.said; more = done.more; begun = done.begun; ended = done.ended.1; parts = done.parts }))
      a c x z (Performs-then again (Until again last) a b c x y z h k)
