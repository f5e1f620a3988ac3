-- Partial functions of which each leads back where the other came from.
use Rattle.std.proofs.Common.{◌≡◌, Bool, true, false, Option, Some, None, Decides, refl, sym, ap, ◌∙◌}
use Rattle.std.proofs.lemmas.Bool.{false≢true}
use Rattle.link_table.specs.LinkIndex.{LeadsBack, LeadEachWay}

module _ {A B : Type 0} (same_a : A → A → Bool) (same_b : B → B → Bool) (decides_a : (x y : A) → Decides (same_a x y) (x ≡ y)) (decides_b : (x y : B) → Decides (same_b x y) (x ≡ y)) where
  -- a leads to b and b to a, where b led nowhere before
  pub back_joined : (f f' : A → Option B) (g g' : B → Option A) (a : A) (b : B) → LeadsBack f g → g b ≡ None → f' a ≡ Some b → g' b ≡ Some a → ((x : A) → same_a x a ≡ false → f' x ≡ f x) → ((y : B) → same_b y b ≡ false → g' y ≡ g y) → LeadsBack f' g'
  back_joined f f' g g' a b back free to from others_a others_b x y e =
      elim (same_a x a) as (λ t. same_a x a ≡ t → g' y ≡ Some x) [
        | true ↦ λ h. let here : x ≡ a = (decides_a x a).0 h in let there : Some y ≡ Some b = sym e ∙ ap f' here ∙ to in let is : y ≡ b = cc in ap g' is ∙ from ∙ ap Some (sym here)
        | false ↦ λ h.
            let led : g y ≡ Some x = back x y (sym (others_a x h) ∙ e) in
            elim (same_b y b) as (λ t. same_b y b ≡ t → g' y ≡ Some x) [
              | true ↦ λ k. let is : y ≡ b = (decides_b y b).0 k in let clash : None ≡ Some x = sym free ∙ ap g (sym is) ∙ led in cc
              | false ↦ λ k. others_b y k ∙ led
            ] refl
      ] refl

  -- a and b led to each other, and lead nowhere now
  pub back_parted : (f f' : A → Option B) (g g' : B → Option A) (a : A) (b : B) → LeadsBack f g → f a ≡ Some b → f' a ≡ None → ((x : A) → same_a x a ≡ false → f' x ≡ f x) → ((y : B) → same_b y b ≡ false → g' y ≡ g y) → LeadsBack f' g'
  back_parted f f' g g' a b back led gone others_a others_b x y e =
      elim (same_a x a) as (λ t. same_a x a ≡ t → g' y ≡ Some x) [
        | true ↦ λ h. let here : x ≡ a = (decides_a x a).0 h in let clash : None ≡ Some y = sym gone ∙ ap f' (sym here) ∙ e in cc
        | false ↦ λ h.
            let to : g y ≡ Some x = back x y (sym (others_a x h) ∙ e) in
            elim (same_b y b) as (λ t. same_b y b ≡ t → g' y ≡ Some x) [
              | true ↦ λ k.
                  let is : y ≡ b = (decides_b y b).0 k in
                  let both : Some x ≡ Some a = sym to ∙ ap g is ∙ back a b led in
                  let here : x ≡ a = cc in
                  absurd (false≢true (sym h ∙ (decides_a x a).1 here))
              | false ↦ λ k. others_b y k ∙ to
            ] refl
      ] refl

-- the same functions, worked out in another way
back_as : {A B : Type 0} (f f' : A → Option B) (g g' : B → Option A) → LeadsBack f g → ((x : A) → f' x ≡ f x) → ((y : B) → g' y ≡ g y) → LeadsBack f' g'
back_as f f' g g' back same_f same_g x y e = same_g y ∙ back x y (sym (same_f x) ∙ e)

pub lead_as : {A B : Type 0} (f f' : A → Option B) (g g' : B → Option A) → LeadEachWay f g → ((x : A) → f' x ≡ f x) → ((y : B) → g' y ≡ g y) → LeadEachWay f' g'
lead_as f f' g g' way same_f same_g =
    record { leads = back_as f f' g g' way.leads same_f same_g; is_led_to = back_as g g' f f' way.is_led_to same_g same_f }

module _ {A B : Type 0} (same_a : A → A → Bool) (same_b : B → B → Bool) (decides_a : (x y : A) → Decides (same_a x y) (x ≡ y)) (decides_b : (x y : B) → Decides (same_b x y) (x ≡ y)) where
  -- a and b led nowhere, and lead to each other now
  pub lead_joined : (f f' : A → Option B) (g g' : B → Option A) (a : A) (b : B) → LeadEachWay f g → f a ≡ None → g b ≡ None → f' a ≡ Some b → g' b ≡ Some a → ((x : A) → same_a x a ≡ false → f' x ≡ f x) → ((y : B) → same_b y b ≡ false → g' y ≡ g y) → LeadEachWay f' g'
  lead_joined f f' g g' a b way free_a free_b to from others_a others_b =
      record { leads = back_joined same_a same_b decides_a decides_b f f' g g' a b way.leads free_b to from others_a others_b; is_led_to = back_joined same_b same_a decides_b decides_a g g' f f' b a way.is_led_to free_a from to others_b others_a }

  -- a and b led to each other, and lead nowhere now
  pub lead_parted : (f f' : A → Option B) (g g' : B → Option A) (a : A) (b : B) → LeadEachWay f g → f a ≡ Some b → f' a ≡ None → g' b ≡ None → ((x : A) → same_a x a ≡ false → f' x ≡ f x) → ((y : B) → same_b y b ≡ false → g' y ≡ g y) → LeadEachWay f' g'
  lead_parted f f' g g' a b way led gone_a gone_b others_a others_b =
      record { leads = back_parted same_a same_b decides_a decides_b f f' g g' a b way.leads led gone_a others_a others_b; is_led_to = back_parted same_b same_a decides_b decides_a g g' f f' b a way.is_led_to (way.leads a b led) gone_b others_b others_a }

  moved_leads : (f f' : A → Option B) (g g' : B → Option A) (a : A) (b c : B) → LeadEachWay f g → f a ≡ Some b → g c ≡ None → f' a ≡ Some c → g' c ≡ Some a → ((x : A) → same_a x a ≡ false → f' x ≡ f x) → ((y : B) → same_b y b ≡ false → same_b y c ≡ false → g' y ≡ g y) → LeadsBack f' g'
  moved_leads f f' g g' a b c way led free to from others_a others_b x y e =
      elim (same_a x a) as (λ t. same_a x a ≡ t → g' y ≡ Some x) [
        | true ↦ λ h. let here : x ≡ a = (decides_a x a).0 h in let there : Some y ≡ Some c = sym e ∙ ap f' here ∙ to in let is : y ≡ c = cc in ap g' is ∙ from ∙ ap Some (sym here)
        | false ↦ λ h.
            let back : g y ≡ Some x = way.leads x y (sym (others_a x h) ∙ e) in
            elim (same_b y c) as (λ t. same_b y c ≡ t → g' y ≡ Some x) [
              | true ↦ λ k. let is : y ≡ c = (decides_b y c).0 k in let clash : None ≡ Some x = sym free ∙ ap g (sym is) ∙ back in cc
              | false ↦ λ k.
                  elim (same_b y b) as (λ t. same_b y b ≡ t → g' y ≡ Some x) [
                    | true ↦ λ m.
                        let is : y ≡ b = (decides_b y b).0 m in
                        let both : Some x ≡ Some a = sym back ∙ ap g is ∙ way.leads a b led in
                        let here : x ≡ a = cc in
                        absurd (false≢true (sym h ∙ (decides_a x a).1 here))
                    | false ↦ λ m. others_b y m k ∙ back
                  ] refl
            ] refl
      ] refl

  moved_back : (f f' : A → Option B) (g g' : B → Option A) (a : A) (b c : B) → LeadEachWay f g → f a ≡ Some b → f' a ≡ Some c → g' b ≡ None → g' c ≡ Some a → ((x : A) → same_a x a ≡ false → f' x ≡ f x) → ((y : B) → same_b y b ≡ false → same_b y c ≡ false → g' y ≡ g y) → LeadsBack g' f'
  moved_back f f' g g' a b c way led to gone from others_a others_b y x e =
      elim (same_b y c) as (λ t. same_b y c ≡ t → f' x ≡ Some y) [
        | true ↦ λ k. let is : y ≡ c = (decides_b y c).0 k in let there : Some x ≡ Some a = sym e ∙ ap g' is ∙ from in let here : x ≡ a = cc in ap f' here ∙ to ∙ ap Some (sym is)
        | false ↦ λ k.
            elim (same_b y b) as (λ t. same_b y b ≡ t → f' x ≡ Some y) [
              | true ↦ λ m. let is : y ≡ b = (decides_b y b).0 m in let clash : None ≡ Some x = sym gone ∙ ap g' (sym is) ∙ e in cc
              | false ↦ λ m.
                  let back : f x ≡ Some y = way.is_led_to y x (sym (others_b y m k) ∙ e) in
                  elim (same_a x a) as (λ t. same_a x a ≡ t → f' x ≡ Some y) [
                    | true ↦ λ h.
                        let here : x ≡ a = (decides_a x a).0 h in
                        let both : Some y ≡ Some b = sym back ∙ ap f here ∙ led in
                        let is : y ≡ b = cc in
                        absurd (false≢true (sym m ∙ (decides_b y b).1 is))
                    | false ↦ λ h. others_a x h ∙ back
                  ] refl
            ] refl
      ] refl

  -- a led to b, and leads to c now
  pub lead_moved : (f f' : A → Option B) (g g' : B → Option A) (a : A) (b c : B) → LeadEachWay f g → f a ≡ Some b → g c ≡ None → f' a ≡ Some c → g' b ≡ None → g' c ≡ Some a → ((x : A) → same_a x a ≡ false → f' x ≡ f x) → ((y : B) → same_b y b ≡ false → same_b y c ≡ false → g' y ≡ g y) → LeadEachWay f' g'
  lead_moved f f' g g' a b c way led free to gone from others_a others_b =
      record { leads = moved_leads f f' g g' a b c way led free to from others_a others_b; is_led_to = moved_back f f' g g' a b c way led to gone from others_a others_b }
