-- It is one whether an update is kept first, or owed first to those whom it concerns.
use Rattle.std.proofs.Common.{◌≡◌, ℕ, List, [], ◌∷◌, Bool, refl, ap, ◌∙◌}
use Rattle.named_rows.specs.declared.subs.ClientSub.{ClientSub}
use Rattle.link_table.specs.declared.links.Subject.{Subject}
use Rattle.link_table.specs.declared.links.Subject.TheVariants.{Values, Properties}
use Rattle.value_cache.specs.Held.{Held}
use Rattle.gateway_state.specs.Gateway.{Gateway}
use Rattle.gateway_state.specs.Servers.{concerned_owed, concerns, with_held}
use Rattle.gateway_state.specs.Updates.{concerned, owed_to, owed_to_all}
use Rattle.touched_rows.specs.Concern.{concern_of, passes}

-- what is touched says whom it concerns
concerns_as_said : (subject : Subject) (w : Gateway) (cid dtype count : ℕ) (payload : List ℕ) → passes (concern_of subject w cid dtype count payload) ≡ concerns subject w cid dtype count payload
concerns_as_said Values w cid dtype count payload = refl
concerns_as_said Properties w cid dtype count payload = refl

module _ (server cid : ℕ) (change : Held → Held) where
  kept_before_each : (subs : List ClientSub) (w : Gateway) → owed_to_all (with_held server cid change w) subs ≡ with_held server cid change (owed_to_all w subs)
  kept_before_each [] w = refl
  kept_before_each (sub ∷ subs) w = kept_before_each subs (owed_to w sub)

  kept_before : (name : List ℕ) (passes : ClientSub → Bool) (w : Gateway) → concerned_owed name passes (with_held server cid change w) ≡ with_held server cid change (concerned_owed name passes w)
  kept_before name passes w = kept_before_each (concerned w name passes) w

  pub owed_once_kept : (w : Gateway) (subject : Subject) (name : List ℕ) (of dtype count : ℕ) (payload : List ℕ)
      → concerned_owed name (passes (concern_of subject w of dtype count payload)) (with_held server cid change w)
      ≡ with_held server cid change (concerned_owed name (concerns subject w of dtype count payload) w)
  owed_once_kept w subject name of dtype count payload =
      kept_before name (passes (concern_of subject w of dtype count payload)) w
      ∙ ap (λ (test : ClientSub → Bool). with_held server cid change (concerned_owed name test w)) (concerns_as_said subject w of dtype count payload)
