-- The subscriptions to a variable, once an update is owed to those whom it concerns.
use Rattle.std.proofs.Common.{◌≡◌, ℕ, List, [], ◌∷◌, Bool, true, false, cond, ◌&&◌, refl, sym, ap, ◌∙◌}
use Rattle.std.specs.Prelude.{filter, map}
use Rattle.named_rows.specs.declared.subs.ClientSub.{ClientSub}
use Rattle.named_rows.specs.Subs.{with_owed}
use Rattle.gateway_rows.proofs.Readers.{passing_both}
use Rattle.gateway_state.specs.Gateway.{Gateway}
use Rattle.gateway_state.specs.Servers.{concerned_owed}
use Rattle.gateway_state.specs.Settled.{HasSubsApart}
use Rattle.gateway_state.specs.Updates.{concerned, is_sub_to, owed_to_all}
use Rattle.gateway_state.proofs.SettledWithheld.{owing_changed, with_subs}
use Rattle.touched_rows.specs.Touched.{owed_where}
use Rattle.touched_rows.proofs.Owing.{owing_each}

-- owing to those of them whom it concerns is owing to all whom it concerns
pub owed_as_concerned : (w : Gateway) (name : List ℕ) (test : ClientSub → Bool) → owed_to_all w (filter test (filter (is_sub_to w name) w.clients.subs)) ≡ concerned_owed name test w
owed_as_concerned w name test = ap (owed_to_all w) (sym (passing_both test (is_sub_to w name) w.clients.subs))

-- none is owed anything where it concerns nobody
pub nobody_concerned : (w : Gateway) (name : List ℕ) (subs : List ClientSub) → filter (λ sub. is_sub_to w name sub && false) subs ≡ []
nobody_concerned w name [] = refl
nobody_concerned w name (sub ∷ subs) =
    let rest : List ClientSub = filter (λ other. is_sub_to w name other && false) subs in
    elim (is_sub_to w name sub) as (λ t. cond (t && false) (sub ∷ rest) rest ≡ []) [ true ↦ nobody_concerned w name subs | false ↦ nobody_concerned w name subs ]

module _ (w : Gateway) (name : List ℕ) (test : ClientSub → Bool) where
  abbrev on : ClientSub → Bool
  on = is_sub_to w name

  abbrev both : ClientSub → Bool
  both sub = on sub && test sub

  -- whether it is owed doesn't change what it is to
  on_still : (sub : ClientSub) (owed : Bool) → on (cond owed (with_owed true sub) sub) ≡ on sub
  on_still sub true = refl
  on_still sub false = refl

  marked_on : (subs : List ClientSub) → filter on (map (owed_where both) subs) ≡ map (owed_where test) (filter on subs)
  marked_on [] = refl
  marked_on (sub ∷ subs) =
      let marked : ClientSub = owed_where both sub in
      let front : List ClientSub = filter on (map (owed_where both) subs) in
      let rest : front ≡ map (owed_where test) (filter on subs) = marked_on subs in
      ap (λ (t : Bool). cond t (marked ∷ front) front) (on_still sub (both sub))
      ∙ elim (on sub) as (λ t. cond t (cond (t && test sub) (with_owed true sub) sub ∷ front) front ≡ map (owed_where test) (cond t (sub ∷ filter on subs) (filter on subs))) [
        | true ↦ ap (λ (more : List ClientSub). owed_where test sub ∷ more) rest
        | false ↦ rest
      ]

  -- the state, in which some subscriptions are owed an update
  owed_shape : HasSubsApart w → concerned_owed name test w ≡ with_subs w (map (owed_where both) w.clients.subs)
  owed_shape apart =
      owing_changed (concerned w name test) w
      ∙ ap (λ (subs : List ClientSub). with_subs w subs) (owing_each both w.clients.subs apart)

  -- a list of them, by then
  pub listed_as_owed : HasSubsApart w → filter (is_sub_to (concerned_owed name test w) name) (concerned_owed name test w).clients.subs ≡ map (owed_where test) (filter (is_sub_to w name) w.clients.subs)
  listed_as_owed apart =
      ap (λ (v : Gateway). filter (is_sub_to v name) v.clients.subs) (owed_shape apart)
      ∙ marked_on w.clients.subs
