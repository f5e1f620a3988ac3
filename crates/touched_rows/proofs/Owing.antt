-- Owing an update to some subscriptions changes each of those, and nothing that doesn't look at what is
-- owed.
use Rattle.std.proofs.Common.{◌≡◌, ℕ, List, [], ◌∷◌, Bool, true, false, cond, refl, sym, ap, subst, ◌∙◌}
use Rattle.std.specs.Prelude.{filter, map}
use Rattle.std.specs.List.{fold}
use Rattle.named_rows.specs.declared.subs.ClientSub.{ClientSub}
use Rattle.rows.specs.Rows.{change_first}
use Rattle.named_rows.specs.Subs.{is_sub, with_owed}
use Rattle.named_rows.specs.Demand.{own_ask}
use Rattle.gateway_state.specs.Gateway.{Gateway}
use Rattle.gateway_state.specs.Interest.{is_subscriber}
use Rattle.gateway_state.specs.Settled.{AreApart, HasSubsApart}
use Rattle.gateway_state.specs.Updates.{is_withheld, owed_to_all}
use Rattle.gateway_state.proofs.RowTests.{any_changed}
use Rattle.gateway_state.proofs.SettledUpdates.{asks_whatever_owed}
use Rattle.gateway_state.proofs.SettledWithheld.{kept_by_others, owing, owing_changed}
use Rattle.gateway_state.proofs.SubsApart.{itself}
use Rattle.touched_rows.specs.Touched.{owed_where}

-- owing to each that passes is a change of each
pub owing_each : (test : ClientSub → Bool) (rows : List ClientSub) → AreApart rows → fold owing rows (filter test rows) ≡ map (owed_where test) rows
owing_each test [] apart = refl
owing_each test (row ∷ rows) apart = by (test row) (owing_each test rows apart.1)
  where
    by : (is : Bool) → fold owing rows (filter test rows) ≡ map (owed_where test) rows
        → fold owing (row ∷ rows) (cond is (row ∷ filter test rows) (filter test rows)) ≡ cond is (with_owed true row) row ∷ map (owed_where test) rows
    by true rest =
        let step : owing (row ∷ rows) row ≡ with_owed true row ∷ rows = rw (itself row) refl in
        ap (λ (left : List ClientSub). fold owing left (filter test rows)) step ∙ kept_by_others test (with_owed true row) rows rows apart.0
        ∙ ap (λ (more : List ClientSub). with_owed true row ∷ more) rest
    by false rest = kept_by_others test row rows rows apart.0 ∙ ap (λ (more : List ClientSub). row ∷ more) rest

-- none is withheld that wasn't
pub none_withheld : (w : Gateway) (test : ClientSub → Bool) (rows : List ClientSub) → filter (is_withheld w) rows ≡ [] → filter (is_withheld w) (map (owed_where test) rows) ≡ []
none_withheld w test [] none = refl
none_withheld w test (row ∷ rows) none = by (is_withheld w row) (test row) refl none (λ rest. none_withheld w test rows rest)
  where
    by : (held passes : Bool) → is_withheld w row ≡ held → cond held (row ∷ filter (is_withheld w) rows) (filter (is_withheld w) rows) ≡ []
        → (filter (is_withheld w) rows ≡ [] → filter (is_withheld w) (map (owed_where test) rows) ≡ [])
        → filter (is_withheld w) (cond passes (with_owed true row) row ∷ map (owed_where test) rows) ≡ []
    by true passes is none rest = absurd cc
    by false true is none rest = rest none
    by false false is none rest = rw is (rest none)

-- what readers ask for
alike_but_owed : (test : ClientSub → Bool) (rows : List ClientSub) → map (with_owed true) (map (owed_where test) rows) ≡ map (with_owed true) rows
alike_but_owed test [] = refl
alike_but_owed test (row ∷ rows) =
    let rest = alike_but_owed test rows in
    elim (test row) as (λ t. with_owed true (cond t (with_owed true row) row) ∷ map (with_owed true) (map (owed_where test) rows) ≡ with_owed true row ∷ map (with_owed true) rows)
    [ true ↦ ap (λ (more : List ClientSub). with_owed true row ∷ more) rest | false ↦ ap (λ (more : List ClientSub). with_owed true row ∷ more) rest ]

pub asks_alike : (w : Gateway) (name : List ℕ) (test : ClientSub → Bool) (rows : List ClientSub)
    → map own_ask (filter (is_subscriber w name) (map (owed_where test) rows)) ≡ map own_ask (filter (is_subscriber w name) rows)
asks_alike w name test rows =
    asks_whatever_owed w name (map (owed_where test) rows)
    ∙ ap (λ (all : List ClientSub). map own_ask (filter (is_subscriber w name) all)) (alike_but_owed test rows)
    ∙ sym (asks_whatever_owed w name rows)

-- ---- before it was owed

-- no session had two subscriptions under one ID, where none has once one is owed
apart_before : (session id : ℕ) (rows : List ClientSub) → AreApart (change_first (is_sub session id) (with_owed true) rows) → AreApart rows
apart_before session id [] apart = apart
apart_before session id (row ∷ rows) apart = by (is_sub session id row) (apart_before session id rows) apart
  where
    left : List ClientSub
    left = change_first (is_sub session id) (with_owed true) rows

    by : (is : Bool) → (AreApart left → AreApart rows) → AreApart (cond is (with_owed true row ∷ rows) (row ∷ left)) → AreApart (row ∷ rows)
    by true rest apart = apart
    by false rest apart =
        (sym (any_changed (is_sub row.session row.id) (is_sub session id) (with_owed true) rows (λ x. refl)) ∙ apart.0, rest apart.1)

apart_before_owing : (subs rows : List ClientSub) → AreApart (fold owing rows subs) → AreApart rows
apart_before_owing [] rows apart = apart
apart_before_owing (sub ∷ subs) rows apart = apart_before sub.session sub.id rows (apart_before_owing subs (owing rows sub) apart)

pub apart_before_owed : (w : Gateway) (subs : List ClientSub) → HasSubsApart (owed_to_all w subs) → HasSubsApart w
apart_before_owed w subs apart =
    apart_before_owing subs w.clients.subs (subst (λ (v : Gateway). HasSubsApart v) (owing_changed subs w) apart)
