-- The pass over updates that are withheld leaves none that isn't owed.
use Rattle.std.proofs.Common.{◌≡◌, List, [], ◌∷◌, Bool, true, false, cond, ◌||◌, refl, ap, ◌∙◌}
use Rattle.std.specs.Prelude.{filter}
use Rattle.std.specs.List.{fold, list_any}
use Rattle.std.proofs.lemmas.Bool.{true≢false}
use Rattle.rows.specs.Rows.{change_first}
use Rattle.named_rows.specs.declared.subs.ClientSub.{ClientSub}
use Rattle.named_rows.specs.Subs.{is_sub, with_owed}
use Rattle.gateway_state.specs.Gateway.{Gateway}
use Rattle.gateway_state.specs.Notices.{channel_notices}
use Rattle.gateway_state.specs.Settled.{AreApart}
use Rattle.gateway_state.specs.Updates.{is_withheld, owed_to_all, updates_withheld, withheld}
use Rattle.gateway_state.proofs.SubsApart.{itself, other_key}

-- a state with other subscriptions
abbrev pub with_subs : Gateway → List ClientSub → Gateway
with_subs w subs = record w { clients = record w.clients { subs = subs } }

-- what owing to one leaves of them
abbrev pub owing : List ClientSub → ClientSub → List ClientSub
owing rows sub = change_first (is_sub sub.session sub.id) (with_owed true) rows

-- owing changes nothing else
pub owing_changed : (subs : List ClientSub) (w : Gateway) → owed_to_all w subs ≡ with_subs w (fold owing w.clients.subs subs)
owing_changed [] w = refl
owing_changed (sub ∷ subs) w = owing_changed subs (with_subs w (owing w.clients.subs sub))

-- owing to others leaves a subscription as it is
pub kept_by_others : (test : ClientSub → Bool) (quiet : ClientSub) (rows others : List ClientSub) → list_any (is_sub quiet.session quiet.id) rows ≡ false
    → fold owing (quiet ∷ others) (filter test rows) ≡ quiet ∷ fold owing others (filter test rows)
kept_by_others test quiet [] others apart = refl
kept_by_others test quiet (row ∷ rows) others apart =
    by (is_sub quiet.session quiet.id row) (test row) refl apart (λ left rest. kept_by_others test quiet rows left rest)
  where
    by : (same passes : Bool) → is_sub quiet.session quiet.id row ≡ same → (same || list_any (is_sub quiet.session quiet.id) rows) ≡ false
        → ((left : List ClientSub) → list_any (is_sub quiet.session quiet.id) rows ≡ false → fold owing (quiet ∷ left) (filter test rows) ≡ quiet ∷ fold owing left (filter test rows))
        → fold owing (quiet ∷ others) (cond passes (row ∷ filter test rows) (filter test rows)) ≡ quiet ∷ fold owing others (cond passes (row ∷ filter test rows) (filter test rows))
    by true passes is apart on = absurd (true≢false apart)
    by false false is apart on = on others apart
    by false true is apart on =
        let step : owing (quiet ∷ others) row ≡ quiet ∷ owing others row = rw (other_key quiet row is) refl in
        ap (λ (left : List ClientSub). fold owing left (filter test rows)) step ∙ on (owing others row) apart

-- once each that is withheld is owed, none is left
quiet_subs : (w : Gateway) (rows : List ClientSub) → AreApart rows → filter (is_withheld w) (fold owing rows (filter (is_withheld w) rows)) ≡ []
quiet_subs w [] apart = refl
quiet_subs w (row ∷ rows) apart = by (is_withheld w row) refl (quiet_subs w rows apart.1)
  where
    by : (is : Bool) → is_withheld w row ≡ is → filter (is_withheld w) (fold owing rows (filter (is_withheld w) rows)) ≡ []
        → filter (is_withheld w) (fold owing (row ∷ rows) (cond is (row ∷ filter (is_withheld w) rows) (filter (is_withheld w) rows))) ≡ []
    by false is rest = rw (kept_by_others (is_withheld w) row rows rows apart.0, is) rest
    by true is rest =
        let step : owing (row ∷ rows) row ≡ with_owed true row ∷ rows = rw (itself row) refl in
        ap (λ (left : List ClientSub). filter (is_withheld w) (fold owing left (filter (is_withheld w) rows))) step
        ∙ rw (kept_by_others (is_withheld w) (with_owed true row) rows rows apart.0) rest

-- after the pass every update that is withheld is owed
pub withheld_settled : (w : Gateway) → AreApart w.clients.subs → withheld (updates_withheld w) ≡ []
withheld_settled w apart = ap withheld (owing_changed (withheld w) w) ∙ quiet_subs w w.clients.subs apart

-- the pass leaves what is owed to channels
pub withheld_keeps_channels : (w : Gateway) → channel_notices (updates_withheld w) ≡ channel_notices w
withheld_keeps_channels w = ap channel_notices (owing_changed (withheld w) w)
