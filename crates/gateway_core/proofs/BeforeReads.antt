-- Rows without the read that was touched, or before those whom an update concerns are owed it, are as ready for what
-- follows.
use Rattle.std.proofs.Common.{◌≡◌, ℕ, ◌+◌, ◌*◌, List, Some, refl, sym, ap, subst, ◌∙◌}
use Rattle.std.specs.List.{fold}
use Rattle.consequences.specs.Looks.{looks_after}
use Rattle.gateway_rows.specs.Own.{IsWithin}
use Rattle.gateway_rows.proofs.OwnStays.{reads_on_owed, subs_on_owed}
use Rattle.named_rows.specs.declared.subs.ClientSub.{ClientSub}
use Rattle.gateway_state.specs.Gateway.{Gateway}
use Rattle.gateway_state.specs.Settled.{AreNumbersApart}
use Rattle.gateway_state.specs.Updates.{concerned}
use Rattle.gateway_state.proofs.SettledWithheld.{owing, owing_changed, with_subs}
use Rattle.touched_rows.specs.declared.touched.Touched.{Touched}
use Rattle.touched_rows.specs.declared.touched.Touched.TheVariants.{All, Gone, Nothing, Session, Variable, Value, Interest, Link, Links, Read, Subscription}
use Rattle.touched_rows.specs.Concern.{passes}
use Rattle.touched_rows.specs.Touches.{IsReady, with_touched}
use Rattle.touched_rows.proofs.Ready.{ready_before_owed}

pub order_without : (touched : Touched) (w : Gateway) → AreNumbersApart (with_touched touched w) → AreNumbersApart w
order_without (Read name read) w order = record { channels = order.channels; links = order.links; subscriptions = order.subscriptions; writes = order.writes }
order_without All w order = order
order_without (Gone names) w order = order
order_without Nothing w order = order
order_without (Session number) w order = order
order_without (Variable name) w order = order
order_without (Value name concern) w order =
    let owed : AreNumbersApart (with_subs w (fold owing w.clients.subs (concerned w name (passes concern)))) =
    subst (λ (v : Gateway). AreNumbersApart v) (owing_changed (concerned w name (passes concern)) w) order in
    record { channels = owed.channels; links = owed.links; subscriptions = owed.subscriptions; writes = owed.writes }
order_without (Interest name) w order = order
order_without (Link name) w order = order
order_without (Links names) w order = order
order_without (Subscription name sub) w order = order

pub ready_without : (touched : Touched) (w : Gateway) → IsReady touched (with_touched touched w) → IsReady touched w
ready_without (Read name read) w ready = ready
ready_without All w ready = ready
ready_without (Gone names) w ready = ready
ready_without Nothing w ready = ready
ready_without (Session number) w ready = ready
ready_without (Variable name) w ready = ready
ready_without (Value name concern) w ready = ready_before_owed (concerned w name (passes concern)) w ready
ready_without (Interest name) w ready = ready
ready_without (Link name) w ready = ready
ready_without (Links names) w ready = ready
ready_without (Subscription name sub) w ready = ready

looks_without : (touched : Touched) (w : Gateway) → looks_after touched w ≡ looks_after touched (with_touched touched w)
looks_without (Read name read) w = refl
looks_without All w = refl
looks_without (Gone names) w = refl
looks_without Nothing w = refl
looks_without (Session number) w = refl
looks_without (Variable name) w = refl
looks_without (Value name concern) w =
    let subs : List ClientSub = concerned w name (passes concern) in
    λ i. Some (6 * sym (subs_on_owed name subs w) i + 2 * sym (reads_on_owed name subs w) i)
looks_without (Interest name) w = refl
looks_without (Link name) w = refl
looks_without (Links names) w = refl
looks_without (Subscription name sub) w = refl

-- what follows looks at as many rows as it may behind the direct effect
pub looked_without : (touched touches : Touched) (x effect : Gateway) (before after : ℕ) → touched ≡ touches → with_touched touched x ≡ effect
    → IsWithin (looks_after touched x) before after → IsWithin (looks_after touches effect) before after
looked_without touched touches x effect before after same is within =
    subst (λ looks. IsWithin looks before after) (looks_without touched x ∙ ap (looks_after touched) is ∙ ap (λ t. looks_after t effect) same) within
