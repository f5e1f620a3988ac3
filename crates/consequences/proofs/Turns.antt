-- What the next turn of the walk begins with.
use Rattle.std.proofs.Common.{◌≡◌, ℕ, List, Bool, true, false, cond, not, ◌&&◌, Option, Some, None, slice_index_or, refl, sym, ap, subst, ◌∙◌}
use Rattle.std.specs.List.{All}
use Rattle.ca_message.specs.declared.to_client.ToClient.TheVariants as replies
use Rattle.named_rows.specs.declared.subs.ClientSub.{ClientSub}
use Rattle.named_rows.specs.Subs.{with_owed}
use Rattle.gateway_state.specs.declared.cached.LastMessage.{LastMessage}
use Rattle.gateway_state.specs.declared.notice.UpdateNotice.{UpdateNotice}
use Rattle.gateway_state.specs.Gateway.{Gateway}
use Rattle.gateway_state.specs.Telling.{sent, told}
use Rattle.gateway_state.specs.Told.{KnowRights}
use Rattle.gateway_state.specs.Updates.{is_sub_to, owed_to, update_notice, with_owed_of}
use Rattle.gateway_state.specs.Variables.{connected}
use Rattle.consequences.specs.Giving.{GivesOf, IsGivenStill}
use Rattle.consequences.specs.InTurn.{source_over, told_once, told_once_by}
use Rattle.consequences.specs.declared.giving.Giving.{Giving}
use Rattle.consequences.specs.declared.source.ValueSource.{ValueSource}
use Rattle.touched_rows.specs.Touched.{owed_where}

-- a subscription is to what it was to, once it is owed an update
pub marked_is_on : (w : Gateway) (name : List ℕ) (passes : ClientSub → Bool) (sub : ClientSub) → is_sub_to w name sub ≡ true → is_sub_to w name (owed_where passes sub) ≡ true
marked_is_on w name passes sub on = elim (passes sub) as (λ t. is_sub_to w name (cond t (with_owed true sub) sub) ≡ true) [ true ↦ on | false ↦ on ]

turn_rights : (w : Gateway) (sub due : ClientSub) (notice : Option UpdateNotice) → KnowRights w → KnowRights (told_once_by sub due notice w)
unfolding sent
turn_rights w sub due None rights =
    elim (due.owed && not sub.owed) as (λ t. KnowRights (cond t (owed_to w sub) w)) [ true ↦ rights | false ↦ rights ]
turn_rights w sub due (Some n) rights =
    elim sub.owed as (λ t. KnowRights (told n.session (replies.Update n.id n.dtype n.count n.payload) (cond t (with_owed_of sub.session sub.id false w) w))) [ true ↦ rights | false ↦ rights ]

-- clients know their rights
pub know_rights_then : (passes : ClientSub → Bool) (w : Gateway) (sub : ClientSub) → KnowRights w → KnowRights (told_once passes w sub)
unfolding told_once
know_rights_then passes w sub rights = turn_rights w sub (owed_where passes sub) (update_notice w (owed_where passes sub)) rights

turn_connected : (w : Gateway) (sub due : ClientSub) (notice : Option UpdateNotice) (name : List ℕ) → connected (told_once_by sub due notice w) name ≡ connected w name
unfolding sent
turn_connected w sub due None name =
    elim (due.owed && not sub.owed) as (λ t. connected (cond t (owed_to w sub) w) name ≡ connected w name) [ true ↦ refl | false ↦ refl ]
turn_connected w sub due (Some n) name =
    elim sub.owed as (λ t. connected (told n.session (replies.Update n.id n.dtype n.count n.payload) (cond t (with_owed_of sub.session sub.id false w) w)) name ≡ connected w name) [ true ↦ refl | false ↦ refl ]

-- the value is where it was
source_then : (passes : ClientSub → Bool) (w : Gateway) (sub : ClientSub) (name : List ℕ) (source : Option ValueSource) → source ≡ source_over (connected w name) → source ≡ source_over (connected (told_once passes w sub) name)
unfolding told_once
source_then passes w sub name source is = is ∙ ap source_over (sym (turn_connected w sub (owed_where passes sub) (update_notice w (owed_where passes sub)) name))

turn_cache : (w : Gateway) (sub due : ClientSub) (notice : Option UpdateNotice) → (told_once_by sub due notice w).cache ≡ w.cache
unfolding sent
turn_cache w sub due None =
    elim (due.owed && not sub.owed) as (λ t. (cond t (owed_to w sub) w).cache ≡ w.cache) [ true ↦ refl | false ↦ refl ]
turn_cache w sub due (Some n) =
    elim sub.owed as (λ t. (told n.session (replies.Update n.id n.dtype n.count n.payload) (cond t (with_owed_of sub.session sub.id false w) w)).cache ≡ w.cache) [ true ↦ refl | false ↦ refl ]

-- and what was given of it is what would be given
pub gives_then : (passes : ClientSub → Bool) (w : Gateway) (sub : ClientSub) (name : List ℕ) (giving : Giving) → GivesOf w name giving → GivesOf (told_once passes w sub) name giving
unfolding told_once
gives_then passes w sub name giving gives = (
  source_then passes w sub name giving.source gives.0,
  subst (λ (cache : List LastMessage). IsGivenStill cache giving) (sym (turn_cache w sub (owed_where passes sub) (update_notice w (owed_where passes sub)))) gives.1,
)

turn_on : (w : Gateway) (sub due : ClientSub) (notice : Option UpdateNotice) (name : List ℕ) (other : ClientSub) → is_sub_to (told_once_by sub due notice w) name other ≡ is_sub_to w name other
unfolding sent
turn_on w sub due None name other =
    elim (due.owed && not sub.owed) as (λ t. is_sub_to (cond t (owed_to w sub) w) name other ≡ is_sub_to w name other) [ true ↦ refl | false ↦ refl ]
turn_on w sub due (Some n) name other =
    elim sub.owed as (λ t. is_sub_to (told n.session (replies.Update n.id n.dtype n.count n.payload) (cond t (with_owed_of sub.session sub.id false w) w)) name other ≡ is_sub_to w name other) [ true ↦ refl | false ↦ refl ]

-- and subscriptions to a name stay so
pub on_then : (passes : ClientSub → Bool) (w : Gateway) (sub : ClientSub) (name : List ℕ) (subs : List ClientSub) → All (λ other. is_sub_to w name other ≡ true) subs → All (λ other. is_sub_to (told_once passes w sub) name other ≡ true) subs
unfolding told_once
on_then passes w sub name subs on = λ k d within. turn_on w sub (owed_where passes sub) (update_notice w (owed_where passes sub)) name (slice_index_or subs k d) ∙ on k d within
