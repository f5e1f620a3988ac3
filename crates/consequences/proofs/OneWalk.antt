-- Owing an update to all whom it concerns, and then telling each in turn, is one walk in which each is owed it
-- when its turn comes.
use Rattle.std.proofs.Common.{◌≡◌, ℕ, List, [], ◌∷◌, Bool, true, false, cond, eqb, ◌&&◌, Option, Some, None, refl, sym, ap, ◌∙◌}
use Rattle.std.specs.Prelude.{filter, map}
use Rattle.std.specs.List.{fold, list_any}
use Rattle.std.proofs.lemmas.Bool.{and_from, and_parts, eqb-true, eq-eqb, or_parts, true≢false}
use Rattle.rows.specs.Rows.{change_first}
use Rattle.ca_message.specs.declared.to_client.ToClient.TheVariants as replies
use Rattle.named_rows.specs.declared.channels.Channel.{Channel}
use Rattle.named_rows.specs.declared.subs.ClientSub.{ClientSub}
use Rattle.named_rows.specs.Subs.{is_sub, with_owed}
use Rattle.gateway_state.specs.declared.notice.UpdateNotice.{UpdateNotice}
use Rattle.gateway_state.specs.declared.reading.Given.{Given}
use Rattle.gateway_state.specs.Answer.{cached_value}
use Rattle.gateway_state.specs.Gateway.{Gateway}
use Rattle.gateway_state.specs.Rights.{channel_of, may_read, rights_of}
use Rattle.gateway_state.specs.Settled.{AreApart}
use Rattle.gateway_state.specs.Telling.{sent, told}
use Rattle.gateway_state.specs.Updates.{is_open_to, owed_to, owed_to_all, takes_updates, update_by, update_notice, update_on, update_over, update_told, with_owed_of}
use Rattle.gateway_state.specs.Variables.{ConnectedVariable, connected}
use Rattle.gateway_state.proofs.RowTests.{none_filtered}
use Rattle.gateway_state.proofs.SettledWithheld.{owing, owing_changed, with_subs}
use Rattle.consequences.specs.InTurn.{told_in_turn}
use Rattle.touched_rows.specs.Touched.{one_update_told, owed_where, update_told_if}

-- ---- rows under two keys

-- a row under two keys: those are one
pub same_key : (session id : ℕ) (b row : ClientSub) → is_sub session id row ≡ true → is_sub b.session b.id row ≡ true → is_sub session id b ≡ true
same_key session id b row first second =
    let one = and_parts (eqb row.session session) (eqb row.id id) first in
    let two = and_parts (eqb row.session b.session) (eqb row.id b.id) second in
    and_from (eqb b.session session) (eqb b.id id)
    (eq-eqb b.session session (sym (eqb-true row.session b.session two.0) ∙ eqb-true row.session session one.0))
    (eq-eqb b.id id (sym (eqb-true row.id b.id two.1) ∙ eqb-true row.id id one.1))

abbrev put : ℕ → ℕ → Bool → List ClientSub → List ClientSub
put session id owed rows = change_first (is_sub session id) (with_owed owed) rows

-- what is noted of two subscriptions is noted in either order
in_either_order : (session id : ℕ) (b : ClientSub) (rows : List ClientSub) → is_sub session id b ≡ false → put session id false (owing rows b) ≡ owing (put session id false rows) b
in_either_order session id b [] apart = refl
in_either_order session id b (row ∷ rows) apart = by (is_sub session id row) (is_sub b.session b.id row) refl refl (in_either_order session id b rows apart)
  where
    by : (one other : Bool) → is_sub session id row ≡ one → is_sub b.session b.id row ≡ other → put session id false (owing rows b) ≡ owing (put session id false rows) b
        → put session id false (cond other (with_owed true row ∷ rows) (row ∷ owing rows b)) ≡ owing (cond one (with_owed false row ∷ rows) (row ∷ put session id false rows)) b
    by true true one other rest = absurd (true≢false (sym (same_key session id b row one other) ∙ apart))
    by true false one other rest = rw (one, other) refl
    by false true one other rest = rw (one, other) refl
    by false false one other rest = rw (one, other) (ap (λ (more : List ClientSub). row ∷ more) rest)

-- so is one before several others or behind them
before_others : (session id : ℕ) (others rows : List ClientSub) → list_any (is_sub session id) others ≡ false → put session id false (fold owing rows others) ≡ fold owing (put session id false rows) others
before_others session id [] rows apart = refl
before_others session id (b ∷ others) rows apart =
    let parts = or_parts (is_sub session id b) (list_any (is_sub session id) others) apart in
    before_others session id others (owing rows b) parts.1
    ∙ ap (λ (left : List ClientSub). fold owing left others) (in_either_order session id b rows parts.0)

-- ---- the notice of an update has its subscription's key

-- whom a notice is for
abbrev pub IsOf : ClientSub → Option UpdateNotice → Type 0
IsOf sub None = Unit {0}
IsOf sub (Some notice) = (notice.session ≡ sub.session) × (notice.id ≡ sub.id)

given_of : (sub : ClientSub) (given : Option Given) → IsOf sub (update_by sub given)
given_of sub None = tt
given_of sub (Some given) = (refl, refl)

over_of : (w : Gateway) (sub : ClientSub) (over : Option ConnectedVariable) → IsOf sub (update_over w sub over)
over_of w sub None = tt
over_of w sub (Some v) = given_of sub (cached_value w v.link.cid v.native.count sub.dtype sub.count)

on_of : (w : Gateway) (sub : ClientSub) (channel : Option Channel) → IsOf sub (update_on w sub channel)
on_of w sub None = tt
on_of w sub (Some c) =
    elim (may_read (rights_of w c)) as (λ t. IsOf sub (cond t (update_over w sub (connected w c.real)) None)) [ true ↦ over_of w sub (connected w c.real) | false ↦ tt ]

pub notice_of : (w : Gateway) (sub : ClientSub) → IsOf sub (update_notice w sub)
unfolding update_notice
notice_of w sub =
    elim (sub.owed && is_open_to w sub) as (λ t. IsOf sub (cond t (update_on w sub (channel_of w sub.session sub.sid)) None)) [ true ↦ on_of w sub (channel_of w sub.session sub.sid) | false ↦ tt ]

-- ---- one is told before others are owed, or behind that

if_told_first : (u : Gateway) (sub : ClientSub) (others : List ClientSub) (notice : Option UpdateNotice) → IsOf sub notice → list_any (is_sub sub.session sub.id) others ≡ false
    → update_told_if notice (with_subs u (fold owing u.clients.subs others)) ≡ owed_to_all (update_told_if notice u) others
unfolding sent
if_told_first u sub others None is apart = sym (owing_changed others u)
if_told_first u sub others (Some n) is apart = by (takes_updates u n.session) ∙ sym (owing_changed others (update_told u n))
  where
    key : list_any (is_sub n.session n.id) others ≡ false
    key = rw (is.0, is.1) apart

    by : (taking : Bool)
        → cond taking (told n.session (replies.Update n.id n.dtype n.count n.payload) (with_owed_of n.session n.id false (with_subs u (fold owing u.clients.subs others)))) (with_subs u (fold owing u.clients.subs others))
        ≡ (let v : Gateway = cond taking (told n.session (replies.Update n.id n.dtype n.count n.payload) (with_owed_of n.session n.id false u)) u in with_subs v (fold owing v.clients.subs others))
    by true = ap (λ (subs : List ClientSub). with_subs (told n.session (replies.Update n.id n.dtype n.count n.payload) u) subs) (before_others n.session n.id others u.clients.subs key)
    by false = refl

told_first : (u : Gateway) (sub : ClientSub) (others : List ClientSub) → list_any (is_sub sub.session sub.id) others ≡ false
    → told_in_turn (owed_to_all u others) sub ≡ owed_to_all (told_in_turn u sub) others
unfolding update_notice
told_first u sub others apart =
    ap (λ (v : Gateway). told_in_turn v sub) (owing_changed others u)
    ∙ if_told_first u sub others (update_notice u sub) (notice_of u sub) apart

-- ---- one walk

-- a subscription is owed the update where it concerns it, and told it
abbrev pub told_concerned : (ClientSub → Bool) → Gateway → ClientSub → Gateway
told_concerned passes w sub = one_update_told (owed_where passes sub) (cond (passes sub) (owed_to w sub) w)

pub one_walk : (passes : ClientSub → Bool) (subs : List ClientSub) (w : Gateway) → AreApart subs
    → fold told_in_turn (owed_to_all w (filter passes subs)) (map (owed_where passes) subs) ≡ fold (told_concerned passes) w subs
one_walk passes [] w apart = refl
one_walk passes (sub ∷ subs) w apart = by (passes sub) (λ v. one_walk passes subs v apart.1)
  where
    none : list_any (is_sub sub.session sub.id) (filter passes subs) ≡ false
    none = none_filtered (is_sub sub.session sub.id) passes subs apart.0

    by : (is : Bool) → ((v : Gateway) → fold told_in_turn (owed_to_all v (filter passes subs)) (map (owed_where passes) subs) ≡ fold (told_concerned passes) v subs)
        → fold told_in_turn (told_in_turn (owed_to_all w (cond is (sub ∷ filter passes subs) (filter passes subs))) (cond is (with_owed true sub) sub)) (map (owed_where passes) subs)
        ≡ fold (told_concerned passes) (one_update_told (cond is (with_owed true sub) sub) (cond is (owed_to w sub) w)) subs
    by true more =
        ap (λ (v : Gateway). fold told_in_turn v (map (owed_where passes) subs)) (told_first (owed_to w sub) (with_owed true sub) (filter passes subs) none)
        ∙ more (one_update_told (with_owed true sub) (owed_to w sub))
    by false more =
        ap (λ (v : Gateway). fold told_in_turn v (map (owed_where passes) subs)) (told_first w sub (filter passes subs) none)
        ∙ more (one_update_told sub w)
