-- Updates of which each is worked out when its turn comes are those that were worked out before the first
-- was told: an outbox only grows meanwhile, so who takes one at its turn took it at the start.
use Rattle.std.proofs.Common.{◌≡◌, ℕ, List, [], ◌∷◌, Bool, true, false, cond, filter, not, ◌&&◌, Option, Some, None, IfSome, drop, refl, sym, ap, subst, ◌∙◌}
use Rattle.std.specs.List.{All, cons_option, filter_map, fold}
use Rattle.std.proofs.lemmas.Bool.{eqb-true, true≢false}
use Rattle.std.proofs.lemmas.List.Elements.{All-drop, All-filter, All-head, All-tail, filter_passes}
use Rattle.ca_message.specs.declared.to_client.ToClient.TheVariants as replies
use Rattle.named_rows.specs.declared.channels.Channel.{Channel}
use Rattle.named_rows.specs.declared.subs.ClientSub.{ClientSub}
use Rattle.named_rows.specs.Channels.{is_channel_on}
use Rattle.named_rows.specs.Subs.{is_sub_of}
use Rattle.gateway_state.specs.declared.event.Dest.TheVariants.{Session as ToSession}
use Rattle.gateway_state.specs.declared.notice.UpdateNotice.{UpdateNotice}
use Rattle.gateway_state.specs.declared.reading.Given.{Given}
use Rattle.gateway_state.specs.Answer.{cached_value}
use Rattle.gateway_state.specs.Gateway.{Gateway}
use Rattle.gateway_state.specs.Rights.{channel_of, may_read, rights_of}
use Rattle.gateway_state.specs.Telling.{outgoing, sent, told}
use Rattle.gateway_state.specs.Told.{KnowRights}
use Rattle.gateway_state.specs.Updates.{is_open_to, is_paused, is_sub_to, takes_updates, update_by, update_notice, update_on, update_over, update_told, with_owed_of}
use Rattle.gateway_state.specs.Variables.{ConnectedVariable, connected}
use Rattle.gateway_rows.specs.Own.{is_owed, owed_of}
use Rattle.consequences.specs.Giving.{given_from}
use Rattle.consequences.specs.InTurn.{source_over, told_in_turn}
use Rattle.consequences.specs.declared.source.ValueSource.{ValueSource}
use Rattle.touched_rows.specs.Touched.{update_told_if}
use Rattle.row_index.proofs.Named.{same_bytes}
use Rattle.touched_rows.proofs.Connections.{no_more_room_given}

-- v tells subscriptions what w does, but that fewer outboxes may take updates
pub record IsLater (w v : Gateway) : Type 0 where
  pub updates : (sub : ClientSub) → update_on v sub (channel_of v sub.session sub.sid) ≡ update_on w sub (channel_of w sub.session sub.sid)
  pub paused : (number : ℕ) → is_paused v number ≡ is_paused w number
  pub room : (number : ℕ) → takes_updates v number ≡ true → takes_updates w number ≡ true

same : (w : Gateway) → IsLater w w
same w = record { updates = λ sub. refl; paused = λ number. refl; room = λ number taking. taking }

later : (u v w : Gateway) → IsLater u v → IsLater v w → IsLater u w
later u v w first second = record {
  updates = λ sub. second.updates sub ∙ first.updates sub;
  paused = λ number. second.paused number ∙ first.paused number;
  room = λ number taking. first.room number (second.room number taking);
}

told_later : (w : Gateway) (notice : UpdateNotice) → IsLater w (update_told w notice)
unfolding sent
told_later w notice = by (takes_updates w notice.session)
  where
    by : (taking : Bool) → IsLater w (cond taking (sent (ToSession notice.session) (outgoing (replies.Update notice.id notice.dtype notice.count notice.payload)) (with_owed_of notice.session notice.id false w)) w)
    by true = record {
      updates = λ sub. refl;
      paused = λ number. refl;
      room = λ number taking. no_more_room_given w.limits.messages (ToSession notice.session) (outgoing (replies.Update notice.id notice.dtype notice.count notice.payload)) w.connections w.limits number taking;
    }
    by false = same w

-- an update is for the session of its subscription
abbrev IsFor : ℕ → Option UpdateNotice → Type 0
IsFor number notice = IfSome notice (λ n. n.session ≡ number)

given_for : (sub : ClientSub) (given : Option Given) → IsFor sub.session (update_by sub given)
given_for sub None = tt
given_for sub (Some given) = refl

over_for : (w : Gateway) (sub : ClientSub) (over : Option ConnectedVariable) → IsFor sub.session (update_over w sub over)
over_for w sub None = tt
over_for w sub (Some v) = given_for sub (cached_value w v.link.cid v.native.count sub.dtype sub.count)

on_for : (w : Gateway) (sub : ClientSub) (channel : Option Channel) → IsFor sub.session (update_on w sub channel)
on_for w sub None = tt
on_for w sub (Some c) =
    elim (may_read (rights_of w c)) as (λ t. IsFor sub.session (cond t (update_over w sub (connected w c.real)) None)) [ true ↦ over_for w sub (connected w c.real) | false ↦ tt ]

-- an outbox that takes none is given none
module _ (v : Gateway) (number : ℕ) where
  not_given : (notice : Option UpdateNotice) → IsFor number notice → takes_updates v number ≡ false → v ≡ update_told_if notice v
  not_given None is full = refl
  not_given (Some n) is full =
      let none : takes_updates v n.session ≡ false = ap (takes_updates v) is ∙ full in
      sym (ap (λ (t : Bool). cond t (told n.session (replies.Update n.id n.dtype n.count n.payload) (with_owed_of n.session n.id false v)) v) none)

  by_room : (notice : Option UpdateNotice) → IsFor number notice → (owed paused now before : Bool) → takes_updates v number ≡ now → (now ≡ true → before ≡ true)
      → update_told_if (cond (owed && (not paused && now)) notice None) v ≡ update_told_if (cond (owed && (not paused && before)) notice None) v
  by_room notice is false paused now before at room = refl
  by_room notice is true true now before at room = refl
  by_room notice is true false true true at room = refl
  by_room notice is true false true false at room = absurd (true≢false (sym (room refl)))
  by_room notice is true false false true at room = not_given notice is at
  by_room notice is true false false false at room = refl

-- what is due at a subscription's turn is what was due at the start, unless there is no room for it now
told_at_turn : (w v : Gateway) → IsLater w v → (sub : ClientSub) → told_in_turn v sub ≡ update_told_if (update_notice w sub) v
unfolding update_notice
told_at_turn w v is sub =
    let number : ℕ = sub.session in
    ap (λ (notice : Option UpdateNotice). update_told_if (cond (sub.owed && is_open_to v sub) notice None) v) (is.updates sub)
    ∙ ap (λ (paused : Bool). update_told_if (cond (sub.owed && (not paused && takes_updates v number)) (update_on w sub (channel_of w number sub.sid)) None) v) (is.paused number)
    ∙ by_room v number (update_on w sub (channel_of w number sub.sid)) (on_for w sub (channel_of w number sub.sid)) sub.owed (is_paused w number) (takes_updates v number) (takes_updates w number) refl (is.room number)

from_there : (w v : Gateway) → IsLater w v → (subs : List ClientSub) → fold told_in_turn v subs ≡ fold update_told v (filter_map (update_notice w) subs)
from_there w v is [] = refl
from_there w v is (sub ∷ subs) =
    ap (λ (next : Gateway). fold told_in_turn next subs) (told_at_turn w v is sub)
    ∙ by (update_notice w sub) (from_there w v is subs) (λ (n : UpdateNotice). from_there w (update_told v n) (later w v (update_told v n) is (told_later v n)) subs)
  where
    by : (notice : Option UpdateNotice) → fold told_in_turn v subs ≡ fold update_told v (filter_map (update_notice w) subs)
        → ((n : UpdateNotice) → fold told_in_turn (update_told v n) subs ≡ fold update_told (update_told v n) (filter_map (update_notice w) subs))
        → fold told_in_turn (update_told_if notice v) subs ≡ fold update_told v (cons_option notice (filter_map (update_notice w) subs))
    by None rest one = rest
    by (Some n) rest one = one n

pub told_one_by_one : (w : Gateway) (subs : List ClientSub) → fold told_in_turn w subs ≡ fold update_told w (filter_map (update_notice w) subs)
told_one_by_one w subs = from_there w w (same w) subs

-- where nothing is owed nothing is due
pub due_to_owed : (w : Gateway) (subs : List ClientSub) → filter_map (update_notice w) (filter is_owed subs) ≡ filter_map (update_notice w) subs
unfolding update_notice
due_to_owed w [] = refl
due_to_owed w (sub ∷ subs) = by sub.owed refl (due_to_owed w subs)
  where
    none : sub.owed ≡ false → update_notice w sub ≡ None
    none is = ap (λ (owed : Bool). cond (owed && is_open_to w sub) (update_on w sub (channel_of w sub.session sub.sid)) None) is

    by : (owed : Bool) → sub.owed ≡ owed → filter_map (update_notice w) (filter is_owed subs) ≡ filter_map (update_notice w) subs
        → filter_map (update_notice w) (cond owed (sub ∷ filter is_owed subs) (filter is_owed subs)) ≡ cons_option (update_notice w sub) (filter_map (update_notice w) subs)
    by true is rest = ap (cons_option (update_notice w sub)) rest
    by false is rest = rest ∙ ap (λ (notice : Option UpdateNotice). cons_option notice (filter_map (update_notice w) subs)) (sym (none is))

-- where the outbox of their session takes none, none of these is told
pub none_told : (w : Gateway) (number : ℕ) (subs : List ClientSub) → All (λ sub. is_sub_of number sub ≡ true) subs → takes_updates w number ≡ false → fold told_in_turn w subs ≡ w
unfolding update_notice
none_told w number [] of full = refl
none_told w number (sub ∷ subs) of full = ap (λ (v : Gateway). fold told_in_turn v subs) none ∙ none_told w number subs (All-tail (λ (s : ClientSub). is_sub_of number s ≡ true) sub subs of) full
  where
    own : sub.session ≡ number
    own = eqb-true sub.session number (All-head (λ (s : ClientSub). is_sub_of number s ≡ true) sub subs of)

    none : told_in_turn w sub ≡ w
    none = elim sub.owed as (λ owed. update_told_if (cond (owed && (not (is_paused w sub.session) && takes_updates w sub.session)) (update_on w sub (channel_of w sub.session sub.sid)) None) w ≡ w)
        [ true ↦ ap (λ (t : Bool). update_told_if (cond t (update_on w sub (channel_of w sub.session sub.sid)) None) w) (closed (is_paused w sub.session) (takes_updates w sub.session) (ap (takes_updates w) own ∙ full)) | false ↦ refl ]
      where
        closed : (paused taking : Bool) → taking ≡ false → (not paused && taking) ≡ false
        closed true taking is = refl
        closed false taking is = is

-- so telling those that are left leads nowhere else
pub none_left : (w end : Gateway) (number : ℕ) (subs : List ClientSub) (place : ℕ) → All (λ sub. is_sub_of number sub ≡ true) subs → takes_updates w number ≡ false
    → fold told_in_turn w (drop place subs) ≡ end → w ≡ end
none_left w end number subs place of full so_far =
    sym (none_told w number (drop place subs) (All-drop (λ (s : ClientSub). is_sub_of number s ≡ true) place subs of) full) ∙ so_far

-- what is owed to a session is its own
pub owed_are_its : (w : Gateway) (number : ℕ) → All (λ sub. is_sub_of number sub ≡ true) (owed_of w number)
owed_are_its w number = All-filter is_owed (λ (s : ClientSub). is_sub_of number s ≡ true) (filter (is_sub_of number) w.clients.subs) (filter_passes (is_sub_of number) w.clients.subs)

-- who is told takes updates
pub takes_it : (w : Gateway) (sub : ClientSub) (notice : UpdateNotice) → Some notice ≡ update_notice w sub → takes_updates w notice.session ≡ true
unfolding update_notice
takes_it w sub notice is = by sub.owed (is_paused w sub.session) (takes_updates w sub.session) refl is
  where
    by : (owed paused taking : Bool) → takes_updates w sub.session ≡ taking → Some notice ≡ cond (owed && (not paused && taking)) (update_on w sub (channel_of w sub.session sub.sid)) None
        → takes_updates w notice.session ≡ true
    by false paused taking at given = cc
    by true true taking at given = cc
    by true false false at given = cc
    by true false true at given =
        let session : notice.session ≡ sub.session = subst (IsFor sub.session) (sym given) (on_for w sub (channel_of w sub.session sub.sid)) in
        ap (takes_updates w) session ∙ at

-- a subscription to a name is on a channel whose real name it is
pub real_is_name : (w : Gateway) (name : List ℕ) (sub : ClientSub) (c : Channel) → is_sub_to w name sub ≡ true → Some c ≡ channel_of w sub.session sub.sid → c.real ≡ name
real_is_name w name sub c on found = same_bytes c.real name (ap (is_channel_on name) found ∙ on)

pub all_on : (w : Gateway) (name : List ℕ) (subs : List ClientSub) → subs ≡ filter (is_sub_to w name) w.clients.subs → All (λ sub. is_sub_to w name sub ≡ true) subs
all_on w name subs are = subst (All (λ sub. is_sub_to w name sub ≡ true)) (sym are) (filter_passes (is_sub_to w name) w.clients.subs)

-- ---- what the next turn begins with

if_told : (w : Gateway) (notice : Option UpdateNotice) → KnowRights w → KnowRights (update_told_if notice w)
unfolding sent
if_told w None told_rights = told_rights
if_told w (Some n) told_rights =
    elim (takes_updates w n.session) as (λ t. KnowRights (cond t (told n.session (replies.Update n.id n.dtype n.count n.payload) (with_owed_of n.session n.id false w)) w)) [ true ↦ told_rights | false ↦ told_rights ]

-- clients know their rights
pub know_rights_next : (w : Gateway) (sub : ClientSub) → KnowRights w → KnowRights (told_in_turn w sub)
know_rights_next w sub told_rights = if_told w (update_notice w sub) told_rights

-- an update by what is had from where the value is
pub update_given : (w : Gateway) (sub : ClientSub) (source : Option ValueSource) (over : Option ConnectedVariable) → source ≡ source_over over → update_by sub (given_from w.cache source sub.dtype sub.count) ≡ update_over w sub over
update_given w sub source None is = ap (λ (s : Option ValueSource). update_by sub (given_from w.cache s sub.dtype sub.count)) is
update_given w sub source (Some v) is = ap (λ (s : Option ValueSource). update_by sub (given_from w.cache s sub.dtype sub.count)) is
