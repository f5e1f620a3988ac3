-- Messages that are taken from an outbox make room for the updates of its session alone.
use Rattle.std.proofs.Common.{◌≡◌, ℕ, List, Bool, true, false, cond, eqb, not, ◌&&◌, Option, None, refl, sym, ap, ◌∙◌}
use Rattle.std.specs.List.{All, fold}
use Rattle.std.proofs.lemmas.Bool.{eq-eqb, eqb-true, true≢false}
use Rattle.std.proofs.lemmas.List.Elements.{All-weaker}
use Rattle.rows.specs.Rows.{change_first}
use Rattle.named_rows.specs.declared.subs.ClientSub.{ClientSub}
use Rattle.named_rows.specs.Subs.{is_sub_of}
use Rattle.gateway_state.specs.declared.connections.Connection.{Connection}
use Rattle.gateway_state.specs.declared.event.Dest.{Dest}
use Rattle.gateway_state.specs.declared.event.Dest.TheVariants.{Session as ToSession, Upstream}
use Rattle.gateway_state.specs.declared.limits.Limits.{Limits}
use Rattle.gateway_state.specs.declared.notice.UpdateNotice.{UpdateNotice}
use Rattle.gateway_state.specs.Connections.{is_to, outbox_in, relieved, same_dest}
use Rattle.gateway_state.specs.Direct.{drained}
use Rattle.gateway_state.specs.Gateway.{Gateway}
use Rattle.gateway_state.specs.Rights.{channel_of}
use Rattle.gateway_state.specs.Settled.{IsSettled}
use Rattle.gateway_state.specs.Step.{consequences}
use Rattle.gateway_state.specs.Updates.{is_paused, takes_updates, outbox_takes_updates, update_notice, update_on, update_told}
use Rattle.gateway_state.proofs.SettledMeaning.{none_told}
use Rattle.gateway_state.proofs.SettledSteps.{settled_stays}
use Rattle.touched_rows.specs.declared.touched.Touched.TheVariants.{Nothing, Session}
use Rattle.touched_rows.specs.Touched.{updates_told_to}
use Rattle.touched_rows.specs.Touches.{drain_touches, consequences_of}
use Rattle.touched_rows.proofs.Blanked.{found_other}
use Rattle.touched_rows.proofs.Connections.{takes}
use Rattle.touched_rows.proofs.Nothing.{settled_connections, settled_taking}
use Rattle.touched_rows.proofs.Passes.{from_updates}
use Rattle.touched_rows.proofs.TouchedAlone.{touched_alone}

pub other_session : (dest : Dest) (number other : ℕ) → eqb other number ≡ false → same_dest dest (ToSession number) ≡ true → same_dest dest (ToSession other) ≡ false
other_session (ToSession a) number other differ same =
    elim (eqb a other) as (λ t. eqb a other ≡ t → t ≡ false) [
      | true ↦ λ is. absurd (true≢false (sym (eq-eqb other number (sym (eqb-true a other is) ∙ eqb-true a number same)) ∙ differ))
      | false ↦ λ is. refl
    ] refl
other_session (Upstream a) number other differ same = refl

no_session : (dest : Dest) (number other : ℕ) → same_dest dest (Upstream number) ≡ true → same_dest dest (ToSession other) ≡ false
no_session (ToSession a) number other same = absurd (true≢false (sym same))
no_session (Upstream a) number other same = refl

-- other sessions take updates as before
takes_as_before : (limits : Limits) (number other count : ℕ) (rows : List Connection) → eqb other number ≡ false
    → takes limits (change_first (is_to (ToSession number)) (relieved count) rows) other ≡ takes limits rows other
takes_as_before limits number other count rows differ =
    ap (λ (found : Option Connection). outbox_takes_updates limits (outbox_in found))
    (found_other (is_to (ToSession other)) (is_to (ToSession number)) (relieved count) rows
    (λ row is. (other_session row.dest number other differ is, other_session row.dest number other differ is)))

takes_beside_server : (limits : Limits) (number other count : ℕ) (rows : List Connection)
    → takes limits (change_first (is_to (Upstream number)) (relieved count) rows) other ≡ takes limits rows other
takes_beside_server limits number other count rows =
    ap (λ (found : Option Connection). outbox_takes_updates limits (outbox_in found))
    (found_other (is_to (ToSession other)) (is_to (Upstream number)) (relieved count) rows
    (λ row is. (no_session row.dest number other is, no_session row.dest number other is)))

-- what is due to subscriptions of other sessions
due_as_before : (w : Gateway) (number count : ℕ) (sub : ClientSub) → eqb sub.session number ≡ false → update_notice (drained w (ToSession number) count) sub ≡ update_notice w sub
unfolding update_notice
due_as_before w number count sub differ =
    ap (λ (room : Bool). cond (sub.owed && (not (is_paused w sub.session) && room)) (update_on w sub (channel_of w sub.session sub.sid)) None)
    (takes_as_before w.limits number sub.session count w.connections differ)

told_after_drain : (w : Gateway) (number count : ℕ) → IsSettled w
    → consequences (drained w (ToSession number) count) ≡ updates_told_to number (drained w (ToSession number) count)
told_after_drain w number count settled =
    from_updates x settled.channels settled.held_back settled.links settled.reads
    ∙ ap (λ (notices : List UpdateNotice). fold update_told x notices) (touched_alone (update_notice x) (is_sub_of number) w.clients.subs quiet)
  where
    x : Gateway
    x = drained w (ToSession number) count

    quiet : All (λ (sub : ClientSub). is_sub_of number sub ≡ false → update_notice x sub ≡ None) w.clients.subs
    quiet =
        All-weaker (λ (sub : ClientSub). update_notice w sub ≡ None) (λ (sub : ClientSub). is_sub_of number sub ≡ false → update_notice x sub ≡ None)
        (λ sub none differ. due_as_before w number count sub differ ∙ none) w.clients.subs (none_told (update_notice w) w.clients.subs settled.updates)

-- no session takes updates that didn't before, where the drained one did
room_before : (limits : Limits) (number other count : ℕ) (rows : List Connection) → takes limits rows number ≡ true
    → takes limits (change_first (is_to (ToSession number)) (relieved count) rows) other ≡ true → takes limits rows other ≡ true
room_before limits number other count rows room taking =
    elim (eqb other number) as (λ t. eqb other number ≡ t → takes limits rows other ≡ true) [
      | true ↦ λ is. ap (takes limits rows) (eqb-true other number is) ∙ room
      | false ↦ λ is. sym (takes_as_before limits number other count rows is) ∙ taking
    ] refl

nothing_after_room : (w : Gateway) (number count : ℕ) → IsSettled w → takes_updates w number ≡ true
    → consequences (drained w (ToSession number) count) ≡ drained w (ToSession number) count
nothing_after_room w number count settled room =
    settled_stays (drained w (ToSession number) count)
    (settled_taking w (change_first (is_to (ToSession number)) (relieved count) w.connections) settled
    (λ other taking. room_before w.limits number other count w.connections room taking))

-- what was drained tells its session's updates where it took none before
pub told_drain : (w : Gateway) (number count : ℕ) → IsSettled w
    → consequences (drained w (ToSession number) count) ≡ consequences_of (drain_touches w (ToSession number)) (drained w (ToSession number) count)
told_drain w number count settled =
    let x = drained w (ToSession number) count in
    elim (takes_updates w number) as (λ t. takes_updates w number ≡ t → consequences x ≡ consequences_of (cond t Nothing (Session number)) x) [
      | true ↦ λ room. nothing_after_room w number count settled room
      | false ↦ λ full. told_after_drain w number count settled
    ] refl

-- a server's outbox makes room for none
pub nothing_after_server_drain : (w : Gateway) (number count : ℕ) → IsSettled w → consequences (drained w (Upstream number) count) ≡ drained w (Upstream number) count
nothing_after_server_drain w number count settled =
    settled_stays (drained w (Upstream number) count)
    (settled_connections w (change_first (is_to (Upstream number)) (relieved count) w.connections) settled
    (λ limits other taking. sym (takes_beside_server limits number other count w.connections) ∙ taking))
