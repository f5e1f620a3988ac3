-- Outboxes that take no more updates than before.
use Rattle.std.proofs.Common.{◌≡◌, ℕ, List, [], ◌∷◌, ◌++◌, Bool, true, false, cond, Some, None, refl, sym, ap, ◌∙◌}
use Rattle.std.specs.Prelude.{filter}
use Rattle.std.specs.List.{find, fold}
use Rattle.std.proofs.lemmas.Bool.{true≢false}
use Rattle.rows.specs.Rows.{change_first}
use Rattle.ca_message.specs.declared.codes.TheConstants.{ECA_NORDACCESS}
use Rattle.ca_message.specs.declared.to_client.ToClient.TheVariants as replies
use Rattle.named_rows.specs.declared.subs.ClientSub.{ClientSub}
use Rattle.named_rows.specs.Subs.{is_sub_on}
use Rattle.fanout.specs.declared.outbox.Out.{Out}
use Rattle.gateway_state.specs.declared.connections.Connection.{Connection}
use Rattle.gateway_state.specs.declared.event.Dest.{Dest}
use Rattle.gateway_state.specs.declared.event.Dest.TheVariants.{Session as ToSession}
use Rattle.gateway_state.specs.declared.limits.Limits.{Limits}
use Rattle.gateway_state.specs.Connections.{empty, fresh, given, is_to, marked_now, outbox_in, outbox_of}
use Rattle.gateway_state.specs.Gateway.{Gateway}
use Rattle.gateway_state.specs.Notices.{reading_ended}
use Rattle.gateway_state.specs.Subscribing.{unreadable_told}
use Rattle.gateway_state.specs.Telling.{outgoing, sent}
use Rattle.gateway_state.specs.Updates.{outbox_takes_updates}
use Rattle.gateway_state.proofs.SettledUpdates.{box_taking}

-- a session's outbox takes updates
abbrev pub takes : Limits → List Connection → ℕ → Bool
takes limits connections number = outbox_takes_updates limits (outbox_of (ToSession number) connections)

-- no session takes updates after that didn't before, whatever the limits
abbrev pub HasNoMoreRoom : List Connection → List Connection → Type 0
HasNoMoreRoom before after = (limits : Limits) (number : ℕ) → takes limits after number ≡ true → takes limits before number ≡ true

-- a change after which an outbox takes updates only where it took them before
module _ (limits : Limits) (number : ℕ) (dest : Dest) (change : Connection → Connection)
    (stays : (row : Connection) → is_to (ToSession number) (change row) ≡ is_to (ToSession number) row)
    (less : (row : Connection) → is_to dest row ≡ true → is_to (ToSession number) row ≡ true → outbox_takes_updates limits (change row).outbox ≡ true → outbox_takes_updates limits row.outbox ≡ true) where
  pub taking_before : (rows : List Connection) → takes limits (change_first (is_to dest) change rows) number ≡ true → takes limits rows number ≡ true
  taking_before [] e = e
  taking_before (row ∷ rows) e = by (is_to dest row) (is_to (ToSession number) row) refl refl e (λ rest. taking_before rows rest)
    where
      by : (here sought : Bool) → is_to dest row ≡ here → is_to (ToSession number) row ≡ sought
          → takes limits (cond here (change row ∷ rows) (row ∷ change_first (is_to dest) change rows)) number ≡ true
          → (takes limits (change_first (is_to dest) change rows) number ≡ true → takes limits rows number ≡ true)
          → outbox_takes_updates limits (outbox_in (cond sought (Some row) (find (is_to (ToSession number)) rows))) ≡ true
      by true true is is_sought e rest =
          less row is is_sought (ap (λ (t : Bool). outbox_takes_updates limits (outbox_in (cond t (Some (change row)) (find (is_to (ToSession number)) rows)))) (sym (stays row ∙ is_sought)) ∙ e)
      by true false is is_sought e rest =
          ap (λ (t : Bool). outbox_takes_updates limits (outbox_in (cond t (Some (change row)) (find (is_to (ToSession number)) rows)))) (sym (stays row ∙ is_sought)) ∙ e
      by false true is is_sought e rest =
          ap (λ (t : Bool). outbox_takes_updates limits (outbox_in (cond t (Some row) (find (is_to (ToSession number)) (change_first (is_to dest) change rows))))) (sym is_sought) ∙ e
      by false false is is_sought e rest =
          rest (ap (λ (t : Bool). outbox_takes_updates limits (outbox_in (cond t (Some row) (find (is_to (ToSession number)) (change_first (is_to dest) change rows))))) (sym is_sought) ∙ e)

-- a message that is put last
pub no_more_room_given : (most : ℕ) (dest : Dest) (out : Out) (rows : List Connection) → HasNoMoreRoom rows (change_first (is_to dest) (given most out) rows)
no_more_room_given most dest out rows limits number e =
    taking_before limits number dest (given most out) (λ row. refl) (λ row here sought taking. box_taking limits most row.outbox out taking) rows e

-- one change after another
pub no_more_room_then : (first second third : List Connection) → HasNoMoreRoom first second → HasNoMoreRoom second third → HasNoMoreRoom first third
no_more_room_then first second third before after limits number e = before limits number (after limits number e)

-- subscriptions are told that their channel may not be read
all_less_room : (subs : List ClientSub) (w : Gateway) → HasNoMoreRoom w.connections (fold unreadable_told w subs).connections
unfolding sent
all_less_room [] w limits number e = e
all_less_room (sub ∷ subs) w limits number e =
    no_more_room_given w.limits.messages (ToSession sub.session) (outgoing (replies.UpdateRefused sub.id sub.dtype ECA_NORDACCESS)) w.connections limits number
    (all_less_room subs (unreadable_told w sub) limits number e)

pub no_more_room_ended : (session sid : ℕ) (ends : Bool) (w : Gateway) → HasNoMoreRoom w.connections (reading_ended session sid ends w).connections
no_more_room_ended session sid false w limits number e = e
no_more_room_ended session sid true w limits number e = all_less_room (filter (is_sub_on session sid) w.clients.subs) w limits number e

-- a mark
pub no_more_room_marked : (dest : Dest) (rows : List Connection) → HasNoMoreRoom rows (change_first (is_to dest) marked_now rows)
no_more_room_marked dest rows limits number e = taking_before limits number dest marked_now (λ row. refl) (λ row here sought taking. absurd (true≢false (sym taking))) rows e

-- a connection that is added, for which nothing waits
waiting_as_before : (dest new : Dest) (rows : List Connection) → outbox_of dest (rows ++ fresh new ∷ []) ≡ outbox_of dest rows
waiting_as_before dest new [] = elim (is_to dest (fresh new)) as (λ t. outbox_in (cond t (Some (fresh new)) None) ≡ empty) [ true ↦ refl | false ↦ refl ]
waiting_as_before dest new (row ∷ rows) =
    let rest = waiting_as_before dest new rows in
    elim (is_to dest row) as (λ t. outbox_in (cond t (Some row) (find (is_to dest) (rows ++ fresh new ∷ []))) ≡ outbox_in (cond t (Some row) (find (is_to dest) rows)))
    [ true ↦ refl | false ↦ rest ]

pub no_more_room_added : (dest : Dest) (rows : List Connection) → HasNoMoreRoom rows (rows ++ fresh dest ∷ [])
no_more_room_added dest rows limits number e = ap (outbox_takes_updates limits) (sym (waiting_as_before (ToSession number) dest rows)) ∙ e
