-- What an event gives a connection is put behind what waits for it, and is the wire form of what the event
-- may say.
use Rattle.std.proofs.Common.{◌≡◌, ℕ, List, [], ◌∷◌, ◌++◌, length, Bool, true, false, cond, not, ◌||◌, Some, None, refl, sym, ap, subst, ◌∙◌}
use Rattle.std.specs.Prelude.{drop, filter, take}
use Rattle.std.specs.List.{All, find, list_any}
use Rattle.std.proofs.lemmas.Bool.{and_parts, eqb-true, not-true, true≢false}
use Rattle.std.proofs.lemmas.List.{append-nil, append_assoc, take-append-drop}
use Rattle.std.proofs.lemmas.List.Elements.{All-append, All-cons, All-nil}
use Rattle.std.proofs.Math.Seq.{drop-append_seam, drop-nil}
use Rattle.rows.specs.Rows.{change_first}
use Rattle.ca_header.specs.declared.header.Message.{Message}
use Rattle.ca_message.specs.declared.to_client.ToClient.{ToClient}
use Rattle.ca_message.specs.declared.to_client.ToClient.TheVariants as replies
use Rattle.ca_message.specs.declared.to_server.ToServer.{ToServer}
use Rattle.fanout.specs.declared.outbox.Out.{Out}
use Rattle.fanout.specs.Outbox.{appended, refuses}
use Rattle.fanout.specs.Waiting.{Waiting}
use Rattle.gateway_state.specs.declared.connections.Connection.{Connection}
use Rattle.gateway_state.specs.declared.event.Dest.{Dest}
use Rattle.gateway_state.specs.declared.event.Dest.TheVariants.{Session, Upstream}
use Rattle.gateway_state.specs.declared.event.Event.{Event}
use Rattle.gateway_state.specs.declared.event.Event.TheVariants.{Opened, Lost, Client, UpOpened, UpLost, Server, Found, Search, Sweep, Edit, Drain, Limit, Age, Probe, Seek}
use Rattle.gateway_state.specs.Asked.{is_open}
use Rattle.gateway_state.specs.Connections.{fresh, given, is_not_to, is_to, marked_now, most_for, outbox_in, outbox_of, relieved, same_dest}
use Rattle.gateway_state.specs.Delivered.{IsSaidBy, IsWireForm, before_said, given_by, is_loss_of, waiting_for}
use Rattle.gateway_state.specs.Direct.{direct_effect}
use Rattle.gateway_state.specs.Gateway.{Gateway}
use Rattle.gateway_state.specs.Step.{delivered, delivered_after, makes, run, step, taken}
use Rattle.gateway_state.specs.Telling.{outgoing, outgoing_upstream, sent, told}
use Rattle.gateway_state.proofs.Kept.{KeepsQuotes, KeepsRows}
use Rattle.gateway_state.proofs.KeptByRuns.{kept_by_event, kept_consequences}
use Rattle.gateway_state.proofs.KeptByServers.{kept_found}

-- OUTBOXES

same_dest_is : (a b : Dest) → same_dest a b ≡ true → a ≡ b
same_dest_is (Session a) (Session b) e = ap Session (eqb-true a b e)
same_dest_is (Upstream a) (Upstream b) e = ap Upstream (eqb-true a b e)
same_dest_is (Session a) (Upstream b) e = absurd (true≢false (sym e))
same_dest_is (Upstream a) (Session b) e = absurd (true≢false (sym e))

-- one list of messages is another with wire forms for this connection put behind
record HasGrown (event : Event) (dest : Dest) (before after : List Out) : Type 0 where
  given : List Out
  is : after ≡ before ++ given
  said : All (IsWireForm event dest) given

as_before : (event : Event) (dest : Dest) (before after : List Out) → after ≡ before → HasGrown event dest before after
as_before event dest before after same = record { given = []; is = same ∙ sym (append-nil before); said = All-nil (IsWireForm event dest) }

grown_on : (event : Event) (dest : Dest) (a b c : List Out) → HasGrown event dest a b → HasGrown event dest b c → HasGrown event dest a c
grown_on event dest a b c first second = record {
  given = first.given ++ second.given;
  is = second.is ∙ ap (λ (l : List Out). l ++ second.given) first.is ∙ append_assoc a first.given second.given;
  said = All-append (IsWireForm event dest) first.given second.given first.said second.said;
}

appended_grows : (event : Event) (dest : Dest) (most : ℕ) (box : Waiting) (out : Out) → IsWireForm event dest out → HasGrown event dest box.messages (appended most box out).messages
appended_grows event dest most box out wire = by (refuses most box)
  where
    by : (full : Bool) → HasGrown event dest box.messages (cond full (record box { marked = true }) (record box { messages = box.messages ++ out ∷ [] })).messages
    by true = as_before event dest box.messages box.messages refl
    by false = record { given = out ∷ []; is = refl; said = All-cons (IsWireForm event dest) out [] wire (All-nil (IsWireForm event dest)) }

abbrev messages_of : Dest → List Connection → List Out
messages_of dest rows = (outbox_of dest rows).messages

sent_grows : (event : Event) (dest to : Dest) (most : ℕ) (out : Out) (rows : List Connection) → (to ≡ dest → IsWireForm event dest out)
    → HasGrown event dest (messages_of dest rows) (messages_of dest (change_first (is_to to) (given most out) rows))
sent_grows event dest to most out [] wire = as_before event dest [] [] refl
sent_grows event dest to most out (row ∷ rows) wire = by (is_to to row) (is_to dest row) refl refl (sent_grows event dest to most out rows wire)
  where
    by : (hit own : Bool) → is_to to row ≡ hit → is_to dest row ≡ own
        → HasGrown event dest (messages_of dest rows) (messages_of dest (change_first (is_to to) (given most out) rows))
        → HasGrown event dest (outbox_in (cond own (Some row) (find (is_to dest) rows))).messages
        (messages_of dest (cond hit (given most out row ∷ rows) (row ∷ change_first (is_to to) (given most out) rows)))
    by true true is_hit is_own rest = rw (messages_of, is_own) (appended_grows event dest most row.outbox out (wire (sym (same_dest_is row.dest to is_hit) ∙ same_dest_is row.dest dest is_own)))
    by true false is_hit is_own rest = rw (messages_of, is_own) (as_before event dest (messages_of dest rows) (messages_of dest rows) refl)
    by false true is_hit is_own rest = rw (messages_of, is_own) (as_before event dest row.outbox.messages row.outbox.messages refl)
    by false false is_hit is_own rest = rw (messages_of, is_own) rest

marked_same : (dest to : Dest) (rows : List Connection) → messages_of dest (change_first (is_to to) marked_now rows) ≡ messages_of dest rows
marked_same dest to [] = refl
marked_same dest to (row ∷ rows) = by (is_to to row) (is_to dest row) refl (marked_same dest to rows)
  where
    by : (hit own : Bool) → is_to dest row ≡ own → messages_of dest (change_first (is_to to) marked_now rows) ≡ messages_of dest rows
        → messages_of dest (cond hit (marked_now row ∷ rows) (row ∷ change_first (is_to to) marked_now rows)) ≡ (outbox_in (cond own (Some row) (find (is_to dest) rows))).messages
    by true true is_own rest = rw (messages_of, is_own) refl
    by true false is_own rest = rw (messages_of, is_own) refl
    by false true is_own rest = rw (messages_of, is_own) refl
    by false false is_own rest = rw (messages_of, is_own) rest

added_same : (dest new : Dest) (rows : List Connection) → messages_of dest (rows ++ fresh new ∷ []) ≡ messages_of dest rows
added_same dest new [] = elim (same_dest new dest) as (λ own. (outbox_in (cond own (Some (fresh new)) None)).messages ≡ []) [ true ↦ refl | false ↦ refl ]
added_same dest new (row ∷ rows) =
    elim (is_to dest row) as (λ own. (outbox_in (cond own (Some row) (find (is_to dest) (rows ++ fresh new ∷ [])))).messages ≡ (outbox_in (cond own (Some row) (find (is_to dest) rows))).messages)
    [ true ↦ refl | false ↦ added_same dest new rows ]

-- STEPS

module _ (x : Gateway) (event : Event) (dest : Dest) where
  abbrev GrownFrom : Gateway → Type 0
  GrownFrom v = HasGrown event dest (waiting_for x dest) (waiting_for v dest)

  grown_by : (to : Dest) (out : Out) (v : Gateway) → (to ≡ dest → IsWireForm event dest out) → GrownFrom v → GrownFrom (sent to out v)
  unfolding sent
  grown_by to out v wire grown =
      grown_on event dest (waiting_for x dest) (waiting_for v dest) (messages_of dest (change_first (is_to to) (given (most_for v.limits to) out) v.connections)) grown (sent_grows event dest to (most_for v.limits to) out v.connections wire)

  same_still : (v : Gateway) (after : List Out) → after ≡ waiting_for v dest → GrownFrom v → HasGrown event dest (waiting_for x dest) after
  same_still v after same grown = subst (λ (l : List Out). HasGrown event dest (waiting_for x dest) l) (sym same) grown

  to_client : (number : ℕ) (said : ToClient) → IsSaidBy event number said → Session number ≡ dest → IsWireForm event dest (outgoing said)
  to_client number said by is = subst (λ (d : Dest). IsWireForm event d (outgoing said)) is (said, (by, refl))

  to_server : (number : ℕ) (said : ToServer) → Upstream number ≡ dest → IsWireForm event dest (outgoing_upstream said)
  to_server number said is = subst (λ (d : Dest). IsWireForm event d (outgoing_upstream said)) is (said, refl)

  grown_told : (number : ℕ) (said : ToClient) → IsSaidBy event number said → (v : Gateway) → GrownFrom v → GrownFrom (told number said v)
  grown_told number said by v grown = grown_by (Session number) (outgoing said) v (to_client number said by) grown

  grown_quoted : (number : ℕ) (message : Message) → event ≡ Client number message → KeepsQuotes GrownFrom number message
  grown_quoted number message is = record {
    echo = λ asked v grown. grown_told number (replies.Echo message) (is, asked) v grown;
    errors = λ cid code v grown. grown_told number (replies.Error cid code message.head) (message, (is, refl)) v grown;
  }

  grown_kept : KeepsRows GrownFrom
  grown_kept = record {
    messages = record {
      telling = λ number said any w grown. grown_told number said (any event number) w grown;
      asking = λ number said w grown. grown_by (Upstream number) (outgoing_upstream said) w (to_server number said) grown;
      marking = λ to w grown. same_still w (messages_of dest (change_first (is_to to) marked_now w.connections)) (marked_same dest to w.connections) grown;
    };
    connection_added = λ new w rowed grown. same_still w (messages_of dest (w.connections ++ fresh new ∷ [])) (added_same dest new w.connections) grown;
    session_added = λ row w there grown. grown;
    session_changed = λ number change w same grown. grown;
    server_added = λ row w grown. grown;
    server_changed = λ number minor w grown. grown;
    cache_left = λ stays w grown. grown;
    cached = λ server cid change w grown. grown;
    bare = λ cid w grown. grown;
    searches = λ rows w grown. grown;
    policy = λ policy w grown. grown;
    limits = λ limits w grown. grown;
    last_age = λ last w grown. grown;
    channel_added = λ session cid name real rights w fixed grown. grown;
    channel_changed = λ session sid reach rights w grown. grown;
    channel_removed = λ session sid w grown. grown;
    sub_added = λ sub w free there grown. grown;
    sub_changed = λ session id owed w grown. grown;
    sub_removed = λ session id w grown. grown;
    read_added = λ read w there grown. grown;
    read_removed = λ read w grown. grown;
    write_added = λ write w there next grown. grown;
    write_removed = λ server id w grown. grown;
    link_changed = λ server cid state rights w grown. grown;
    subscription_made = λ subject server cid mask count sent w grown. grown;
    subscription_ended = λ subject server cid w grown. grown;
    link_removed = λ server cid w grown. grown;
  }

-- an event puts wire forms behind what it leaves of an outbox
step_grows : (w : Gateway) (event : Event) (dest : Dest) → HasGrown event dest (waiting_for (before_said w event) dest) (waiting_for (step w event) dest)
unfolding step
step_grows w event dest =
    let from : Gateway = before_said w event in
    kept_consequences (GrownFrom from event dest) (grown_kept from event dest) (direct_effect w event)
    (kept_by_event (GrownFrom from event dest) (grown_kept from event dest) w event
    (grown_quoted from event dest)
    (λ name server grown. kept_found (GrownFrom from event dest) (grown_kept from event dest).messages w name server (λ missing standing. grown) grown)
    (as_before event dest (waiting_for from dest) (waiting_for from dest) refl))

-- what an event gives is what it puts there
given_there : (w : Gateway) (event : Event) (dest : Dest) → (step_grows w event dest).given ≡ given_by w event dest
given_there w event dest =
    let grows = step_grows w event dest in
    sym (ap (drop (length (waiting_for (before_said w event) dest))) grows.is ∙ drop-append_seam (waiting_for (before_said w event) dest) grows.given)

pub given_is_said : (w : Gateway) (event : Event) (dest : Dest) → All (IsWireForm event dest) (given_by w event dest)
given_is_said w event dest = subst (All (IsWireForm event dest)) (given_there w event dest) (step_grows w event dest).said

given_last : (w : Gateway) (event : Event) (dest : Dest) → waiting_for (step w event) dest ≡ waiting_for (before_said w event) dest ++ given_by w event dest
given_last w event dest =
    let grows = step_grows w event dest in
    grows.is ∙ ap (λ (l : List Out). waiting_for (before_said w event) dest ++ l) (given_there w event dest)

-- WHAT AN EVENT TAKES

another_dest : (a b c : Dest) → same_dest a b ≡ false → same_dest c b ≡ true → same_dest c a ≡ false
another_dest a b c other same = by (same_dest c a) refl
  where
    by : (is : Bool) → same_dest c a ≡ is → same_dest c a ≡ false
    by true e = absurd (true≢false (sym same ∙ ap (λ (d : Dest). same_dest d b) (same_dest_is c a e) ∙ other))
    by false e = e

others_left : (dest gone : Dest) (rows : List Connection) → same_dest gone dest ≡ false → messages_of dest (filter (is_not_to gone) rows) ≡ messages_of dest rows
others_left dest gone [] other = refl
others_left dest gone (row ∷ rows) other = by (is_to dest row) (is_to gone row) refl refl (others_left dest gone rows other)
  where
    by : (own goes : Bool) → is_to dest row ≡ own → is_to gone row ≡ goes → messages_of dest (filter (is_not_to gone) rows) ≡ messages_of dest rows
        → messages_of dest (cond (not goes) (row ∷ filter (is_not_to gone) rows) (filter (is_not_to gone) rows)) ≡ (outbox_in (cond own (Some row) (find (is_to dest) rows))).messages
    by true true is_own is_gone rest = absurd (true≢false (sym is_gone ∙ another_dest gone dest row.dest other is_own))
    by true false is_own is_gone rest = rw (messages_of, is_own) refl
    by false true is_own is_gone rest = rest
    by false false is_own is_gone rest = rw (messages_of, is_own) rest

own_drained : (dest to : Dest) (count : ℕ) (rows : List Connection) → same_dest to dest ≡ true → messages_of dest (change_first (is_to to) (relieved count) rows) ≡ drop count (messages_of dest rows)
own_drained dest to count [] same = sym (drop-nil count)
own_drained dest to count (row ∷ rows) same =
    let own : is_to to row ≡ is_to dest row = ap (λ (d : Dest). same_dest row.dest d) (same_dest_is to dest same) in
    rw own (by (is_to dest row) refl (own_drained dest to count rows same))
  where
    by : (own : Bool) → is_to dest row ≡ own → messages_of dest (change_first (is_to to) (relieved count) rows) ≡ drop count (messages_of dest rows)
        → messages_of dest (cond own (relieved count row ∷ rows) (row ∷ change_first (is_to to) (relieved count) rows)) ≡ drop count (outbox_in (cond own (Some row) (find (is_to dest) rows))).messages
    by true is_own rest = rw (messages_of, is_own) refl
    by false is_own rest = rw (messages_of, is_own) rest

others_drained : (dest to : Dest) (count : ℕ) (rows : List Connection) → same_dest to dest ≡ false → messages_of dest (change_first (is_to to) (relieved count) rows) ≡ messages_of dest rows
others_drained dest to count [] other = refl
others_drained dest to count (row ∷ rows) other = by (is_to to row) (is_to dest row) refl refl (others_drained dest to count rows other)
  where
    by : (hit own : Bool) → is_to to row ≡ hit → is_to dest row ≡ own → messages_of dest (change_first (is_to to) (relieved count) rows) ≡ messages_of dest rows
        → messages_of dest (cond hit (relieved count row ∷ rows) (row ∷ change_first (is_to to) (relieved count) rows)) ≡ (outbox_in (cond own (Some row) (find (is_to dest) rows))).messages
    by true true is_hit is_own rest = absurd (true≢false (sym is_hit ∙ another_dest to dest row.dest other is_own))
    by true false is_hit is_own rest = rw (messages_of, is_own) refl
    by false true is_hit is_own rest = rw (messages_of, is_own) refl
    by false false is_hit is_own rest = rw (messages_of, is_own) rest

drained_parts : (dest to : Dest) (count : ℕ) (rows : List Connection)
    → messages_of dest rows ≡ cond (same_dest to dest) (take count (messages_of dest rows)) [] ++ messages_of dest (change_first (is_to to) (relieved count) rows)
drained_parts dest to count rows = by (same_dest to dest) refl
  where
    by : (same : Bool) → same_dest to dest ≡ same
        → messages_of dest rows ≡ cond same (take count (messages_of dest rows)) [] ++ messages_of dest (change_first (is_to to) (relieved count) rows)
    by true is = sym (ap (λ (l : List Out). take count (messages_of dest rows) ++ l) (own_drained dest to count rows is) ∙ take-append-drop count (messages_of dest rows))
    by false is = sym (others_drained dest to count rows is)

-- what waits is what the event takes, and what it leaves; unless it is the loss of the connection
taken_first : (w : Gateway) (event : Event) (dest : Dest) → is_loss_of event dest ≡ false → waiting_for w dest ≡ taken w event dest ++ waiting_for (before_said w event) dest
taken_first w (Opened number host) dest other = refl
taken_first w (Lost number) dest other = sym (others_left dest (Session number) w.connections other)
taken_first w (Client number message) dest other = refl
taken_first w (UpOpened number) dest other = refl
taken_first w (UpLost number) dest other = sym (others_left dest (Upstream number) w.connections other)
taken_first w (Server number message) dest other = refl
taken_first w (Found name number) dest other = refl
taken_first w (Search host name) dest other = refl
taken_first w Sweep dest other = refl
taken_first w (Edit policy) dest other = refl
taken_first w (Drain to count) dest other = drained_parts dest to count w.connections
taken_first w (Limit limits) dest other = refl
taken_first w Age dest other = refl
taken_first w (Probe number) dest other = refl
taken_first w (Seek number cid name) dest other = refl

-- RUNS

nothing_waits : (rows : List Connection) (dest : Dest) → list_any (is_to dest) rows ≡ false → messages_of dest rows ≡ []
nothing_waits [] dest none = refl
nothing_waits (row ∷ rows) dest none =
    elim (is_to dest row) as (λ own. (own || list_any (is_to dest) rows) ≡ false → (outbox_in (cond own (Some row) (find (is_to dest) rows))).messages ≡ [])
    [ true ↦ λ h. absurd (true≢false h) | false ↦ λ h. nothing_waits rows dest h ] none

-- of an empty list nothing is left
nothing_left : (a b : List Out) → [] ≡ a ++ b → b ≡ []
nothing_left [] b none = sym none
nothing_left (out ∷ a) b none = absurd cc

module _ (event : Event) (dest : Dest) (other : is_loss_of event dest ≡ false) where
  one_event : (before : List Out) (w : Gateway)
      → delivered_after before w (event ∷ []) dest ≡ cond (makes w event dest) [] (before ++ waiting_for w dest) ++ given_by w event dest
  one_event before w = by (makes w event dest) refl
    where
      left : List Out
      left = waiting_for (before_said w event) dest

      begins : not (is_open w dest) ≡ true → waiting_for (step w event) dest ≡ given_by w event dest
      begins fresh_now =
          let none : waiting_for w dest ≡ [] = nothing_waits w.connections dest (not-true (is_open w dest) fresh_now) in
          let empty : left ≡ [] = nothing_left (taken w event dest) left (sym none ∙ taken_first w event dest other) in
          given_last w event dest ∙ ap (λ (l : List Out). l ++ given_by w event dest) empty

      by : (made : Bool) → makes w event dest ≡ made
          → cond made [] (before ++ taken w event dest) ++ waiting_for (step w event) dest ≡ cond made [] (before ++ waiting_for w dest) ++ given_by w event dest
      by true is = begins (and_parts (not (is_open w dest)) (is_open (step w event) dest) is).0
      by false is =
          ap (λ (l : List Out). (before ++ taken w event dest) ++ l) (given_last w event dest)
          ∙ sym (append_assoc (before ++ taken w event dest) left (given_by w event dest))
          ∙ ap (λ (l : List Out). l ++ given_by w event dest)
          (append_assoc before (taken w event dest) left ∙ ap (λ (l : List Out). before ++ l) (sym (taken_first w event dest other)))

  one_more : (before : List Out) (w : Gateway) (events : List Event)
      → delivered_after before w (events ++ event ∷ []) dest
      ≡ cond (makes (run w events) event dest) [] (delivered_after before w events dest) ++ given_by (run w events) event dest
  unfolding run
  one_more before w [] = one_event before w
  one_more before w (first ∷ events) = one_more (cond (makes w first dest) [] (before ++ taken w first dest)) (step w first) events

-- what was delivered once one event more ran
pub delivered_one_more : (w : Gateway) (events : List Event) (event : Event) (dest : Dest) → is_loss_of event dest ≡ false
    → delivered w (events ++ event ∷ []) dest ≡ cond (makes (run w events) event dest) [] (delivered w events dest) ++ given_by (run w events) event dest
delivered_one_more w events event dest other = one_more event dest other [] w events
