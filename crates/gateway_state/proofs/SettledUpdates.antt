-- The pass over updates leaves none that is due.
use Rattle.std.proofs.Common.{◌≡◌, ℕ, List, [], ◌∷◌, ◌++◌, length, Bool, true, false, cond, ltb, not, ◌&&◌, ◌||◌, Option, Some, None, refl, sym, ap, subst, ◌∙◌, arith}
use Rattle.std.specs.Prelude.{◌^◌, ◌-◌, ◌≤◌, filter, filter_map, flat_map, map, sum_by}
use Rattle.std.specs.List.{fold, find, list_any, cons_option}
use Rattle.std.proofs.lemmas.Bool.{and_from, and_parts, lt-ltb, ltb-true, true≢false}
use Rattle.std.proofs.lemmas.List.{length-append}
use Rattle.std.proofs.lemmas.List.Sums.{sum_by_push}
use Rattle.std.proofs.Math.Nat.{le-min, min-le_left, min-le_right}
use Rattle.rows.specs.Rows.{change_first}
use Rattle.ca_message.specs.declared.to_client.ToClient.TheVariants as replies
use Rattle.named_rows.specs.declared.channels.Channel.{Channel}
use Rattle.named_rows.specs.declared.subs.ClientSub.{ClientSub}
use Rattle.named_rows.specs.Demand.{own_ask}
use Rattle.named_rows.specs.Subs.{is_sub, with_owed}
use Rattle.mask_merge.specs.declared.want.Ask.{Ask}
use Rattle.gateway_state.specs.declared.event.Dest.{Dest}
use Rattle.gateway_state.specs.declared.event.Dest.TheVariants.{Session as ToSession}
use Rattle.gateway_state.specs.declared.connections.Connection.{Connection}
use Rattle.fanout.specs.declared.outbox.Out.{Out}
use Rattle.gateway_state.specs.declared.limits.Limits.{Limits}
use Rattle.gateway_state.specs.declared.limits.TheConstants.{UPDATE_LIMIT}
use Rattle.gateway_state.specs.declared.notice.UpdateNotice.{UpdateNotice}
use Rattle.gateway_state.specs.declared.reading.Given.{Given}
use Rattle.gateway_state.specs.Answer.{cached_value}
use Rattle.gateway_state.specs.Connections.{given, is_to, outbox_in, outbox_of}
use Rattle.gateway_state.specs.Gateway.{Gateway}
use Rattle.gateway_state.specs.Interest.{is_reader, is_subscriber, reader_ask, readers}
use Rattle.gateway_state.specs.Notices.{channel_notices, link_notices, read_notices}
use Rattle.fanout.specs.Outbox.{appended, refuses}
use Rattle.gateway_state.specs.Rights.{channel_of, may_read, rights_of}
use Rattle.gateway_state.specs.Settled.{AreApart}
use Rattle.gateway_state.specs.Telling.{outgoing, sent}
use Rattle.gateway_state.specs.Updates.{is_paused, is_unreadable, is_withheld, outbox_takes_updates, update_by, update_notice, update_notices, update_on, update_over, update_told, updates_told, withheld}
use Rattle.gateway_state.specs.Variables.{ConnectedVariable, connected}
use Rattle.fanout.specs.Waiting.{Waiting, out_len, waiting_bytes}
use Rattle.gateway_state.proofs.LinkNotices.{link_notices_alike}
use Rattle.gateway_state.proofs.SubsApart.{itself, other_key}

-- ---- what the pass changes

-- outboxes and subscriptions
record Served : Type 0 where
  connections : List Connection
  subs : List ClientSub

abbrev with_served : Gateway → Served → Gateway
with_served w served = record w { connections = served.connections; clients = record w.clients { subs = served.subs } }

abbrev takes : Limits → List Connection → ℕ → Bool
takes limits connections number = outbox_takes_updates limits (outbox_of (ToSession number) connections)

abbrev said : UpdateNotice → Out
said notice = outgoing (replies.Update notice.id notice.dtype notice.count notice.payload)

-- what a notice leaves of them
abbrev left_by : Limits → Served → UpdateNotice → Served
left_by limits served notice =
    cond (takes limits served.connections notice.session) (record {
      connections = change_first (is_to (ToSession notice.session)) (given limits.messages (said notice)) served.connections;
      subs = change_first (is_sub notice.session notice.id) (with_owed false) served.subs;
    }) served

abbrev served_in : Gateway → Served
served_in w = record { connections = w.connections; subs = w.clients.subs }

told_served : (w : Gateway) (served : Served) (notice : UpdateNotice) → update_told (with_served w served) notice ≡ with_served w (left_by w.limits served notice)
unfolding sent
told_served w served notice =
    elim (takes w.limits served.connections notice.session) as (λ t. cond t (with_served w (record {
      connections = change_first (is_to (ToSession notice.session)) (given w.limits.messages (said notice)) served.connections;
      subs = change_first (is_sub notice.session notice.id) (with_owed false) served.subs;
    })) (with_served w served) ≡ with_served w (cond t (record {
      connections = change_first (is_to (ToSession notice.session)) (given w.limits.messages (said notice)) served.connections;
      subs = change_first (is_sub notice.session notice.id) (with_owed false) served.subs;
    }) served))
    [ true ↦ refl | false ↦ refl ]

-- notices of updates change nothing else
all_served : (notices : List UpdateNotice) (w : Gateway) (served : Served) → fold update_told (with_served w served) notices ≡ with_served w (fold (left_by w.limits) served notices)
all_served [] w served = refl
all_served (notice ∷ notices) w served =
    ap (λ (v : Gateway). fold update_told v notices) (told_served w served notice) ∙ all_served notices w (left_by w.limits served notice)

-- ---- room in outboxes

-- one message more is no fewer bytes
more_bytes : (box : Waiting) (out : Out) → waiting_bytes box ≤ waiting_bytes (record box { messages = box.messages ++ out ∷ [] })
more_bytes box out =
    let bytes : ℕ = sum_by out_len box.messages in
    le-min (omega (arith, min-le_left bytes (2 ^ 64 - 1), sum_by_push out_len box.messages out)) (min-le_right bytes (2 ^ 64 - 1))

pub box_taking : (limits : Limits) (most : ℕ) (box : Waiting) (out : Out) → outbox_takes_updates limits (appended most box out) ≡ true → outbox_takes_updates limits box ≡ true
box_taking limits most box out e = by (refuses most box) e
  where
    by : (refused : Bool) → outbox_takes_updates limits (cond refused (record box { marked = true }) (record box { messages = box.messages ++ out ∷ [] })) ≡ true → outbox_takes_updates limits box ≡ true
    by true e = absurd (true≢false (sym e))
    by false e =
        let after : Waiting = record box { messages = box.messages ++ out ∷ [] } in
        let both = and_parts (not box.marked && ltb (length after.messages) UPDATE_LIMIT) (ltb (waiting_bytes after) limits.update_bytes) e in
        let parts = and_parts (not box.marked) (ltb (length after.messages) UPDATE_LIMIT) both.0 in
        let fewer = ltb-true (length after.messages) UPDATE_LIMIT parts.1 in
        let longer = length-append box.messages (out ∷ []) in
        let less = ltb-true (waiting_bytes after) limits.update_bytes both.1 in
        let more = more_bytes box out in
        and_from (not box.marked && ltb (length box.messages) UPDATE_LIMIT) (ltb (waiting_bytes box) limits.update_bytes)
        (and_from (not box.marked) (ltb (length box.messages) UPDATE_LIMIT) parts.0 (lt-ltb (length box.messages) UPDATE_LIMIT (omega arith)))
        (lt-ltb (waiting_bytes box) limits.update_bytes (omega (arith, less, more)))

-- an outbox that takes updates once a message was given to some took them before
taking_before : (limits : Limits) (number : ℕ) (dest : Dest) (most : ℕ) (out : Out) (rows : List Connection) → takes limits (change_first (is_to dest) (given most out) rows) number ≡ true → takes limits rows number ≡ true
taking_before limits number dest most out [] e = e
taking_before limits number dest most out (row ∷ rows) e = by (is_to dest row) (is_to (ToSession number) row) refl refl e (λ rest. taking_before limits number dest most out rows rest)
  where
    by : (here sought : Bool) → is_to dest row ≡ here → is_to (ToSession number) row ≡ sought
        → takes limits (cond here (given most out row ∷ rows) (row ∷ change_first (is_to dest) (given most out) rows)) number ≡ true
        → (takes limits (change_first (is_to dest) (given most out) rows) number ≡ true → takes limits rows number ≡ true)
        → outbox_takes_updates limits (outbox_in (cond sought (Some row) (find (is_to (ToSession number)) rows))) ≡ true
    by true true is is_sought e rest =
        box_taking limits most row.outbox out (ap (λ (t : Bool). outbox_takes_updates limits (outbox_in (cond t (Some (given most out row)) (find (is_to (ToSession number)) rows)))) (sym is_sought) ∙ e)
    by true false is is_sought e rest =
        ap (λ (t : Bool). outbox_takes_updates limits (outbox_in (cond t (Some (given most out row)) (find (is_to (ToSession number)) rows)))) (sym is_sought) ∙ e
    by false true is is_sought e rest =
        ap (λ (t : Bool). outbox_takes_updates limits (outbox_in (cond t (Some row) (find (is_to (ToSession number)) (change_first (is_to dest) (given most out) rows))))) (sym is_sought) ∙ e
    by false false is is_sought e rest =
        rest (ap (λ (t : Bool). outbox_takes_updates limits (outbox_in (cond t (Some row) (find (is_to (ToSession number)) (change_first (is_to dest) (given most out) rows))))) (sym is_sought) ∙ e)

-- no session takes updates after that didn't before
abbrev HasNoMoreRoom : Limits → List Connection → List Connection → Type 0
HasNoMoreRoom limits before after = (number : ℕ) → takes limits after number ≡ true → takes limits before number ≡ true

no_more_room : (limits : Limits) (served : Served) (notice : UpdateNotice) → HasNoMoreRoom limits served.connections (left_by limits served notice).connections
no_more_room limits served notice number e = by (takes limits served.connections notice.session) e
  where
    anew : Served
    anew = record {
      connections = change_first (is_to (ToSession notice.session)) (given limits.messages (said notice)) served.connections;
      subs = change_first (is_sub notice.session notice.id) (with_owed false) served.subs;
    }

    by : (room : Bool) → takes limits (cond room anew served).connections number ≡ true → takes limits served.connections number ≡ true
    by true e = taking_before limits number (ToSession notice.session) limits.messages (said notice) served.connections e
    by false e = e

all_no_more_room : (limits : Limits) (notices : List UpdateNotice) (served : Served) → HasNoMoreRoom limits served.connections (fold (left_by limits) served notices).connections
all_no_more_room limits [] served number e = e
all_no_more_room limits (notice ∷ notices) served number e = no_more_room limits served notice number (all_no_more_room limits notices (left_by limits served notice) number e)

-- ---- the notice on a subscription

-- what an update says where one is owed and its session takes updates
abbrev said_on : Gateway → ClientSub → Option UpdateNotice
said_on w sub = update_on w sub (channel_of w sub.session sub.sid)

-- the notice on a subscription, by the outboxes that are looked at
abbrev notice_in : Gateway → List Connection → ClientSub → Option UpdateNotice
notice_in w connections sub = cond (sub.owed && (not (is_paused w sub.session) && takes w.limits connections sub.session)) (said_on w sub) None

-- a notice is for the subscription that it was made for
record IsNoticeOn (w : Gateway) (sub : ClientSub) (notice : UpdateNotice) : Type 0 where
  session : notice.session ≡ sub.session
  id : notice.id ≡ sub.id
  readable : is_unreadable w (channel_of w sub.session sub.sid) ≡ false

update_by-on : (sub : ClientSub) (given : Option Given) (notice : UpdateNotice) → update_by sub given ≡ Some notice → (notice.session ≡ sub.session) × (notice.id ≡ sub.id)
update_by-on sub None notice e = absurd cc
update_by-on sub (Some given) notice e =
    let same : record { session = sub.session; id = sub.id; dtype = sub.dtype; count = given.count; payload = given.payload } ≡ notice = cc in
    (sym (ap (λ (n : UpdateNotice). n.session) same), sym (ap (λ (n : UpdateNotice). n.id) same))

update_over-on : (w : Gateway) (sub : ClientSub) (over : Option ConnectedVariable) (notice : UpdateNotice) → update_over w sub over ≡ Some notice → (notice.session ≡ sub.session) × (notice.id ≡ sub.id)
update_over-on w sub None notice e = absurd cc
update_over-on w sub (Some v) notice e = update_by-on sub (cached_value w v.link.cid v.native.count sub.dtype sub.count) notice e

said_on-on : (w : Gateway) (sub : ClientSub) (notice : UpdateNotice) → said_on w sub ≡ Some notice → IsNoticeOn w sub notice
said_on-on w sub notice e = by (channel_of w sub.session sub.sid) refl e
  where
    readably : (c : Channel) (may : Bool) → channel_of w sub.session sub.sid ≡ Some c → may_read (rights_of w c) ≡ may
        → cond may (update_over w sub (connected w c.real)) None ≡ Some notice → IsNoticeOn w sub notice
    readably c true is may e =
        let keys = update_over-on w sub (connected w c.real) notice e in
        record { session = keys.0; id = keys.1; readable = ap (is_unreadable w) is ∙ ap not may }
    readably c false is may e = absurd cc

    by : (found : Option Channel) → channel_of w sub.session sub.sid ≡ found → update_on w sub found ≡ Some notice → IsNoticeOn w sub notice
    by None is e = absurd cc
    by (Some c) is e = readably c (may_read (rights_of w c)) is refl e

notice_in-on : (w : Gateway) (connections : List Connection) (sub : ClientSub) (notice : UpdateNotice) → notice_in w connections sub ≡ Some notice → IsNoticeOn w sub notice
notice_in-on w connections sub notice e = by (sub.owed && (not (is_paused w sub.session) && takes w.limits connections sub.session)) e
  where
    by : (room : Bool) → cond room (said_on w sub) None ≡ Some notice → IsNoticeOn w sub notice
    by true e = said_on-on w sub notice e
    by false e = absurd cc

-- with no more room there is no notice where there was none
still_none : (w : Gateway) (before after : List Connection) (sub : ClientSub) → HasNoMoreRoom w.limits before after → notice_in w before sub ≡ None → notice_in w after sub ≡ None
still_none w before after sub less none = by sub.owed (not (is_paused w sub.session)) (takes w.limits before sub.session) (takes w.limits after sub.session) (less sub.session) none
  where
    by : (owed active first second : Bool) → (second ≡ true → first ≡ true) → cond (owed && (active && first)) (said_on w sub) None ≡ None → cond (owed && (active && second)) (said_on w sub) None ≡ None
    by false active first second less none = refl
    by true false first second less none = refl
    by true true true true less none = none
    by true true true false less none = refl
    by true true false true less none = absurd (true≢false (sym (less refl)))
    by true true false false less none = refl

-- nor where its session takes none
none_without_room : (w : Gateway) (connections : List Connection) (sub : ClientSub) → takes w.limits connections sub.session ≡ false → notice_in w connections sub ≡ None
none_without_room w connections sub full = by sub.owed (not (is_paused w sub.session)) (takes w.limits connections sub.session) full
  where
    by : (owed active room : Bool) → room ≡ false → cond (owed && (active && room)) (said_on w sub) None ≡ None
    by false active room full = refl
    by true false room full = refl
    by true true true full = absurd (true≢false full)
    by true true false full = refl

-- ---- the pass

-- notices on others leave a subscription as it is
abbrev in_front : ClientSub → Served → Served
in_front sub served = record { connections = served.connections; subs = sub ∷ served.subs }

kept_by_others : (w : Gateway) (before : List Connection) (quiet : ClientSub) (rows : List ClientSub) (served : Served) → list_any (is_sub quiet.session quiet.id) rows ≡ false
    → fold (left_by w.limits) (in_front quiet served) (filter_map (notice_in w before) rows) ≡ in_front quiet (fold (left_by w.limits) served (filter_map (notice_in w before) rows))
kept_by_others w before quiet [] served apart = refl
kept_by_others w before quiet (row ∷ rows) served apart =
    by (is_sub quiet.session quiet.id row) (notice_in w before row) refl refl apart (λ left rest. kept_by_others w before quiet rows left rest)
  where
    passed : (notice : UpdateNotice) → is_sub notice.session notice.id quiet ≡ false → left_by w.limits (in_front quiet served) notice ≡ in_front quiet (left_by w.limits served notice)
    passed notice other =
        elim (takes w.limits served.connections notice.session) as (λ t. cond t (record {
          connections = change_first (is_to (ToSession notice.session)) (given w.limits.messages (said notice)) served.connections;
          subs = cond (is_sub notice.session notice.id quiet) (with_owed false quiet ∷ served.subs) (quiet ∷ change_first (is_sub notice.session notice.id) (with_owed false) served.subs);
        }) (in_front quiet served) ≡ in_front quiet (cond t (record {
          connections = change_first (is_to (ToSession notice.session)) (given w.limits.messages (said notice)) served.connections;
          subs = change_first (is_sub notice.session notice.id) (with_owed false) served.subs;
        }) served))
        [ true ↦ rw other refl | false ↦ refl ]

    by : (same : Bool) (notice : Option UpdateNotice) → is_sub quiet.session quiet.id row ≡ same → notice_in w before row ≡ notice
        → (same || list_any (is_sub quiet.session quiet.id) rows) ≡ false
        → ((left : Served) → list_any (is_sub quiet.session quiet.id) rows ≡ false
        → fold (left_by w.limits) (in_front quiet left) (filter_map (notice_in w before) rows) ≡ in_front quiet (fold (left_by w.limits) left (filter_map (notice_in w before) rows)))
        → fold (left_by w.limits) (in_front quiet served) (cons_option notice (filter_map (notice_in w before) rows)) ≡ in_front quiet (fold (left_by w.limits) served (cons_option notice (filter_map (notice_in w before) rows)))
    by true notice is is_notice apart on = absurd (true≢false apart)
    by false None is is_notice apart on = on served apart
    by false (Some notice) is is_notice apart on =
        let made = notice_in-on w before row notice is_notice in
        let other : is_sub notice.session notice.id quiet ≡ false = (λ i. is_sub (made.session i) (made.id i) quiet) ∙ other_key quiet row is in
        ap (λ (left : Served). fold (left_by w.limits) left (filter_map (notice_in w before) rows)) (passed notice other) ∙ on (left_by w.limits served notice) apart

-- none of these subscriptions is owed a notice, and no update is newly withheld
record IsQuiet (w : Gateway) (served : Served) : Type 0 where
  updates : filter_map (notice_in w served.connections) served.subs ≡ []
  held_back : filter (is_withheld w) served.subs ≡ []

quiet_in_front : (w : Gateway) (sub : ClientSub) (served : Served) → notice_in w served.connections sub ≡ None → is_withheld w sub ≡ false → IsQuiet w served → IsQuiet w (in_front sub served)
quiet_in_front w sub served none not_held quiet = record { updates = rw none quiet.updates; held_back = rw not_held quiet.held_back }

abbrev with_rows : List ClientSub → List Connection → Served
with_rows rows connections = record { connections = connections; subs = rows }

-- once all notices on updates are given, none is due, and none is newly withheld
quiet_updates : (w : Gateway) (before : List Connection) (rows : List ClientSub) (connections : List Connection) → AreApart rows → HasNoMoreRoom w.limits before connections
    → filter (is_withheld w) rows ≡ [] → IsQuiet w (fold (left_by w.limits) (with_rows rows connections) (filter_map (notice_in w before) rows))
quiet_updates w before [] connections apart less none = record { updates = refl; held_back = refl }
quiet_updates w before (row ∷ rows) connections apart less none =
    by (notice_in w before row) (is_withheld w row) refl refl none (λ left fewer rest. quiet_updates w before rows left apart.1 fewer rest)
  where
    end : List Connection → Served
    end left = fold (left_by w.limits) (with_rows rows left) (filter_map (notice_in w before) rows)

    -- where no notice on the row is given, it is as it was
    unchanged : notice_in w (end connections).connections row ≡ None → is_withheld w row ≡ false → IsQuiet w (end connections)
        → IsQuiet w (fold (left_by w.limits) (in_front row (with_rows rows connections)) (filter_map (notice_in w before) rows))
    unchanged no_notice not_held rest =
        subst (IsQuiet w) (sym (kept_by_others w before row rows (with_rows rows connections) apart.0)) (quiet_in_front w row (end connections) no_notice not_held rest)

    full_after : takes w.limits connections row.session ≡ false → takes w.limits (end connections).connections row.session ≡ false
    full_after full = at (takes w.limits (end connections).connections row.session) refl
      where
        at : (room : Bool) → takes w.limits (end connections).connections row.session ≡ room → room ≡ false
        at false is = refl
        at true is =
            absurd (true≢false (sym (all_no_more_room w.limits (filter_map (notice_in w before) rows) (with_rows rows connections) row.session is) ∙ full))

    noticed : (notice : UpdateNotice) (room : Bool) → IsNoticeOn w row notice → is_withheld w row ≡ false → takes w.limits connections notice.session ≡ room
        → ((left : List Connection) → HasNoMoreRoom w.limits before left → IsQuiet w (end left))
        → IsQuiet w (fold (left_by w.limits) (left_by w.limits (in_front row (with_rows rows connections)) notice) (filter_map (notice_in w before) rows))
    noticed notice false made not_held is on =
        let step : left_by w.limits (in_front row (with_rows rows connections)) notice ≡ in_front row (with_rows rows connections) = rw is refl in
        let full : takes w.limits connections row.session ≡ false = ap (takes w.limits connections) (sym made.session) ∙ is in
        subst (λ (left : Served). IsQuiet w (fold (left_by w.limits) left (filter_map (notice_in w before) rows))) (sym step)
        (unchanged (none_without_room w (end connections).connections row (full_after full)) not_held (on connections less))
    noticed notice true made not_held is on =
        let left : List Connection = change_first (is_to (ToSession notice.session)) (given w.limits.messages (said notice)) connections in
        let here : is_sub notice.session notice.id row ≡ true = (λ i. is_sub (made.session i) (made.id i) row) ∙ itself row in
        let step : left_by w.limits (in_front row (with_rows rows connections)) notice ≡ in_front (with_owed false row) (with_rows rows left) = rw (is, here) refl in
        let fewer : HasNoMoreRoom w.limits before left = λ number e. less number (taking_before w.limits number (ToSession notice.session) w.limits.messages (said notice) connections e) in
        subst (λ (front : Served). IsQuiet w (fold (left_by w.limits) front (filter_map (notice_in w before) rows))) (sym step)
        (subst (IsQuiet w) (sym (kept_by_others w before (with_owed false row) rows (with_rows rows left) apart.0))
        (quiet_in_front w (with_owed false row) (end left) refl made.readable (on left fewer)))

    by : (notice : Option UpdateNotice) (held : Bool) → notice_in w before row ≡ notice → is_withheld w row ≡ held
        → cond held (row ∷ filter (is_withheld w) rows) (filter (is_withheld w) rows) ≡ []
        → ((left : List Connection) → HasNoMoreRoom w.limits before left → filter (is_withheld w) rows ≡ [] → IsQuiet w (end left))
        → IsQuiet w (fold (left_by w.limits) (in_front row (with_rows rows connections)) (cons_option notice (filter_map (notice_in w before) rows)))
    by notice true is is_held none on = absurd cc
    by None false is is_held none on =
        unchanged (still_none w before (end connections).connections row
        (λ number e. less number (all_no_more_room w.limits (filter_map (notice_in w before) rows) (with_rows rows connections) number e)) is) is_held (on connections less none)
    by (Some notice) false is is_held none on =
        noticed notice (takes w.limits connections notice.session) (notice_in-on w before row notice is) is_held refl (λ left fewer. on left fewer none)

-- what the pass leaves
abbrev end_of : Gateway → Served
end_of w = fold (left_by w.limits) (served_in w) (update_notices w)

updates_changed : (w : Gateway) → updates_told w ≡ with_served w (end_of w)
updates_changed w = all_served (update_notices w) w (served_in w)

quiet_end : (w : Gateway) → AreApart w.clients.subs → withheld w ≡ [] → IsQuiet w (end_of w)
unfolding update_notice
quiet_end w apart none = quiet_updates w w.connections w.clients.subs w.connections apart (λ number e. e) none

-- after the pass no update is due
pub updates_settled : (w : Gateway) → AreApart w.clients.subs → withheld w ≡ [] → update_notices (updates_told w) ≡ []
unfolding update_notice
updates_settled w apart none = ap update_notices (updates_changed w) ∙ (quiet_end w apart none).updates

-- nor is one newly withheld
pub updates_keep_withheld : (w : Gateway) → AreApart w.clients.subs → withheld w ≡ [] → withheld (updates_told w) ≡ []
unfolding update_notice
updates_keep_withheld w apart none = ap withheld (updates_changed w) ∙ (quiet_end w apart none).held_back

-- the pass leaves what is owed to channels and on reads
pub updates_keep_channels : (w : Gateway) → channel_notices (updates_told w) ≡ channel_notices w
updates_keep_channels w = ap channel_notices (updates_changed w)

pub updates_keep_reads : (w : Gateway) → read_notices (updates_told w) ≡ read_notices w
updates_keep_reads w = ap read_notices (updates_changed w)

-- ---- what servers are owed doesn't depend on what subscriptions are owed

pub asks_whatever_owed : (w : Gateway) (name : List ℕ) (rows : List ClientSub)
    → map own_ask (filter (is_subscriber w name) rows) ≡ map own_ask (filter (is_subscriber w name) (map (with_owed true) rows))
asks_whatever_owed w name [] = refl
asks_whatever_owed w name (row ∷ rows) =
    let rest = asks_whatever_owed w name rows in
    elim (is_subscriber w name row) as (λ t. map own_ask (cond t (row ∷ filter (is_subscriber w name) rows) (filter (is_subscriber w name) rows))
    ≡ map own_ask (cond t (with_owed true row ∷ filter (is_subscriber w name) (map (with_owed true) rows)) (filter (is_subscriber w name) (map (with_owed true) rows))))
    [ true ↦ ap (λ (asks : List Ask). own_ask row ∷ asks) rest | false ↦ rest ]

alike_but_owed : (session id : ℕ) (owed : Bool) (rows : List ClientSub) → map (with_owed true) (change_first (is_sub session id) (with_owed owed) rows) ≡ map (with_owed true) rows
alike_but_owed session id owed [] = refl
alike_but_owed session id owed (row ∷ rows) =
    elim (is_sub session id row) as (λ t. map (with_owed true) (cond t (with_owed owed row ∷ rows) (row ∷ change_first (is_sub session id) (with_owed owed) rows)) ≡ with_owed true row ∷ map (with_owed true) rows)
    [ true ↦ refl | false ↦ ap (λ (rest : List ClientSub). with_owed true row ∷ rest) (alike_but_owed session id owed rows) ]

all_alike : (limits : Limits) (notices : List UpdateNotice) (served : Served) → map (with_owed true) (fold (left_by limits) served notices).subs ≡ map (with_owed true) served.subs
all_alike limits [] served = refl
all_alike limits (notice ∷ notices) served = all_alike limits notices (left_by limits served notice) ∙ by (takes limits served.connections notice.session)
  where
    by : (room : Bool) → map (with_owed true) (cond room (record {
      connections = change_first (is_to (ToSession notice.session)) (given limits.messages (said notice)) served.connections;
      subs = change_first (is_sub notice.session notice.id) (with_owed false) served.subs;
    }) served).subs ≡ map (with_owed true) served.subs
    by true = alike_but_owed notice.session notice.id false served.subs
    by false = refl

readers_kept : (w : Gateway) (name : List ℕ) → readers (with_served w (end_of w)) name ≡ readers w name
readers_kept w name =
    let subs : List ClientSub = (end_of w).subs in
    let same : map (with_owed true) subs ≡ map (with_owed true) w.clients.subs = all_alike w.limits (update_notices w) (served_in w) in
    let asks : map own_ask (filter (is_subscriber w name) subs) ≡ map own_ask (filter (is_subscriber w name) w.clients.subs) =
    asks_whatever_owed w name subs ∙ ap (λ (rows : List ClientSub). map own_ask (filter (is_subscriber w name) rows)) same ∙ sym (asks_whatever_owed w name w.clients.subs) in
    ap (λ (first : List Ask). first ++ map reader_ask (filter (is_reader w name) w.clients.channels)) asks

pub updates_keep_links : (w : Gateway) → link_notices (updates_told w) ≡ link_notices w
updates_keep_links w =
    ap link_notices (updates_changed w) ∙ (λ i. flat_map (λ link. link_notices_alike (with_served w (end_of w)) w (readers_kept w) (λ server. refl) (λ name. refl) link i) w.upstream.links)
