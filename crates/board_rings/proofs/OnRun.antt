-- Each call of a board goes on with its history.
use Rattle.std.proofs.Common.{◌≡◌, ℕ, ◌≤◌, List, [], ◌∷◌, ◌++◌, Bool, true, false, cond, not, ◌&&◌, ◌||◌, min, Option, Some, None, IsSome, is_some, refl, sym, ap, subst, ◌∙◌, arith}
use Rattle.std.specs.Prelude.{if◌then◌else◌, nat_le, nat_lt}
use Rattle.std.specs.Option.{option_map, ForSome}
use Rattle.std.proofs.lemmas.Bool.{and_from, le-leb, lt-ltb}
use Rattle.std.proofs.lemmas.List.{append-nil}
use Rattle.std.proofs.Math.Nat.{min-le_left}
use Rattle.rows.specs.Rows.{change_first}
use Rattle.fanout.specs.declared.outbox.Out.{Out}
use Rattle.gateway_state.specs.Connections.{same_dest}
use Rattle.gateway_state.specs.Gateway.{Gateway, initial}
use Rattle.gateway_state.specs.Numbers.{is_past_numbers, runs_out}
use Rattle.gateway_state.specs.Step.{run, step, taken}
use Rattle.gateway_state.specs.declared.config.Config.{Config}
use Rattle.gateway_state.specs.declared.event.Dest.{Dest}
use Rattle.gateway_state.specs.declared.event.Event.{Event}
use Rattle.gateway_state.specs.declared.event.Event.TheVariants.{Drain}
use Rattle.rule_desk.specs.declared.policy.Policy.{Policy}
use Rattle.board_rings.proofs.AttachmentOrder.{changed_in_order, rest_in_order}
use Rattle.board_rings.specs.Attachments.{are_in_order, is_attached, is_attachment_of, is_not_attachment_of, attachment_of, new_attachment, with_free, with_received}
use Rattle.board_rings.specs.Rings.{AttachmentState, EndsState, Ring}
use Rattle.board_rings.specs.declared.inbound.Inbound.{Inbound}
use Rattle.board_rings.specs.Board.{BoardState}
use Rattle.board_rings.specs.Calls.{Attaches, DeskFails, Desks, PumpFails, Pumps, Retires, SendFails, Sends, uses_up, with_sent}
use Rattle.board_rings.specs.History.{IsAttachmentOf, IsOnRun, Refused, events_of, is_attached_in, item_event, pushed_by, pushed_in, received_by, received_in, refused_of}
use Rattle.board_rings.specs.declared.entry.TheConstants.{MOST_SENT}
use Rattle.board_rings.specs.declared.entry.Entry.{Entry}
use Rattle.board_rings.specs.declared.entry.Entry.TheVariants.{Pumped, Desked, Sent, Attached, Retired}
use Rattle.board_rings.proofs.Histories.{attached_more, may_follow_more, pushed_more, received_more, run_more, run_more_out}
use Rattle.board_rings.proofs.OfAttachments.{attached_after_change, attached_where_found, attachment_after_change, attachment_left, same_dest_is}

-- ROWS

-- rows that are a gateway's are, a step further, that gateway's a step further
rows_step : (event : Event) (v : Gateway) (old new : Option Gateway) → ForSome old (λ w. w ≡ v) → new ≡ option_map (λ w. step w event) old → ForSome new (λ w. w ≡ step v event)
rows_step event v None new is e = λ w h. absurd (let wrong : None ≡ Some w = sym e ∙ h in cc)
rows_step event v (Some u) new is e = λ w h. (let here : step u event ≡ w = cc in sym here ∙ ap (λ (x : Gateway). step x event) (is u refl))

-- a step of rows that are a gateway's that is in range is in range of that gateway
step_defined : (event : Event) (v : Gateway) (rows : Option Gateway) → ForSome rows (λ w. w ≡ v) → uses_up event rows ≡ Some false → is_past_numbers (step v event) ≡ false
step_defined event v None is e = absurd (let wrong : None ≡ Some false = e in cc)
step_defined event v (Some u) is e = (let here : is_past_numbers (step u event) ≡ false = cc in sym (ap (λ (x : Gateway). is_past_numbers (step x event)) (is u refl)) ∙ here)

or_none : {b : Bool} → b ≡ false → (b || false) ≡ false
or_none none = ap (λ (c : Bool). c || false) none

-- what was taken from rows that are a gateway's was taken from it
taken_from : (event : Event) (dest : Dest) (outs : List Out) (v : Gateway) (rows : Option Gateway)
    → ForSome rows (λ w. w ≡ v) → Some outs ≡ option_map (λ w. taken w event dest) rows → outs ≡ taken v event dest
taken_from event dest outs v None is e = absurd (let wrong : Some outs ≡ None = e in cc)
taken_from event dest outs v (Some w) is e =
    let here : outs ≡ taken w event dest = cc in here ∙ ap (λ (x : Gateway). taken x event dest) (is w refl)

-- from other connections a drain takes nothing
taken_of_other : (w : Gateway) (from dest : Dest) (count : ℕ) → same_dest from dest ≡ false → taken w (Drain from count) dest ≡ []
taken_of_other w from dest count other = rw other refl

-- where no rows are left, none stand
none_is_left : (rows : Option Gateway) {P : Type 0} → rows ≡ None → IsSome rows → P
none_is_left rows none stands = absurd (let wrong : false ≡ true = sym (ap is_some none) ∙ stands in cc)

-- and nothing is said of them
none_runs : (rows : Option Gateway) (P : Gateway → Type 0) → rows ≡ None → ForSome rows P
none_runs rows P none = λ w e. absurd (let wrong : None ≡ Some w = sym none ∙ e in cc)

-- no more are sent at once
most_sent : (found count : ℕ) → count ≤ min MOST_SENT found → count ≤ MOST_SENT
most_sent found count no_more = omega (arith, no_more, min-le_left MOST_SENT found)

-- REFUSED ITEMS

-- the refused item, where it isn't this connection's
abbrev refused_but : Option Refused → Dest → Option Refused
refused_but None dest = None
refused_but (Some refused) dest = if same_dest refused.dest dest then None else Some refused

-- it leaves nothing of that connection
refused_but_own : (refused : Option Refused) (at dest : Dest) → same_dest at dest ≡ true → refused_of (refused_but refused at) dest ≡ []
refused_but_own None at dest same = refl
refused_but_own (Some refused) at dest same = by (same_dest refused.dest at) refl
  where
    by : (is : Bool) → same_dest refused.dest at ≡ is → refused_of (cond is None (Some refused)) dest ≡ []
    by true here = refl
    by false other =
        ap (λ (b : Bool). cond b (refused.item ∷ []) []) (ap (same_dest refused.dest) (sym (same_dest_is at dest same)) ∙ other)

-- and of another what there was
refused_but_other : (refused : Option Refused) (at dest : Dest) → same_dest at dest ≡ false → refused_of (refused_but refused at) dest ≡ refused_of refused dest
refused_but_other None at dest differs = refl
refused_but_other (Some refused) at dest differs = by (same_dest refused.dest at) refl
  where
    by : (is : Bool) → same_dest refused.dest at ≡ is → refused_of (cond is None (Some refused)) dest ≡ refused_of (Some refused) dest
    by true here =
        sym (ap (λ (b : Bool). cond b (refused.item ∷ []) []) (ap (λ (d : Dest). same_dest d dest) (same_dest_is refused.dest at here) ∙ differs))
    by false other = refl

-- CALLS

module _ (config : Config) (policy : Policy) (history : List Entry) where
  -- the gateway to which the history's events run
  abbrev reached : Gateway
  reached = run (initial config policy) (events_of history)

  -- a connection's attachment, once the history went on
  attachment_more : (entry : Entry) (refused : Option Refused) (dest : Dest) (attachment : AttachmentState)
      → attachment.ends.received ≡ received_by (received_in history dest) entry dest ++ refused_of refused dest
      → attachment.ends.pushed ≡ pushed_by (pushed_in (initial config policy) history dest) reached entry dest
      → IsAttachmentOf config policy (history ++ entry ∷ []) refused dest attachment
  attachment_more entry refused dest attachment received pushed = record {
    received = received ∙ ap (λ (items : List Inbound). items ++ refused_of refused dest) (sym (received_more [] history entry dest));
    pushed = pushed ∙ sym (pushed_more [] (initial config policy) history entry dest);
  }

  -- a connection's attachment on which the history goes on elsewhere
  attachment_stays : (entry : Entry) (refused more : Option Refused) (dest : Dest) (attachment : AttachmentState)
      → received_by (received_in history dest) entry dest ≡ received_in history dest
      → pushed_by (pushed_in (initial config policy) history dest) reached entry dest ≡ pushed_in (initial config policy) history dest
      → refused_of more dest ≡ refused_of refused dest
      → IsAttachmentOf config policy history refused dest attachment → IsAttachmentOf config policy (history ++ entry ∷ []) more dest attachment
  attachment_stays entry refused more dest attachment items messages rest was =
      attachment_more entry more dest attachment
      (was.received
      ∙ ap (λ (last : List Inbound). received_in history dest ++ last) (sym rest)
      ∙ ap (λ (all : List Inbound). all ++ refused_of more dest) (sym items))
      (was.pushed ∙ sym messages)

  module _ (old new : BoardState) (on_run : IsOnRun old config policy history) where
    attached_in_history : (dest : Dest) (is : Bool) → is_attached dest old.attachments ≡ is → is_attached_in history dest ≡ is
    attached_in_history dest is e = sym (on_run.attached dest) ∙ attached_where_found dest old.attachments ∙ e

    -- where rows stood, an attachment received what the history says
    received_alone : (dest : Dest) (attachment : AttachmentState) → IsSome old.rows → IsAttachmentOf config policy history on_run.refused dest attachment → attachment.ends.received ≡ received_in history dest
    received_alone dest attachment stands was =
        was.received ∙ ap (λ (refused : Option Refused). received_in history dest ++ refused_of refused dest) (on_run.none_refused stands)
        ∙ append-nil (received_in history dest)

    -- rows that go on by a step
    rows_more : (entry : Entry) (event : Event) → new.rows ≡ option_map (λ w. step w event) old.rows
        → run (initial config policy) (events_of (history ++ entry ∷ [])) ≡ step reached event
        → ForSome new.rows (λ w. w ≡ run (initial config policy) (events_of (history ++ entry ∷ [])))
    rows_more entry event e more = λ w h. rows_step event reached old.rows new.rows on_run.rows e w h ∙ sym more

    -- rows that stay
    rows_stay : (entry : Entry) → new.rows ≡ old.rows → run (initial config policy) (events_of (history ++ entry ∷ [])) ≡ reached
        → ForSome new.rows (λ w. w ≡ run (initial config policy) (events_of (history ++ entry ∷ [])))
    rows_stay entry e more = λ w h. on_run.rows w (sym e ∙ h) ∙ sym more

    -- where rows stay and none was refused while they stood, none is
    none_yet : (refused : Option Refused) → (on_run.refused ≡ None → refused ≡ None) → new.rows ≡ old.rows → IsSome new.rows → refused ≡ None
    none_yet refused so e stands = so (on_run.none_refused (sym (ap is_some e) ∙ stands))

    -- a step that used no number up
    defined_more : (entry : Entry) (event : Event) → uses_up event old.rows ≡ Some false
        → runs_out (initial config policy) (events_of (history ++ entry ∷ [])) ≡ (runs_out (initial config policy) (events_of history) || is_past_numbers (step reached event))
        → runs_out (initial config policy) (events_of (history ++ entry ∷ [])) ≡ false
    defined_more entry event in_range more =
        more ∙ ap (λ (b : Bool). b || is_past_numbers (step reached event)) on_run.defined ∙ step_defined event reached old.rows on_run.rows in_range

    -- One attachment changed, and no other.
    module _ (f : AttachmentState → AttachmentState) (keeps : (attachment : AttachmentState) → (f attachment).dest ≡ attachment.dest) (dest : Dest) (changed : new.attachments ≡ change_first (is_attachment_of dest) f old.attachments) where
      ordered_changed : are_in_order new.attachments ≡ true
      ordered_changed = ap are_in_order changed ∙ changed_in_order (is_attachment_of dest) f keeps old.attachments ∙ on_run.ordered

      attached_changed : (at : Dest) → is_some (attachment_of at new.attachments) ≡ is_attached_in history at
      attached_changed at =
          ap (λ (attachments : List AttachmentState). is_some (attachment_of at attachments)) changed ∙ attached_after_change f keeps dest at old.attachments ∙ on_run.attached at

      attachments_changed : (after : List Entry) (refused : Option Refused)
          → ((at : Dest) → same_dest dest at ≡ true → (attachment : AttachmentState) → IsAttachmentOf config policy history on_run.refused at attachment → IsAttachmentOf config policy after refused at (f attachment))
          → ((at : Dest) → same_dest dest at ≡ false → (attachment : AttachmentState) → IsAttachmentOf config policy history on_run.refused at attachment → IsAttachmentOf config policy after refused at attachment)
          → (at : Dest) → ForSome (attachment_of at new.attachments) (IsAttachmentOf config policy after refused at)
      attachments_changed after refused own other at =
          subst (λ (attachments : List AttachmentState). ForSome (attachment_of at attachments) (IsAttachmentOf config policy after refused at)) (sym changed)
          (attachment_after_change f keeps (IsAttachmentOf config policy history on_run.refused at) (IsAttachmentOf config policy after refused at) dest at old.attachments (on_run.attachments at) (own at) (other at))

    pub pumped : (dest : Dest) (item : Inbound) → Pumps dest item old new → IsOnRun new config policy (history ++ Pumped dest item ∷ [])
    pumped dest item pumps = record {
      defined = defined_more (Pumped dest item) (item_event dest item) pumps.in_range (run_more_out (initial config policy) history (Pumped dest item));
      ordered = ordered_changed (with_received item pumps.seen) (λ _. refl) dest pumps.attachments;
      entries = may_follow_more [] history (Pumped dest item) on_run.entries (attached_in_history dest true pumps.attached);
      rows = rows_more (Pumped dest item) (item_event dest item) pumps.rows (run_more (initial config policy) history (Pumped dest item));
      refused = None;
      none_refused = λ _. refl;
      attached = λ at. attached_changed (with_received item pumps.seen) (λ _. refl) dest pumps.attachments at ∙ sym (attached_more false history (Pumped dest item) at);
      attachments = attachments_changed (with_received item pumps.seen) (λ _. refl) dest pumps.attachments (history ++ Pumped dest item ∷ []) None own other;
    }
      where
        own : (at : Dest) → same_dest dest at ≡ true → (attachment : AttachmentState) → IsAttachmentOf config policy history on_run.refused at attachment
            → IsAttachmentOf config policy (history ++ Pumped dest item ∷ []) None at (with_received item pumps.seen attachment)
        own at same attachment was =
            attachment_more (Pumped dest item) None at (with_received item pumps.seen attachment)
            (ap (λ (items : List Inbound). items ++ item ∷ []) (received_alone at attachment pumps.stands was)
            ∙ sym (append-nil (received_in history at ++ item ∷ []))
            ∙ ap (λ (b : Bool). cond b (received_in history at ++ item ∷ []) (received_in history at) ++ []) (sym same)) was.pushed

        other : (at : Dest) → same_dest dest at ≡ false → (attachment : AttachmentState) → IsAttachmentOf config policy history on_run.refused at attachment
            → IsAttachmentOf config policy (history ++ Pumped dest item ∷ []) None at attachment
        other at differs attachment was =
            attachment_stays (Pumped dest item) on_run.refused None at attachment
            (ap (λ (b : Bool). cond b (received_in history at ++ item ∷ []) (received_in history at)) differs) refl
            (sym (ap (λ (refused : Option Refused). refused_of refused at) (on_run.none_refused pumps.stands))) was

    pub pump_failed : (dest : Dest) (item : Inbound) → PumpFails dest item old new → IsOnRun new config policy history
    pump_failed dest item pumps = record {
      entries = on_run.entries;
      defined = on_run.defined;
      ordered = ordered_changed (with_received item pumps.seen) (λ _. refl) dest pumps.attachments;
      rows = none_runs new.rows (λ w. w ≡ reached) pumps.rows;
      refused = Some (record { dest = dest; item = item });
      none_refused = none_is_left new.rows pumps.rows;
      attached = attached_changed (with_received item pumps.seen) (λ _. refl) dest pumps.attachments;
      attachments = attachments_changed (with_received item pumps.seen) (λ _. refl) dest pumps.attachments history (Some (record { dest = dest; item = item })) own other;
    }
      where
        own : (at : Dest) → same_dest dest at ≡ true → (attachment : AttachmentState) → IsAttachmentOf config policy history on_run.refused at attachment
            → IsAttachmentOf config policy history (Some (record { dest = dest; item = item })) at (with_received item pumps.seen attachment)
        own at same attachment was = record {
          received =
              ap (λ (items : List Inbound). items ++ item ∷ []) (received_alone at attachment pumps.stands was)
              ∙ ap (λ (b : Bool). received_in history at ++ cond b (item ∷ []) []) (sym same);
          pushed = was.pushed;
        }

        other : (at : Dest) → same_dest dest at ≡ false → (attachment : AttachmentState) → IsAttachmentOf config policy history on_run.refused at attachment
            → IsAttachmentOf config policy history (Some (record { dest = dest; item = item })) at attachment
        other at differs attachment was = record {
          received =
              received_alone at attachment pumps.stands was
              ∙ sym (append-nil (received_in history at))
              ∙ ap (λ (b : Bool). received_in history at ++ cond b (item ∷ []) []) (sym differs);
          pushed = was.pushed;
        }

    pub desked : (event : Event) → Desks event old new → IsOnRun new config policy (history ++ Desked event ∷ [])
    desked event desks = record {
      defined = defined_more (Desked event) event desks.in_range (run_more_out (initial config policy) history (Desked event));
      ordered = ap are_in_order desks.attachments ∙ on_run.ordered;
      entries = may_follow_more [] history (Desked event) on_run.entries desks.here;
      rows = rows_more (Desked event) event desks.rows (run_more (initial config policy) history (Desked event));
      refused = on_run.refused;
      none_refused = λ _. on_run.none_refused desks.stands;
      attached = λ at.
          ap (λ (attachments : List AttachmentState). is_some (attachment_of at attachments)) desks.attachments ∙ on_run.attached at ∙ sym (attached_more false history (Desked event) at);
      attachments = λ at attachment found.
          attachment_stays (Desked event) on_run.refused on_run.refused at attachment refl refl refl
          (on_run.attachments at attachment (sym (ap (λ (attachments : List AttachmentState). attachment_of at attachments) desks.attachments) ∙ found));
    }

    pub desk_failed : DeskFails old new → IsOnRun new config policy history
    desk_failed desks = record {
      entries = on_run.entries;
      defined = on_run.defined;
      ordered = ap are_in_order desks.attachments ∙ on_run.ordered;
      rows = none_runs new.rows (λ w. w ≡ reached) desks.rows;
      refused = on_run.refused;
      none_refused = none_is_left new.rows desks.rows;
      attached = λ at. ap (λ (attachments : List AttachmentState). is_some (attachment_of at attachments)) desks.attachments ∙ on_run.attached at;
      attachments = λ at attachment found. on_run.attachments at attachment (sym (ap (λ (attachments : List AttachmentState). attachment_of at attachments) desks.attachments) ∙ found);
    }

    pub sent : (dest : Dest) (found count : ℕ) (outs : List Out) → Sends dest found count outs old new → IsOnRun new config policy (history ++ Sent dest count ∷ [])
    sent dest found count outs sends = record {
      defined = defined_more (Sent dest count) (Drain dest count) sends.in_range (run_more_out (initial config policy) history (Sent dest count));
      ordered = ordered_changed (with_sent found outs) (λ _. refl) dest sends.attachments;
      entries =
          may_follow_more [] history (Sent dest count) on_run.entries
          (and_from (is_attached_in history dest) (nat_lt 0 count && nat_le count MOST_SENT) (attached_in_history dest true sends.attached)
          (and_from (nat_lt 0 count) (nat_le count MOST_SENT)
          (lt-ltb 0 count sends.some_asked) (le-leb count MOST_SENT (most_sent found count sends.no_more))));
      rows = rows_more (Sent dest count) (Drain dest count) sends.rows (run_more (initial config policy) history (Sent dest count));
      refused = on_run.refused;
      none_refused = λ _. on_run.none_refused sends.stands;
      attached = λ at. attached_changed (with_sent found outs) (λ _. refl) dest sends.attachments at ∙ sym (attached_more false history (Sent dest count) at);
      attachments = attachments_changed (with_sent found outs) (λ _. refl) dest sends.attachments (history ++ Sent dest count ∷ []) on_run.refused own other;
    }
      where
        own : (at : Dest) → same_dest dest at ≡ true → (attachment : AttachmentState) → IsAttachmentOf config policy history on_run.refused at attachment
            → IsAttachmentOf config policy (history ++ Sent dest count ∷ []) on_run.refused at (with_sent found outs attachment)
        own at same attachment was =
            attachment_more (Sent dest count) on_run.refused at (with_sent found outs attachment) was.received
            (ap (λ (messages : List Out). messages ++ outs) was.pushed
            ∙ ap (λ (messages : List Out). pushed_in (initial config policy) history at ++ messages) (taken_from (Drain dest count) dest outs reached old.rows on_run.rows sends.taken)
            ∙ ap (λ (d : Dest). pushed_in (initial config policy) history at ++ taken reached (Drain dest count) d) (same_dest_is dest at same))

        other : (at : Dest) → same_dest dest at ≡ false → (attachment : AttachmentState) → IsAttachmentOf config policy history on_run.refused at attachment
            → IsAttachmentOf config policy (history ++ Sent dest count ∷ []) on_run.refused at attachment
        other at differs attachment was =
            attachment_stays (Sent dest count) on_run.refused on_run.refused at attachment refl
            (ap (λ (messages : List Out). pushed_in (initial config policy) history at ++ messages) (taken_of_other reached dest at count differs)
            ∙ append-nil (pushed_in (initial config policy) history at))
            refl was

    pub send_failed : (dest : Dest) (found : ℕ) → SendFails dest found old new → IsOnRun new config policy history
    send_failed dest found sends = record {
      entries = on_run.entries;
      defined = on_run.defined;
      ordered = ordered_changed (with_free found) (λ _. refl) dest sends.attachments;
      rows = none_runs new.rows (λ w. w ≡ reached) sends.rows;
      refused = on_run.refused;
      none_refused = none_is_left new.rows sends.rows;
      attached = attached_changed (with_free found) (λ _. refl) dest sends.attachments;
      attachments = attachments_changed (with_free found) (λ _. refl) dest sends.attachments history on_run.refused
          (λ at same attachment was. record { received = was.received; pushed = was.pushed }) (λ at differs attachment was. was);
    }

    -- what is kept with an attachment beside what went through its rings is no history
    pub beside : (f : AttachmentState → AttachmentState) → ((attachment : AttachmentState) → (f attachment).dest ≡ attachment.dest) → ((attachment : AttachmentState) → (f attachment).ends ≡ attachment.ends)
        → (dest : Dest) → new.rows ≡ old.rows → new.attachments ≡ change_first (is_attachment_of dest) f old.attachments → IsOnRun new config policy history
    beside f keeps ends dest rows attachments = record {
      entries = on_run.entries;
      defined = on_run.defined;
      ordered = ordered_changed f keeps dest attachments;
      rows = λ w h. on_run.rows w (sym rows ∙ h);
      refused = on_run.refused;
      none_refused = none_yet on_run.refused (λ none. none) rows;
      attached = attached_changed f keeps dest attachments;
      attachments = attachments_changed f keeps dest attachments history on_run.refused
          (λ at same attachment was. record {
            received = ap (λ (e : EndsState). e.received) (ends attachment) ∙ was.received;
            pushed = ap (λ (e : EndsState). e.pushed) (ends attachment) ∙ was.pushed;
          }) (λ at differs attachment was. was);
    }

    pub looked : (dest : Dest) (found : ℕ) → new.rows ≡ old.rows → new.attachments ≡ change_first (is_attachment_of dest) (with_free found) old.attachments → IsOnRun new config policy history
    looked dest found rows attachments = beside (with_free found) (λ _. refl) (λ _. refl) dest rows attachments

    pub attached : (dest : Dest) (in_ring out_ring : Ring) (free : ℕ) → Attaches dest in_ring out_ring free old new → IsOnRun new config policy (history ++ Attached dest ∷ [])
    attached dest in_ring out_ring free attaches = record {
      defined = run_more_out (initial config policy) history (Attached dest) ∙ or_none on_run.defined;
      ordered = attaches.attachments.ordered;
      entries = may_follow_more [] history (Attached dest) on_run.entries (ap not (attached_in_history dest false attaches.apart));
      rows = rows_stay (Attached dest) attaches.rows (run_more (initial config policy) history (Attached dest));
      refused = refused_but on_run.refused dest;
      none_refused = none_yet (refused_but on_run.refused dest) (ap (λ (refused : Option Refused). refused_but refused dest)) attaches.rows;
      attached = λ at. ap is_some (attaches.attachments.found at) ∙ there at (same_dest dest at) refl ∙ sym (attached_more false history (Attached dest) at);
      attachments = λ at attachment found. by at attachment (same_dest dest at) refl (sym (attaches.attachments.found at) ∙ found);
    }
      where
        there : (at : Dest) (same : Bool) → same_dest dest at ≡ same
            → is_some (cond same (Some (new_attachment dest in_ring out_ring free)) (attachment_of at old.attachments)) ≡ cond same true (is_attached_in history at)
        there at true same = refl
        there at false differs = on_run.attached at

        by : (at : Dest) (attachment : AttachmentState) (same : Bool) → same_dest dest at ≡ same
            → cond same (Some (new_attachment dest in_ring out_ring free)) (attachment_of at old.attachments) ≡ Some attachment
            → IsAttachmentOf config policy (history ++ Attached dest ∷ []) (refused_but on_run.refused dest) at attachment
        by at attachment true same found =
            let here : new_attachment dest in_ring out_ring free ≡ attachment = cc in
            subst (IsAttachmentOf config policy (history ++ Attached dest ∷ []) (refused_but on_run.refused dest) at) here
            (attachment_more (Attached dest) (refused_but on_run.refused dest) at (new_attachment dest in_ring out_ring free)
            (sym (refused_but_own on_run.refused dest at same) ∙ ap (λ (b : Bool). cond b [] (received_in history at) ++ refused_of (refused_but on_run.refused dest) at) (sym same))
            (ap (λ (b : Bool). cond b [] (pushed_in (initial config policy) history at)) (sym same)))
        by at attachment false differs found =
            attachment_stays (Attached dest) on_run.refused (refused_but on_run.refused dest) at attachment
            (ap (λ (b : Bool). cond b [] (received_in history at)) differs) (ap (λ (b : Bool). cond b [] (pushed_in (initial config policy) history at)) differs)
            (refused_but_other on_run.refused dest at differs) (on_run.attachments at attachment found)

    pub retired : (dest : Dest) → Retires dest old new → IsOnRun new config policy (history ++ Retired dest ∷ [])
    retired dest retires = record {
      defined = run_more_out (initial config policy) history (Retired dest) ∙ or_none on_run.defined;
      ordered = ap are_in_order retires.attachments ∙ rest_in_order (is_not_attachment_of dest) old.attachments on_run.ordered;
      entries = may_follow_more [] history (Retired dest) on_run.entries (attached_in_history dest true retires.attached);
      rows = rows_stay (Retired dest) retires.rows (run_more (initial config policy) history (Retired dest));
      refused = on_run.refused;
      none_refused = none_yet on_run.refused (λ none. none) retires.rows;
      attached = λ at. ap is_some (left at) ∙ there at (same_dest dest at) refl ∙ sym (attached_more false history (Retired dest) at);
      attachments = λ at attachment found. by at attachment (same_dest dest at) refl (sym (left at) ∙ found);
    }
      where
        left : (at : Dest) → attachment_of at new.attachments ≡ cond (same_dest dest at) None (attachment_of at old.attachments)
        left at = ap (λ (attachments : List AttachmentState). attachment_of at attachments) retires.attachments ∙ attachment_left dest at old.attachments

        there : (at : Dest) (same : Bool) → same_dest dest at ≡ same → is_some (cond same None (attachment_of at old.attachments)) ≡ cond same false (is_attached_in history at)
        there at true same = refl
        there at false differs = on_run.attached at

        by : (at : Dest) (attachment : AttachmentState) (same : Bool) → same_dest dest at ≡ same → cond same None (attachment_of at old.attachments) ≡ Some attachment
            → IsAttachmentOf config policy (history ++ Retired dest ∷ []) on_run.refused at attachment
        by at attachment true same found = absurd (let wrong : None ≡ Some attachment = found in cc)
        by at attachment false differs found = attachment_stays (Retired dest) on_run.refused on_run.refused at attachment refl refl refl (on_run.attachments at attachment found)

-- a board to which nothing happened yet
pub new_board : (config : Config) (policy : Policy) → let board : BoardState = record { rows = Some (initial config policy); attachments = [] } in IsOnRun board config policy []
unfolding run runs_out
new_board config policy = record {
  entries = refl;
  defined = refl;
  ordered = refl;
  rows = λ w e. (let here : initial config policy ≡ w = cc in sym here);
  refused = None;
  none_refused = λ _. refl;
  attached = λ _. refl;
  attachments = λ at attachment e. absurd (let wrong : None ≡ Some attachment = e in cc);
}
