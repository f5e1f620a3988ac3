-- Histories that go on by one entry.
use Rattle.std.proofs.Common.{◌≡◌, List, [], ◌∷◌, ◌++◌, Bool, true, false, ◌&&◌, ◌||◌, Option, Some, None, refl, sym, ap, ◌∙◌}
use Rattle.std.specs.Prelude.{if◌then◌else◌}
use Rattle.std.proofs.lemmas.Bool.{and_parts}
use Rattle.std.proofs.lemmas.List.{append-nil, append_assoc}
use Rattle.fanout.specs.declared.outbox.Out.{Out}
use Rattle.gateway_state.specs.Connections.{same_dest}
use Rattle.gateway_state.specs.Gateway.{Gateway}
use Rattle.gateway_state.specs.Numbers.{is_past_numbers, runs_out}
use Rattle.gateway_state.specs.Step.{run, step}
use Rattle.gateway_state.specs.declared.event.Dest.{Dest}
use Rattle.gateway_state.specs.declared.event.Event.{Event}
use Rattle.board_rings.specs.declared.inbound.Inbound.{Inbound}
use Rattle.board_rings.specs.History.{attached_after, entry_event, events_of, state_after, may_follow, may_follow_all, pushed_after, pushed_by, received_after, received_by, with_event}
use Rattle.board_rings.specs.declared.entry.Entry.{Entry}
use Rattle.board_rings.specs.declared.entry.Entry.TheVariants.{Pumped, Desked, Sent, Attached, Retired}

-- what an entry leaves of whether a connection is attached
abbrev pub attached_by : Bool → Entry → Dest → Bool
attached_by before (Attached at) dest = if same_dest at dest then true else before
attached_by before (Retired at) dest = if same_dest at dest then false else before
attached_by before entry dest = before

attached_at_first : (before : Bool) (entry : Entry) (rest : List Entry) (dest : Dest) → attached_after before (entry ∷ rest) dest ≡ attached_after (attached_by before entry dest) rest dest
attached_at_first before (Pumped at item) rest dest = refl
attached_at_first before (Desked event) rest dest = refl
attached_at_first before (Sent at count) rest dest = refl
attached_at_first before (Attached at) rest dest = refl
attached_at_first before (Retired at) rest dest = refl

-- whether a connection is attached goes on by the last entry
pub attached_more : (before : Bool) (history : List Entry) (entry : Entry) (dest : Dest) → attached_after before (history ++ entry ∷ []) dest ≡ attached_by (attached_after before history dest) entry dest
attached_more before [] entry dest = attached_at_first before entry [] dest
attached_more before (one ∷ history) entry dest =
    attached_at_first before one (history ++ entry ∷ []) dest ∙ attached_more (attached_by before one dest) history entry dest
    ∙ sym (ap (λ (b : Bool). attached_by b entry dest) (attached_at_first before one history dest))

-- so do the items received
pub received_more : (before : List Inbound) (history : List Entry) (entry : Entry) (dest : Dest) → received_after before (history ++ entry ∷ []) dest ≡ received_by (received_after before history dest) entry dest
received_more before [] entry dest = refl
received_more before (one ∷ history) entry dest = received_more (received_by before one dest) history entry dest

run_with : (w : Gateway) (event : Option Event) (events : List Event) → run w (with_event event events) ≡ run (state_after w event) events
unfolding run
run_with w None events = refl
run_with w (Some event) events = refl

-- the gateway goes on by the last entry's event
pub run_more : (w : Gateway) (history : List Entry) (entry : Entry) → run w (events_of (history ++ entry ∷ [])) ≡ state_after (run w (events_of history)) (entry_event entry)
unfolding run
run_more w [] entry = run_with w (entry_event entry) []
run_more w (one ∷ history) entry =
    run_with w (entry_event one) (events_of (history ++ entry ∷ [])) ∙ run_more (state_after w (entry_event one)) history entry
    ∙ sym (ap (λ (v : Gateway). state_after v (entry_event entry)) (run_with w (entry_event one) (events_of history)))

-- whether an entry's event uses numbers up
abbrev pub out_by : Gateway → Option Event → Bool
out_by w None = false
out_by w (Some event) = is_past_numbers (step w event)

out_with : (w : Gateway) (event : Option Event) (events : List Event) → runs_out w (with_event event events) ≡ (out_by w event || runs_out (state_after w event) events)
unfolding runs_out
out_with w None events = refl
out_with w (Some event) events = refl

or_last : (b : Bool) → (b || false) ≡ (false || b)
or_last true = refl
or_last false = refl

or_first : (a b c : Bool) → (a || (b || c)) ≡ ((a || b) || c)
or_first true b c = refl
or_first false b c = refl

-- numbers are used up by the events before, or by the last entry's
pub run_more_out : (w : Gateway) (history : List Entry) (entry : Entry)
    → runs_out w (events_of (history ++ entry ∷ [])) ≡ (runs_out w (events_of history) || out_by (run w (events_of history)) (entry_event entry))
unfolding run runs_out
run_more_out w [] entry = out_with w (entry_event entry) [] ∙ or_last (out_by w (entry_event entry))
run_more_out w (one ∷ history) entry =
    out_with w (entry_event one) (events_of (history ++ entry ∷ []))
    ∙ ap (λ (b : Bool). out_by w (entry_event one) || b) (run_more_out (state_after w (entry_event one)) history entry)
    ∙ or_first (out_by w (entry_event one)) (runs_out (state_after w (entry_event one)) (events_of history)) (out_by (run (state_after w (entry_event one)) (events_of history)) (entry_event entry))
    ∙ sym (ap (λ (b : Bool). b || out_by (run w (events_of (one ∷ history))) (entry_event entry)) (out_with w (entry_event one) (events_of history))
    ∙ ap (λ (v : Gateway). (out_by w (entry_event one) || runs_out (state_after w (entry_event one)) (events_of history)) || out_by v (entry_event entry)) (run_with w (entry_event one) (events_of history)))

-- the messages pushed go on by what the last entry takes from the gateway that the events run to
pub pushed_more : (before : List Out) (w : Gateway) (history : List Entry) (entry : Entry) (dest : Dest)
    → pushed_after before w (history ++ entry ∷ []) dest ≡ pushed_by (pushed_after before w history dest) (run w (events_of history)) entry dest
unfolding run
pushed_more before w [] entry dest = refl
pushed_more before w (one ∷ history) entry dest =
    pushed_more (pushed_by before w one dest) (state_after w (entry_event one)) history entry dest
    ∙ sym (ap (λ (v : Gateway). pushed_by (pushed_after before w (one ∷ history) dest) v entry dest) (run_with w (entry_event one) (events_of history)))

-- a history that fits fits with an entry more that may follow it
pub may_follow_more : (before history : List Entry) (entry : Entry) → may_follow_all before history ≡ true → may_follow (before ++ history) entry ≡ true → may_follow_all before (history ++ entry ∷ []) ≡ true
may_follow_more before [] entry fits next =
    ap (λ (b : Bool). b && true) (ap (λ (entries : List Entry). may_follow entries entry) (sym (append-nil before)) ∙ next)
may_follow_more before (one ∷ history) entry fits next =
    let parts = and_parts (may_follow before one) (may_follow_all (before ++ one ∷ []) history) fits in
    ap (λ (b : Bool). b && may_follow_all (before ++ one ∷ []) (history ++ entry ∷ [])) parts.0
    ∙ may_follow_more (before ++ one ∷ []) history entry parts.1 (ap (λ (entries : List Entry). may_follow entries entry) (append_assoc before (one ∷ []) history) ∙ next)
