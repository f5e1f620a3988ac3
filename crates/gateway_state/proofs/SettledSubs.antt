-- What it means for subscriptions, upstream and of clients, that nobody is owed anything.
use Rattle.std.proofs.Common.{◌≡◌, ℕ, List, [], ◌∷◌, ◌++◌, Bool, true, false, cond, not, ◌&&◌, Option, Some, None, refl, sym, ap, subst, ◌∙◌}
use Rattle.std.specs.Prelude.{filter, map, option_map}
use Rattle.std.specs.List.{All, find}
use Rattle.std.proofs.lemmas.Bool.{and_parts, true≢false}
use Rattle.std.proofs.lemmas.List.Elements.{All-cons, All-head, All-nil, All-tail}
use Rattle.std.proofs.lemmas.Slice.Eq.{bytes_eq-Decides}
use Rattle.named_rows.specs.declared.channels.Channel.{Channel}
use Rattle.named_rows.specs.declared.subs.ClientSub.{ClientSub}
use Rattle.named_rows.specs.Channels.{is_channel, is_on}
use Rattle.named_rows.specs.Demand.{own_ask}
use Rattle.link_table.specs.declared.links.LinkRow.{LinkRow}
use Rattle.link_table.specs.declared.links.LinkState.{LinkState}
use Rattle.link_table.specs.declared.links.LinkState.TheVariants.{Creating, Connected, Unusable}
use Rattle.link_table.specs.declared.links.Subject.{Subject}
use Rattle.link_table.specs.declared.links.Subject.TheVariants.{Values, Properties}
use Rattle.link_table.specs.declared.links.Subscription.{Subscription}
use Rattle.link_table.specs.Links.{is_named, sub_at}
use Rattle.gateway_state.specs.Gateway.{Gateway}
use Rattle.gateway_state.specs.Interest.{is_read_through, is_reader, is_subscriber, present, reader_ask, readers, sub_in, subscription_in, wanted_by, wanted_for}
use Rattle.gateway_state.specs.Rights.{channel_of, link_connected}
use Rattle.gateway_state.specs.Settled.{IsInUse, IsKeptPosted, IsSettled, IsSubscribedTo, IsUpToDate, native_count_over, native_type_over, want_in, want_of}
use Rattle.gateway_state.specs.Updates.{is_open_to, is_unreadable, is_withheld, update_notice, update_on}
use Rattle.gateway_state.specs.Variables.{link_of}
use Rattle.gateway_state.proofs.SettledMeaning.{all_in_use, all_up_to_date, none_told}

-- what holds of all rows holds of one that is found, which passes the test
record IsFoundRow {A : Type 0} (P : A → Type 0) (test : A → Bool) (row : A) : Type 0 where
  passes : test row ≡ true
  holds : P row

found_row : {A : Type 0} (P : A → Type 0) (test : A → Bool) (rows : List A) (row : A) → All P rows → find test rows ≡ Some row → IsFoundRow P test row
found_row P test [] row all e = absurd cc
found_row {A = A} P test (first ∷ rows) row all e = by (test first) refl e (λ rest. found_row P test rows row (All-tail P first rows all) rest)
  where
    by : (passes : Bool) → test first ≡ passes → cond passes (Some first) (find test rows) ≡ Some row → (find test rows ≡ Some row → IsFoundRow P test row) → IsFoundRow P test row
    by true is e rest =
        let same : first ≡ row = cc in
        record { passes = ap test (sym same) ∙ is; holds = subst P same (All-head P first rows all) }
    by false is e rest = rest e

-- ---- variables without a connected link have no readers

-- a channel that is served is on no variable whose link isn't connected
not_on : (w : Gateway) (name : List ℕ) (c : Channel) → link_connected (link_of w name) ≡ false → IsUpToDate w c → is_on name c ≡ false
not_on w name c unconnected up = by (is_on name c) refl
  where
    by : (on : Bool) → is_on name c ≡ on → is_on name c ≡ false
    by false is = is
    by true is =
        let same : c.real ≡ name = (bytes_eq-Decides c.real name).0 is in
        let connected : link_connected (link_of w c.real) ≡ true = (and_parts _ (link_connected (link_of w c.real)) up.served).1 in
        absurd (true≢false (sym connected ∙ ap (λ (real : List ℕ). link_connected (link_of w real)) same ∙ unconnected))

no_readers : (w : Gateway) (name : List ℕ) (channels : List Channel) → link_connected (link_of w name) ≡ false → All (IsUpToDate w) channels → filter (is_reader w name) channels ≡ []
no_readers w name [] unconnected all = refl
no_readers w name (c ∷ channels) unconnected all =
    rw (not_on w name c unconnected (All-head (IsUpToDate w) c channels all)) (no_readers w name channels unconnected (All-tail (IsUpToDate w) c channels all))

no_subscribers : (w : Gateway) (name : List ℕ) (subs : List ClientSub) → link_connected (link_of w name) ≡ false → All (IsUpToDate w) w.clients.channels → filter (is_subscriber w name) subs ≡ []
no_subscribers w name [] unconnected all = refl
no_subscribers w name (sub ∷ subs) unconnected all = by (channel_of w sub.session sub.sid) refl (no_subscribers w name subs unconnected all)
  where
    by : (found : Option Channel) → channel_of w sub.session sub.sid ≡ found → filter (is_subscriber w name) subs ≡ []
        → cond (is_read_through w name found) (sub ∷ filter (is_subscriber w name) subs) (filter (is_subscriber w name) subs) ≡ []
    by None is rest = rest
    by (Some c) is rest =
        let found = found_row (IsUpToDate w) (is_channel sub.session sub.sid) w.clients.channels c all is in
        rw (not_on w name c unconnected found.holds) rest

nobody_reads : (w : Gateway) (name : List ℕ) → IsSettled w → link_connected (link_of w name) ≡ false → readers w name ≡ []
nobody_reads w name settled unconnected =
    let subs = no_subscribers w name w.clients.subs unconnected (all_up_to_date w settled) in
    let channels = no_readers w name w.clients.channels unconnected (all_up_to_date w settled) in
    λ i. map own_ask (subs i) ++ map reader_ask (channels i)

-- who isn't there wants nothing
none_wanted : (subject : Subject) (dtype native : ℕ) → wanted_by subject dtype native [] ≡ None
none_wanted Values dtype native = refl
none_wanted Properties dtype native = refl

nothing_wanted : (subject : Subject) (w : Gateway) (name : List ℕ) (dtype native : ℕ) → IsSettled w → link_connected (link_of w name) ≡ false
    → wanted_for subject w name dtype native ≡ None
nothing_wanted subject w name dtype native settled unconnected =
    ap (wanted_by subject dtype native) (nobody_reads w name settled unconnected) ∙ none_wanted subject dtype native

-- ---- subscriptions upstream

same_want : (sub : Option Subscription) → option_map want_of (sub_in sub) ≡ option_map want_in sub
same_want None = refl
same_want (Some sub) = refl

pub subscribed_to_each : (subject : Subject) (w : Gateway) → IsSettled w → IsSubscribedTo subject w
subscribed_to_each subject w settled name = by (link_of w name) refl
  where
    over : (link : LinkRow) (state : LinkState) → link_of w name ≡ Some link → link.state ≡ state
        → option_map want_of (sub_in (present subject link state)) ≡ wanted_for subject w name (native_type_over (Some link)) (native_count_over (Some link))
    over link Creating is is_state =
        sym (nothing_wanted subject w name (native_type_over (Some link)) (native_count_over (Some link)) settled (ap link_connected is ∙ rw is_state refl))
    over link Unusable is is_state =
        sym (nothing_wanted subject w name (native_type_over (Some link)) (native_count_over (Some link)) settled (ap link_connected is ∙ rw is_state refl))
    over link (Connected sid dtype native) is is_state =
        let found = found_row (IsInUse w) (is_named name) w.upstream.links link (all_in_use w settled) is in
        let named : link.name ≡ name = (bytes_eq-Decides link.name name).0 found.passes in
        same_want (sub_at subject link.subscriptions) ∙ found.holds.subscribed (rw is_state refl) subject
        ∙ ap (λ (n : List ℕ). wanted_for subject w n (native_type_over (Some link)) (native_count_over (Some link))) named

    by : (link : Option LinkRow) → link_of w name ≡ link
        → option_map want_of (sub_in (subscription_in subject link)) ≡ wanted_for subject w name (native_type_over link) (native_count_over link)
    by None is = sym (nothing_wanted subject w name 0 0 settled (ap link_connected is))
    by (Some link) is = over link link.state is refl

-- ---- subscriptions of clients

none_passing : (test : ClientSub → Bool) (rows : List ClientSub) → filter test rows ≡ [] → All (λ (row : ClientSub). test row ≡ false) rows
none_passing test [] none = All-nil (λ (row : ClientSub). test row ≡ false)
none_passing test (row ∷ rows) none = by (test row) refl none (λ rest. none_passing test rows rest)
  where
    by : (passes : Bool) → test row ≡ passes → cond passes (row ∷ filter test rows) (filter test rows) ≡ [] → (filter test rows ≡ [] → All (λ (x : ClientSub). test x ≡ false) rows)
        → All (λ (x : ClientSub). test x ≡ false) (row ∷ rows)
    by true is empty rest = absurd cc
    by false is empty rest = All-cons (λ (x : ClientSub). test x ≡ false) row rows is (rest empty)

owed_if_unreadable : (w : Gateway) (sub : ClientSub) → is_withheld w sub ≡ false → is_unreadable w (channel_of w sub.session sub.sid) ≡ true → sub.owed ≡ true
owed_if_unreadable w sub not_held unreadable = by sub.owed (is_unreadable w (channel_of w sub.session sub.sid)) not_held unreadable
  where
    by : (owed hidden : Bool) → (not owed && hidden) ≡ false → hidden ≡ true → owed ≡ true
    by true hidden none is = refl
    by false true none is = absurd (true≢false none)
    by false false none is = absurd (true≢false (sym is))

none_if_open : (w : Gateway) (sub : ClientSub) → update_notice w sub ≡ None → sub.owed ≡ true → is_open_to w sub ≡ true → update_on w sub (channel_of w sub.session sub.sid) ≡ None
unfolding update_notice
none_if_open w sub none owed allowed = by sub.owed (is_open_to w sub) owed allowed none
  where
    by : (first second : Bool) → first ≡ true → second ≡ true → cond (first && second) (update_on w sub (channel_of w sub.session sub.sid)) None ≡ None
        → update_on w sub (channel_of w sub.session sub.sid) ≡ None
    by true true is is_so none = none
    by true false is is_so none = absurd (true≢false (sym is_so))
    by false second is is_so none = absurd (true≢false (sym is))

kept_posted : (w : Gateway) (sub : ClientSub) → is_withheld w sub ≡ false → update_notice w sub ≡ None → IsKeptPosted w sub
kept_posted w sub not_held none = record { owed = owed_if_unreadable w sub not_held; waits = none_if_open w sub none }

each_kept_posted : (w : Gateway) (rows : List ClientSub) → All (λ (row : ClientSub). is_withheld w row ≡ false) rows → All (λ (row : ClientSub). update_notice w row ≡ None) rows → All (IsKeptPosted w) rows
each_kept_posted w [] not_held none = All-nil (IsKeptPosted w)
each_kept_posted w (row ∷ rows) not_held none =
    All-cons (IsKeptPosted w) row rows
    (kept_posted w row (All-head (λ (x : ClientSub). is_withheld w x ≡ false) row rows not_held) (All-head (λ (x : ClientSub). update_notice w x ≡ None) row rows none))
    (each_kept_posted w rows (All-tail (λ (x : ClientSub). is_withheld w x ≡ false) row rows not_held) (All-tail (λ (x : ClientSub). update_notice w x ≡ None) row rows none))

pub all_kept_posted : (w : Gateway) → IsSettled w → All (IsKeptPosted w) w.clients.subs
all_kept_posted w settled =
    each_kept_posted w w.clients.subs (none_passing (is_withheld w) w.clients.subs settled.held_back) (none_told (update_notice w) w.clients.subs settled.updates)
