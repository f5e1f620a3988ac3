-- What it means, row by row, that nobody is owed anything.
use Rattle.std.proofs.Common.{◌≡◌, ℕ, List, [], ◌∷◌, ◌++◌, Bool, true, false, cond, eqb, ◌||◌, Option, Some, None, refl, sym, ap, ◌∙◌}
use Rattle.std.specs.Prelude.{filter_map, flat_map, option_map}
use Rattle.std.specs.List.{All, cons_option, find, list_all, list_any}
use Rattle.std.proofs.lemmas.Bool.{and_parts, eqb-true, true≢false}
use Rattle.std.proofs.lemmas.List.Elements.{All-cons, All-head, All-nil, All-tail, All-weaker}
use Rattle.ca_message.specs.declared.codes.TheConstants.{ECA_NORDACCESS}
use Rattle.named_rows.specs.declared.channels.Channel.{Channel}
use Rattle.named_rows.specs.declared.reads.WaitingRead.{WaitingRead}
use Rattle.named_rows.specs.Channels.{is_channel}
use Rattle.link_table.specs.declared.links.LinkRow.{LinkRow}
use Rattle.link_table.specs.declared.links.LinkState.{LinkState}
use Rattle.link_table.specs.declared.links.LinkState.TheVariants.{Creating, Connected, Unusable}
use Rattle.link_table.specs.declared.links.Subject.{Subject}
use Rattle.link_table.specs.declared.links.Subject.TheVariants.{Values, Properties}
use Rattle.link_table.specs.declared.links.Subscription.{Subscription}
use Rattle.link_table.specs.Links.{sub_at}
use Rattle.mask_merge.specs.declared.want.Want.{Want}
use Rattle.gateway_state.specs.declared.notice.LinkNotice.{LinkNotice}
use Rattle.gateway_state.specs.declared.notice.LinkNotice.TheVariants.{Dropped}
use Rattle.gateway_state.specs.declared.notice.ReadNotice.TheVariants.{Refused}
use Rattle.gateway_state.specs.declared.reading.Given.{Given}
use Rattle.gateway_state.specs.declared.reading.Native.{Native}
use Rattle.gateway_state.specs.Answer.{cached_value, native_in}
use Rattle.gateway_state.specs.Gateway.{Gateway}
use Rattle.gateway_state.specs.Interest.{is_for, minor_of, wanted_for}
use Rattle.gateway_state.specs.Notices.{answered_by, answered_over, cancelled, channel_notice, channel_notices, interest_notices, link_notices_of, notice_on, notices_between, read_notice, subject_notices, subscribed}
use Rattle.gateway_state.specs.Rights.{channel_of, is_served, link_connected, may_read, rights_of}
use Rattle.gateway_state.specs.Settled.{HasReadsOnChannels, IsInUse, IsSettled, IsUpToDate, IsWaiting, want_in, is_on_channel, native_count_in, native_type_in}
use Rattle.gateway_state.specs.Variables.{connected_in, connected_over, is_connected, is_wanted, link_of}
use Rattle.gateway_state.proofs.SettledChannels.{notice_by}

-- ---- lists of notices that are empty

pub none_told : {A B : Type 0} (notice : A → Option B) (rows : List A) → filter_map notice rows ≡ [] → All (λ (row : A). notice row ≡ None) rows
none_told {A = A} notice [] none = All-nil (λ (row : A). notice row ≡ None)
none_told {A = A} {B = B} notice (row ∷ rows) none = by (notice row) refl none (λ rest. none_told notice rows rest)
  where
    by : (found : Option B) → notice row ≡ found → cons_option found (filter_map notice rows) ≡ [] → (filter_map notice rows ≡ [] → All (λ (x : A). notice x ≡ None) rows)
        → All (λ (x : A). notice x ≡ None) (row ∷ rows)
    by None is empty rest = All-cons (λ (x : A). notice x ≡ None) row rows is (rest empty)
    by (Some told) is empty rest = absurd cc

pub nothing_told : {A B : Type 0} (notices : A → List B) (rows : List A) → flat_map notices rows ≡ [] → All (λ (row : A). notices row ≡ []) rows
nothing_told {A = A} notices [] none = All-nil (λ (row : A). notices row ≡ [])
nothing_told {A = A} {B = B} notices (row ∷ rows) none = by (notices row) refl none (λ rest. nothing_told notices rows rest)
  where
    by : (found : List B) → notices row ≡ found → found ++ flat_map notices rows ≡ [] → (flat_map notices rows ≡ [] → All (λ (x : A). notices x ≡ []) rows)
        → All (λ (x : A). notices x ≡ []) (row ∷ rows)
    by [] is empty rest = All-cons (λ (x : A). notices x ≡ []) row rows is (rest empty)
    by (told ∷ more) is empty rest = absurd cc

-- ---- channels

up_to_date : (w : Gateway) (c : Channel) → channel_notice w c ≡ None → IsUpToDate w c
up_to_date w c none = by (is_served w c) (eqb c.rights_told (rights_of w c)) refl refl none
  where
    by : (served same : Bool) → is_served w c ≡ served → eqb c.rights_told (rights_of w c) ≡ same → notice_by served same (rights_of w c) c ≡ None → IsUpToDate w c
    by false same is_so is_same none = absurd cc
    by true false is_so is_same none = absurd cc
    by true true is_so is_same none = record { served = is_so; rights = eqb-true c.rights_told (rights_of w c) is_same }

pub quiet_up_to_date : (w : Gateway) → channel_notices w ≡ [] → All (IsUpToDate w) w.clients.channels
quiet_up_to_date w none =
    All-weaker (λ (c : Channel). channel_notice w c ≡ None) (IsUpToDate w) (up_to_date w) w.clients.channels (none_told (channel_notice w) w.clients.channels none)

pub all_up_to_date : (w : Gateway) → IsSettled w → All (IsUpToDate w) w.clients.channels
all_up_to_date w settled = quiet_up_to_date w settled.channels

-- ---- links

is_for-same : (want : Option Want) (sub : Option Subscription) → is_for want sub ≡ true → option_map want_in sub ≡ want
is_for-same None None is = refl
is_for-same None (Some sub) is = absurd (true≢false (sym is))
is_for-same (Some want) None is = absurd (true≢false (sym is))
is_for-same (Some want) (Some sub) is =
    let parts = and_parts (eqb sub.mask want.mask) (eqb sub.count want.count) is in
    let masks = eqb-true sub.mask want.mask parts.0 in
    let counts = eqb-true sub.count want.count parts.1 in
    λ i. Some (record { mask = masks i; count = counts i })

-- where the subscription isn't for what is wanted, something is told
pub told_anew : (subject : Subject) (link : LinkRow) (minor sid dtype native : ℕ) (sub : Option Subscription) (want : Option Want)
    → cancelled subject link sid dtype sub ++ subscribed subject minor link sid dtype native want ≡ [] → ⊥
told_anew subject link minor sid dtype native None None none = cc
told_anew subject link minor sid dtype native None (Some want) none = cc
told_anew subject link minor sid dtype native (Some sub) want none = cc

-- two lists that make none together are none
pub both_empty : {A : Type 0} (first second : List A) → first ++ second ≡ [] → (first ≡ []) × (second ≡ [])
both_empty [] second none = (refl, none)
both_empty (row ∷ rows) second none = absurd cc

pub subscribed_for : (subject : Subject) (link : LinkRow) (minor sid dtype native : ℕ) (want : Option Want) (sub : Option Subscription)
    → notices_between subject minor link sid dtype native want sub ≡ [] → option_map want_in sub ≡ want
subscribed_for subject link minor sid dtype native want sub none = by (is_for want sub) refl none
  where
    by : (met : Bool) → is_for want sub ≡ met → cond met [] (cancelled subject link sid dtype sub ++ subscribed subject minor link sid dtype native want) ≡ []
        → option_map want_in sub ≡ want
    by true met none = is_for-same want sub met
    by false met none = absurd (told_anew subject link minor sid dtype native sub want none)

-- nothing is told about a connected link, so nothing about either subject
subject_quiet : (w : Gateway) (link : LinkRow) (sid dtype native : ℕ) → interest_notices w link (Connected sid dtype native) ≡ [] → (subject : Subject) → subject_notices subject w link sid dtype native ≡ []
subject_quiet w link sid dtype native none Values = (both_empty (subject_notices Values w link sid dtype native) (subject_notices Properties w link sid dtype native) none).0
subject_quiet w link sid dtype native none Properties = (both_empty (subject_notices Values w link sid dtype native) (subject_notices Properties w link sid dtype native) none).1

all_subscribed : (w : Gateway) (link : LinkRow) (state : LinkState) → interest_notices w link state ≡ [] → is_connected state ≡ true → (subject : Subject)
    → option_map want_in (sub_at subject link.subscriptions) ≡ wanted_for subject w link.name (native_type_in state) (native_count_in state)
all_subscribed w link Creating none connected subject = absurd (true≢false (sym connected))
all_subscribed w link Unusable none connected subject = absurd (true≢false (sym connected))
all_subscribed w link (Connected sid dtype native) none connected subject =
    subscribed_for subject link (minor_of w link.server) sid dtype native (wanted_for subject w link.name dtype native) (sub_at subject link.subscriptions)
    (subject_quiet w link sid dtype native none subject)

in_use : (w : Gateway) (link : LinkRow) → link_notices_of w link ≡ [] → IsInUse w link
in_use w link none = by (interest_notices w link link.state) (is_wanted w link.name) refl refl none
  where
    by : (first : List LinkNotice) (wanted : Bool) → interest_notices w link link.state ≡ first → is_wanted w link.name ≡ wanted
        → first ++ cond wanted [] (Dropped link.server link.cid link.state ∷ []) ≡ [] → IsInUse w link
    by [] true is is_so none = record { wanted = is_so; subscribed = all_subscribed w link link.state is }
    by [] false is is_so none = absurd cc
    by (notice ∷ more) wanted is is_so none = absurd cc

pub all_in_use : (w : Gateway) → IsSettled w → All (IsInUse w) w.upstream.links
all_in_use w settled =
    All-weaker (λ (link : LinkRow). link_notices_of w link ≡ []) (IsInUse w) (in_use w) w.upstream.links (nothing_told (link_notices_of w) w.upstream.links settled.links)

-- ---- waiting reads

-- the first row that passes, with what holds of all rows
record IsFound {A : Type 0} (P : A → Type 0) (test : A → Bool) (rows : List A) : Type 0 where
  row : A
  first : find test rows ≡ Some row
  holds : P row

found_in : {A : Type 0} (P : A → Type 0) (test : A → Bool) (rows : List A) → All P rows → list_any test rows ≡ true → IsFound P test rows
found_in P test [] all any = absurd (true≢false (sym any))
found_in {A = A} P test (row ∷ rows) all any = by (test row) refl any (λ there. found_in P test rows (All-tail P row rows all) there)
  where
    by : (passes : Bool) → test row ≡ passes → (passes || list_any test rows) ≡ true → (list_any test rows ≡ true → IsFound P test rows) → IsFound P test (row ∷ rows)
    by true is there rest = record { row = row; first = rw is refl; holds = All-head P row rows all }
    by false is there rest = let found = rest there in record { row = found.row; first = rw is found.first; holds = found.holds }

connected_native : (state : LinkState) → is_connected state ≡ true → (native : Native) × (native_in state ≡ Some native)
connected_native Creating connected = absurd (true≢false (sym connected))
connected_native Unusable connected = absurd (true≢false (sym connected))
connected_native (Connected sid dtype count) connected = (record { dtype = dtype; count = count }, refl)

unanswered : (read : WaitingRead) (given : Option Given) → answered_by read given ≡ None → given ≡ None
unanswered read None none = refl
unanswered read (Some given) none = absurd cc

-- a read that isn't answered on a connected link isn't covered
uncovered_in : (w : Gateway) (read : WaitingRead) (link : LinkRow) (state : LinkState) (native : Native) → native_in state ≡ Some native
    → answered_over w read (connected_in link state) ≡ None → cached_value w link.cid native.count read.dtype read.count ≡ None
uncovered_in w read link Creating native is none = absurd cc
uncovered_in w read link Unusable native is none = absurd cc
uncovered_in w read link (Connected sid dtype count) native is none =
    let same : record { dtype = dtype; count = count } ≡ native = cc in
    ap (λ (n : Native). cached_value w link.cid n.count read.dtype read.count) (sym same)
    ∙ unanswered read (cached_value w link.cid count read.dtype read.count) none

-- a read without a notice waits, on a channel that is served
waiting_over : (w : Gateway) (read : WaitingRead) (c : Channel) (link : Option LinkRow) → channel_of w read.session read.sid ≡ Some c → link_of w c.real ≡ link
    → link_connected link ≡ true → may_read (rights_of w c) ≡ true → answered_over w read (connected_over link) ≡ None → IsWaiting w read
waiting_over w read c None on is connected readable none = absurd (true≢false (sym connected))
waiting_over w read c (Some link) on is connected readable none =
    let known = connected_native link.state connected in
    record {
      channel = c;
      link = link;
      native = known.0;
      on = on;
      over = is;
      connected = known.1;
      readable = readable;
      uncovered = uncovered_in w read link link.state known.0 known.1 none;
    }

waiting_on : (w : Gateway) (read : WaitingRead) (c : Channel) → channel_of w read.session read.sid ≡ Some c → IsUpToDate w c → notice_on w read (Some c) ≡ None → IsWaiting w read
waiting_on w read c on up none = by (may_read (rights_of w c)) refl none
  where
    by : (may : Bool) → may_read (rights_of w c) ≡ may → cond may (answered_over w read (connected_over (link_of w c.real))) (Some (Refused read ECA_NORDACCESS)) ≡ None → IsWaiting w read
    by true is none = waiting_over w read c (link_of w c.real) on refl (and_parts _ (link_connected (link_of w c.real)) up.served).1 is none
    by false is none = absurd cc

waiting : (w : Gateway) (read : WaitingRead) → IsSettled w → is_on_channel w read ≡ true → read_notice w read ≡ None → IsWaiting w read
waiting w read settled on none =
    let found = found_in (IsUpToDate w) (is_channel read.session read.sid) w.clients.channels (all_up_to_date w settled) on in
    waiting_on w read found.row found.first found.holds (ap (notice_on w read) (sym found.first) ∙ none)

waiting_each : (w : Gateway) (reads : List WaitingRead) → IsSettled w → list_all (is_on_channel w) reads ≡ true → All (λ (read : WaitingRead). read_notice w read ≡ None) reads → All (IsWaiting w) reads
waiting_each w [] settled on none = All-nil (IsWaiting w)
waiting_each w (read ∷ reads) settled on none =
    let parts = and_parts (is_on_channel w read) (list_all (is_on_channel w) reads) on in
    let quiet : read_notice w read ≡ None = All-head (λ (x : WaitingRead). read_notice w x ≡ None) read reads none in
    All-cons (IsWaiting w) read reads (waiting w read settled parts.0 quiet)
    (waiting_each w reads settled parts.1 (All-tail (λ (x : WaitingRead). read_notice w x ≡ None) read reads none))

pub all_waiting : (w : Gateway) → IsSettled w → HasReadsOnChannels w → All (IsWaiting w) w.clients.reads
all_waiting w settled on = waiting_each w w.clients.reads settled on (none_told (read_notice w) w.clients.reads settled.reads)
