-- A subscription that is given up: the server of its variable is told what is wanted now.
use Rattle.std.proofs.Common.{◌≡◌, ℕ, List, [], ◌∷◌, ◌++◌, Bool, true, false, cond, eqb, ◌&&◌, ◌||◌, Some, None, refl, sym, ap, ◌∙◌}
use Rattle.std.specs.Prelude.{bytes_eq, filter, filter_map, map}
use Rattle.std.specs.List.{All, find, list_any}
use Rattle.std.proofs.lemmas.Bool.{and_parts, eqb-true, true≢false}
use Rattle.std.proofs.lemmas.List.Elements.{All-cons, All-filter, All-nil, All-weaker}
use Rattle.rows.specs.Rows.{change_first}
use Rattle.channel_table.specs.ClientRows.{ClientRows}
use Rattle.named_rows.specs.declared.channels.Channel.{Channel}
use Rattle.named_rows.specs.declared.subs.ClientSub.{ClientSub}
use Rattle.named_rows.specs.Subs.{is_not_sub, is_sub}
use Rattle.named_rows.specs.Demand.{own_ask}
use Rattle.fanout.specs.declared.outbox.Out.{Out}
use Rattle.gateway_state.specs.declared.connections.Connection.{Connection}
use Rattle.gateway_state.specs.declared.event.Dest.{Dest}
use Rattle.gateway_state.specs.Connections.{given, is_to, most_for}
use Rattle.gateway_state.specs.Gateway.{Gateway}
use Rattle.gateway_state.specs.Interest.{is_read_through, is_reader, is_subscriber, reader_ask}
use Rattle.gateway_state.specs.Notices.{read_notice, read_notices, reads_told}
use Rattle.gateway_state.specs.Rights.{channel_of, may_read, rights_of}
use Rattle.gateway_state.specs.Settled.{AreApart, HasLinksApart, HasSubsApart, IsSettled}
use Rattle.gateway_state.specs.Step.{consequences}
use Rattle.gateway_state.specs.Subscribing.{sub_of, without_sub}
use Rattle.gateway_state.specs.Telling.{sent}
use Rattle.gateway_state.specs.Updates.{is_withheld, update_notice, update_notices, updates_told}
use Rattle.gateway_state.proofs.SettledSteps.{reads_stay, updates_stay}
use Rattle.touched_rows.specs.Touched.{interest_told}
use Rattle.touched_rows.proofs.Connections.{HasNoMoreRoom, no_more_room_given}
use Rattle.touched_rows.proofs.LessGiven.{GivesNoMore, gives_no_more}
use Rattle.touched_rows.proofs.OneLink.{IsBesideOthers, interest_alone, interest_told_clients, is_name, less_interest_told}
use Rattle.touched_rows.proofs.Passes.{each_update_stays, from_links, no_reads}
use Rattle.touched_rows.proofs.ReadersOf.{none_left, not_not, other_name, passing_left}
use Rattle.touched_rows.proofs.Tellings.{less_beside, less_connections}
use Rattle.touched_rows.proofs.TouchedAlone.{none_planned}

-- ---- one subscription alone has an ID

all_fail : {A : Type 0} (test : A → Bool) (rows : List A) → list_any test rows ≡ false → All (λ (row : A). test row ≡ false) rows
all_fail {A = A} test [] none = All-nil (λ (row : A). test row ≡ false)
all_fail {A = A} test (row ∷ rows) none = by (test row) refl none (λ rest. all_fail test rows rest)
  where
    by : (is : Bool) → test row ≡ is → (is || list_any test rows) ≡ false → (list_any test rows ≡ false → All (λ (x : A). test x ≡ false) rows) → All (λ (x : A). test x ≡ false) (row ∷ rows)
    by true is none rest = absurd (true≢false none)
    by false is none rest = All-cons (λ (x : A). test x ≡ false) row rows is (rest none)

same_key : (session id : ℕ) (row : ClientSub) → is_sub session id row ≡ true → (other : ClientSub) → is_sub row.session row.id other ≡ is_sub session id other
same_key session id row is other =
    let parts = and_parts (eqb row.session session) (eqb row.id id) is in
    let sessions = eqb-true row.session session parts.0 in
    let ids = eqb-true row.id id parts.1 in
    λ i. is_sub (sessions i) (ids i) other

pub one_of_id : (session id : ℕ) (rows : List ClientSub) (sub : ClientSub) → AreApart rows → find (is_sub session id) rows ≡ Some sub
    → All (λ (row : ClientSub). is_sub session id row ≡ true → row ≡ sub) rows
one_of_id session id [] sub apart found = absurd cc
one_of_id session id (row ∷ rows) sub apart found = by (is_sub session id row) refl found (λ later. one_of_id session id rows sub apart.1 later)
  where
    by : (is : Bool) → is_sub session id row ≡ is → cond is (Some row) (find (is_sub session id) rows) ≡ Some sub
        → (find (is_sub session id) rows ≡ Some sub → All (λ (x : ClientSub). is_sub session id x ≡ true → x ≡ sub) rows)
        → All (λ (x : ClientSub). is_sub session id x ≡ true → x ≡ sub) (row ∷ rows)
    by true is found rest =
        let same : row ≡ sub = cc in
        All-cons (λ (x : ClientSub). is_sub session id x ≡ true → x ≡ sub) row rows (λ passes. same)
        (All-weaker (λ (x : ClientSub). is_sub row.session row.id x ≡ false) (λ (x : ClientSub). is_sub session id x ≡ true → x ≡ sub)
        (λ x fails passes. absurd (true≢false (sym passes ∙ sym (same_key session id row is x) ∙ fails))) rows
        (all_fail (is_sub row.session row.id) rows apart.0))
    by false is found rest =
        All-cons (λ (x : ClientSub). is_sub session id x ≡ true → x ≡ sub) row rows (λ passes. absurd (true≢false (sym passes ∙ is))) (rest found)

-- ---- the subscription goes

module _ (w : Gateway) (settled : IsSettled w) (links_apart : HasLinksApart w) (subs_apart : HasSubsApart w) (session id : ℕ) (sub : ClientSub)
    (found : sub_of w session id ≡ Some sub) (c : Channel) (on : channel_of w sub.session sub.sid ≡ Some c)
    (connections : List Connection) (room : HasNoMoreRoom w.connections connections) where
  abbrev fewer : Gateway
  fewer = record (without_sub session id w) { connections = connections }

  -- it read no other variable
  elsewhere : (other : List ℕ) → bytes_eq other c.real ≡ false → is_subscriber w other sub ≡ false
  elsewhere other differ = ap (is_read_through w other) on ∙ ap (λ (t : Bool). t && may_read (rights_of w c)) (other_name other c.real differ)

  gone_elsewhere : (other : List ℕ) → bytes_eq other c.real ≡ false → All (λ (row : ClientSub). is_not_sub session id row ≡ false → is_subscriber w other row ≡ false) w.clients.subs
  gone_elsewhere other differ =
      All-weaker (λ (row : ClientSub). is_sub session id row ≡ true → row ≡ sub) (λ (row : ClientSub). is_not_sub session id row ≡ false → is_subscriber w other row ≡ false)
      (λ row one gone. ap (is_subscriber w other) (one (not_not (is_sub session id row) gone)) ∙ elsewhere other differ) w.clients.subs
      (one_of_id session id w.clients.subs sub subs_apart found)

  beside : IsBesideOthers w fewer (is_name c.real)
  beside = record {
    links = refl;
    minors = λ server. refl;
    asks = λ other differ.
        ap (λ (subs : List ClientSub). map own_ask subs ++ map reader_ask (filter (is_reader w other) w.clients.channels))
        (passing_left (is_subscriber w other) (is_not_sub session id) w.clients.subs (gone_elsewhere other differ));
    wanted = λ other differ. refl;
  }

  abbrev after : Gateway
  after = interest_told c.real fewer

  less_before : GivesNoMore w fewer
  less_before =
      gives_no_more w (without_sub session id w) fewer (less_beside w (filter (is_not_sub session id) w.clients.subs) w.clients.reads w.upstream.counters)
      (less_connections (without_sub session id w) connections room)

  less : GivesNoMore w after
  less = gives_no_more w fewer after less_before (less_interest_told fewer c.real)

  clients_same : after.clients ≡ fewer.clients
  clients_same = interest_told_clients fewer c.real

  reads_quiet : read_notices after ≡ []
  reads_quiet = ap (λ (rows : ClientRows). filter_map (read_notice after) rows.reads) clients_same ∙ no_reads w after less w.clients.reads settled.reads

  updates_quiet : update_notices after ≡ []
  updates_quiet =
      ap (λ (rows : ClientRows). filter_map (update_notice after) rows.subs) clients_same
      ∙ none_planned (update_notice after) (filter (is_not_sub session id) w.clients.subs)
      (All-filter (is_not_sub session id) (λ (row : ClientSub). update_notice after row ≡ None) w.clients.subs (each_update_stays w after less w.clients.subs settled.updates))

  told_after : consequences fewer ≡ interest_told c.real fewer
  told_after =
      from_links fewer settled.channels (none_left (is_withheld w) (is_not_sub session id) w.clients.subs settled.held_back)
      ∙ ap (λ (v : Gateway). updates_told (reads_told v)) (interest_alone w fewer c.real beside settled links_apart (λ wanted. wanted))
      ∙ ap updates_told (reads_stay after reads_quiet)
      ∙ updates_stay after updates_quiet

pub told_after_unsubscribing : (w : Gateway) → IsSettled w → HasLinksApart w → HasSubsApart w → (session id : ℕ) (sub : ClientSub) → sub_of w session id ≡ Some sub
    → (c : Channel) → channel_of w sub.session sub.sid ≡ Some c → (dest : Dest) (said : Out)
    → consequences (sent dest said (without_sub session id w)) ≡ interest_told c.real (sent dest said (without_sub session id w))
unfolding sent
told_after_unsubscribing w settled links_apart subs_apart session id sub found c on dest said =
    told_after w settled links_apart subs_apart session id sub found c on (change_first (is_to dest) (given (most_for w.limits dest) said) w.connections) (no_more_room_given (most_for w.limits dest) dest said w.connections)
