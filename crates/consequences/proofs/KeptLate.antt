-- A read is kept only if it isn't told at once: none is told because it is there, and one that is told goes.
use Rattle.std.proofs.Common.{◌≡◌, ℕ, ◌+◌, List, [], ◌∷◌, ◌++◌, Bool, true, false, cond, eqb, ◌&&◌, Option, Some, None, IfSome, refl, sym, ap, ◌∙◌, arith}
use Rattle.std.specs.List.{count_by, fold}
use Rattle.std.proofs.lemmas.Bool.{and_parts, eq-eqb, eqb-true, true≢false}
use Rattle.std.proofs.lemmas.List.Sums.{sum_by-cons}
use Rattle.rows.specs.Rows.{remove_first}
use Rattle.ca_message.specs.declared.codes.TheConstants.{ECA_NORDACCESS}
use Rattle.named_rows.specs.declared.channels.Channel.{Channel}
use Rattle.named_rows.specs.declared.reads.WaitingRead.{WaitingRead}
use Rattle.channel_table.specs.ClientRows.{read_count}
use Rattle.named_rows.specs.Reads.{is_read_of, same_read}
use Rattle.link_table.specs.declared.links.LinkRow.{LinkRow}
use Rattle.link_table.specs.declared.links.LinkState.TheVariants.{Creating, Connected, Unusable}
use Rattle.gateway_state.specs.declared.notice.LinkNotice.{LinkNotice}
use Rattle.gateway_state.specs.declared.notice.LinkNotice.TheVariants.{Cancelled, Unread, Subscribed, Dropped}
use Rattle.gateway_state.specs.declared.notice.ReadNotice.{ReadNotice}
use Rattle.gateway_state.specs.declared.notice.ReadNotice.TheVariants.{Answered, Refused}
use Rattle.gateway_state.specs.declared.reading.Given.{Given}
use Rattle.gateway_state.specs.Answer.{cached_value}
use Rattle.gateway_state.specs.Gateway.{Gateway}
use Rattle.gateway_state.specs.Notices.{answered_by, answered_over, link_told, notice_on, read_notice}
use Rattle.gateway_state.specs.Numbers.{is_past_numbers}
use Rattle.gateway_state.specs.Rights.{channel_of, may_read, rights_of}
use Rattle.gateway_state.specs.Telling.{sent}
use Rattle.gateway_state.specs.Variables.{ConnectedVariable, connected, link_of}
use Rattle.consequences.specs.LateReads.{read_said}
use Rattle.touched_rows.specs.Touched.{interest_notices_over, interest_told, one_read_told, read_told_if}
use Rattle.touched_rows.specs.Touches.{with_read}
use Rattle.touched_rows.proofs.Numbers.{read_follows_past}
use Rattle.touched_rows.proofs.OneLink.{interest_told_clients}

-- ---- what a server is owed has nothing to do with it

link_beside : (read : WaitingRead) (w : Gateway) (notice : LinkNotice) → link_told (with_read read w) notice ≡ with_read read (link_told w notice)
unfolding sent
link_beside read w (Cancelled subject server cid sid dtype sub) = refl
link_beside read w (Unread subject cid) = refl
link_beside read w (Subscribed subject server cid sid dtype want asked) = refl
link_beside read w (Dropped server cid Creating) = refl
link_beside read w (Dropped server cid Unusable) = refl
link_beside read w (Dropped server cid (Connected sid dtype native)) = refl

links_beside : (read : WaitingRead) (notices : List LinkNotice) (w : Gateway) → fold link_told (with_read read w) notices ≡ with_read read (fold link_told w notices)
links_beside read [] w = refl
links_beside read (notice ∷ notices) w =
    ap (λ (v : Gateway). fold link_told v notices) (link_beside read w notice) ∙ links_beside read notices (link_told w notice)

pub interest_beside : (name : List ℕ) (read : WaitingRead) (w : Gateway) → interest_told name (with_read read w) ≡ with_read read (interest_told name w)
interest_beside name read w = links_beside read (interest_notices_over w (link_of w name)) w

-- ---- a notice is of the read

abbrev IsOf : WaitingRead → ReadNotice → Type 0
IsOf read (Refused other code) = other ≡ read
IsOf read (Answered other count value) = other ≡ read

answer_of : (read : WaitingRead) (given : Option Given) → IfSome (answered_by read given) (IsOf read)
answer_of read None = tt
answer_of read (Some given) = refl

over_of : (w : Gateway) (read : WaitingRead) (over : Option ConnectedVariable) → IfSome (answered_over w read over) (IsOf read)
over_of w read None = tt
over_of w read (Some v) = answer_of read (cached_value w v.link.cid v.native.count read.dtype read.count)

on_of : (w : Gateway) (read : WaitingRead) (on : Option Channel) → IfSome (notice_on w read on) (IsOf read)
on_of w read None = tt
on_of w read (Some c) =
    elim (may_read (rights_of w c)) as (λ t. IfSome (cond t (answered_over w read (connected w c.real)) (Some (Refused read ECA_NORDACCESS))) (IsOf read)) [ true ↦ over_of w read (connected w c.real) | false ↦ refl ]

-- ---- and one that is told goes, where none like it was there before

same_itself : (read : WaitingRead) → same_read read read ≡ true
same_itself read =
    rw (eq-eqb read.session read.session refl, eq-eqb read.sid read.sid refl, eq-eqb read.dtype read.dtype refl, eq-eqb read.count read.count refl, eq-eqb read.ioid read.ioid refl) refl

other_session : (read other : WaitingRead) → is_read_of read.session other ≡ false → same_read read other ≡ false
other_session read other differ =
    elim (same_read read other) as (λ t. same_read read other ≡ t → t ≡ false) [
      | true ↦ λ same.
          let four = and_parts (eqb read.session other.session && eqb read.sid other.sid && eqb read.dtype other.dtype && eqb read.count other.count) (eqb read.ioid other.ioid) same in
          let three = and_parts (eqb read.session other.session && eqb read.sid other.sid && eqb read.dtype other.dtype) (eqb read.count other.count) four.0 in
          let two = and_parts (eqb read.session other.session && eqb read.sid other.sid) (eqb read.dtype other.dtype) three.0 in
          let one = and_parts (eqb read.session other.session) (eqb read.sid other.sid) two.0 in
          let session : other.session ≡ read.session = sym (eqb-true read.session other.session one.0) in
          absurd (true≢false (sym (eq-eqb other.session read.session session) ∙ differ))
      | false ↦ λ _. refl
    ] refl

goes_again : (read : WaitingRead) (reads : List WaitingRead) → count_by (is_read_of read.session) reads ≡ 0 → remove_first (same_read read) (reads ++ read ∷ []) ≡ reads
goes_again read [] none = rw (same_itself read) refl
goes_again read (other ∷ reads) none =
    by (is_read_of read.session other) refl (sym (sum_by-cons (λ row. cond (is_read_of read.session row) 1 0) other reads) ∙ none) (goes_again read reads)
  where
    by : (own : Bool) → is_read_of read.session other ≡ own → cond own 1 0 + count_by (is_read_of read.session) reads ≡ 0
        → (count_by (is_read_of read.session) reads ≡ 0 → remove_first (same_read read) (reads ++ read ∷ []) ≡ reads)
        → remove_first (same_read read) ((other ∷ reads) ++ read ∷ []) ≡ other ∷ reads
    by true is some rest = absurd (omega (arith, some))
    by false is none rest = rw (other_session read other is) (ap (λ left. other ∷ left) (rest (omega (arith, none))))

-- the rows after a read that wasn't kept
abbrev late : WaitingRead → Option ReadNotice → Gateway → Gateway
late read None w = with_read read w
late read (Some notice) w = read_said notice w

told_late : (read : WaitingRead) (notice : Option ReadNotice) (w : Gateway) → IfSome notice (IsOf read) → read_count read.session w.clients ≡ 0
    → read_told_if notice (with_read read w) ≡ late read notice w
unfolding sent
told_late read None w is alone = refl
told_late read (Some (Refused other code)) w is alone =
    ap (λ (one : WaitingRead). read_told_if (Some (Refused one code)) (with_read read w)) is
    ∙ ap (λ (reads : List WaitingRead). read_said (Refused read code) (record w { clients = record w.clients { reads = reads } })) (goes_again read w.clients.reads alone)
    ∙ ap (λ (one : WaitingRead). read_said (Refused one code) w) (sym is)
told_late read (Some (Answered other count value)) w is alone =
    ap (λ (one : WaitingRead). read_told_if (Some (Answered one count value)) (with_read read w)) is
    ∙ ap (λ (reads : List WaitingRead). read_said (Answered read count value) (record w { clients = record w.clients { reads = reads } })) (goes_again read w.clients.reads alone)
    ∙ ap (λ (one : WaitingRead). read_said (Answered one count value) w) (sym is)

-- telling the server first leaves the clients' rows
alone_after : (name : List ℕ) (session : ℕ) (w : Gateway) → read_count session w.clients ≡ 0 → read_count session (interest_told name w).clients ≡ 0
alone_after name session w alone = ap (read_count session) (interest_told_clients w name) ∙ alone

follows_late : (name : List ℕ) (read : WaitingRead) (w : Gateway) → read_count read.session w.clients ≡ 0
    → one_read_told read (interest_told name (with_read read w)) ≡ late read (read_notice (interest_told name w) read) (interest_told name w)
follows_late name read w alone =
    let told : Gateway = interest_told name w in
    ap (one_read_told read) (interest_beside name read w)
    ∙ told_late read (read_notice told read) told (on_of told read (channel_of told read.session read.sid)) (alone_after name read.session w alone)

-- where there is something to tell
pub said_at_once : (name : List ℕ) (read : WaitingRead) (w : Gateway) (notice : ReadNotice) → read_count read.session w.clients ≡ 0 → Some notice ≡ read_notice (interest_told name w) read
    → read_said notice (interest_told name w) ≡ one_read_told read (interest_told name (with_read read w))
said_at_once name read w notice alone is =
    ap (λ (found : Option ReadNotice). late read found (interest_told name w)) is ∙ sym (follows_late name read w alone)

-- and where there is nothing yet
pub kept_late : (name : List ℕ) (read : WaitingRead) (w : Gateway) → read_count read.session w.clients ≡ 0 → None ≡ read_notice (interest_told name w) read
    → with_read read (interest_told name w) ≡ one_read_told read (interest_told name (with_read read w))
kept_late name read w alone is =
    ap (λ (found : Option ReadNotice). late read found (interest_told name w)) is ∙ sym (follows_late name read w alone)

-- it takes no number back
pub late_past : (name : List ℕ) (read : WaitingRead) (w : Gateway) → is_past_numbers (interest_told name w) ≡ true → is_past_numbers (one_read_told read (interest_told name (with_read read w))) ≡ true
unfolding is_past_numbers
late_past name read w past =
    let beside : is_past_numbers (with_read read (interest_told name w)) ≡ true = past in
    read_follows_past read (interest_told name (with_read read w)) (ap is_past_numbers (interest_beside name read w) ∙ beside)
