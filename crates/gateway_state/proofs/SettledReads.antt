-- The pass over waiting reads leaves nothing that it would tell.
use Rattle.std.proofs.Common.{◌≡◌, ℕ, List, [], ◌∷◌, Bool, true, false, cond, Option, Some, None, refl, sym, ap, ◌∙◌}
use Rattle.std.specs.Prelude.{filter_map}
use Rattle.std.specs.List.{fold, cons_option}
use Rattle.std.proofs.lemmas.Bool.{and_parts, eqb-true, eq-eqb}
use Rattle.rows.specs.Rows.{remove_first}
use Rattle.named_rows.specs.declared.channels.Channel.{Channel}
use Rattle.named_rows.specs.declared.reads.WaitingRead.{WaitingRead}
use Rattle.named_rows.specs.Reads.{same_read}
use Rattle.gateway_state.specs.declared.connections.Connection.{Connection}
use Rattle.gateway_state.specs.declared.notice.ReadNotice.{ReadNotice}
use Rattle.gateway_state.specs.declared.notice.ReadNotice.TheVariants.{Refused, Answered}
use Rattle.gateway_state.specs.declared.reading.Given.{Given}
use Rattle.gateway_state.specs.Answer.{cached_value}
use Rattle.gateway_state.specs.Gateway.{Gateway}
use Rattle.gateway_state.specs.Notices.{answered_by, answered_over, notice_on, read_notice, read_notices, read_told, reads_told, channel_notices, link_notices}
use Rattle.gateway_state.specs.Rights.{rights_of, may_read, channel_of}
use Rattle.gateway_state.specs.Telling.{sent}
use Rattle.gateway_state.specs.Updates.{withheld}
use Rattle.gateway_state.specs.Variables.{ConnectedVariable, connected}

-- the read that a notice is on
abbrev read_in : ReadNotice → WaitingRead
read_in (Refused read code) = read
read_in (Answered read count payload) = read

-- what a notice leaves of the reads
abbrev left_by : List WaitingRead → ReadNotice → List WaitingRead
left_by rows notice = remove_first (same_read (read_in notice)) rows

-- a state with other reads, and what goes with them
abbrev with_reads : Gateway → List Connection → List WaitingRead → Gateway
with_reads w connections reads = record w { connections = connections; clients = record w.clients { reads = reads } }

-- notices on reads change nothing else
reads_changed : (notices : List ReadNotice) (w : Gateway)
    → fold read_told w notices ≡ with_reads w (fold read_told w notices).connections (fold left_by w.clients.reads notices)
unfolding sent
reads_changed [] w = refl
reads_changed (Refused read code ∷ notices) w = reads_changed notices (read_told w (Refused read code))
reads_changed (Answered read count payload ∷ notices) w = reads_changed notices (read_told w (Answered read count payload))

-- a notice is on the read that it was made for
answered_by-on : (read : WaitingRead) (given : Option Given) (notice : ReadNotice) → answered_by read given ≡ Some notice → read_in notice ≡ read
answered_by-on read None notice e = absurd cc
answered_by-on read (Some given) notice e = let same : Answered read given.count given.payload ≡ notice = cc in ap read_in (sym same)

answered_over-on : (w : Gateway) (read : WaitingRead) (over : Option ConnectedVariable) (notice : ReadNotice) → answered_over w read over ≡ Some notice → read_in notice ≡ read
answered_over-on w read None notice e = absurd cc
answered_over-on w read (Some v) notice e = answered_by-on read (cached_value w v.link.cid v.native.count read.dtype read.count) notice e

notice_on-on : (w : Gateway) (read : WaitingRead) (channel : Option Channel) (notice : ReadNotice) → notice_on w read channel ≡ Some notice → read_in notice ≡ read
notice_on-on w read None notice e = absurd cc
notice_on-on w read (Some c) notice e = by (may_read (rights_of w c)) _ e
  where
    by : (may : Bool) (code : ℕ) → cond may (answered_over w read (connected w c.real)) (Some (Refused read code)) ≡ Some notice → read_in notice ≡ read
    by true code e = answered_over-on w read (connected w c.real) notice e
    by false code e = let same : Refused read code ≡ notice = cc in ap read_in (sym same)

notice_is_on : (w : Gateway) (read : WaitingRead) (notice : ReadNotice) → read_notice w read ≡ Some notice → read_in notice ≡ read
notice_is_on w read notice e = notice_on-on w read (channel_of w read.session read.sid) notice e

same_read-itself : (a : WaitingRead) → same_read a a ≡ true
same_read-itself a =
    rw (eq-eqb a.session a.session refl, eq-eqb a.sid a.sid refl, eq-eqb a.dtype a.dtype refl, eq-eqb a.count a.count refl, eq-eqb a.ioid a.ioid refl) refl

abbrev made : ℕ → ℕ → ℕ → ℕ → ℕ → WaitingRead
made session sid dtype count ioid = record { session = session; sid = sid; dtype = dtype; count = count; ioid = ioid }

same_read-same : (a b : WaitingRead) → same_read a b ≡ true → a ≡ b
same_read-same a b e =
    let four = and_parts _ _ e in
    let three = and_parts _ _ four.0 in
    let two = and_parts _ _ three.0 in
    let one = and_parts _ _ two.0 in
    let session = eqb-true a.session b.session one.0 in
    let sid = eqb-true a.sid b.sid one.1 in
    let dtype = eqb-true a.dtype b.dtype two.1 in
    let count = eqb-true a.count b.count three.1 in
    let ioid = eqb-true a.ioid b.ioid four.1 in
    λ i. made (session i) (sid i) (dtype i) (count i) (ioid i)

-- a read without a notice isn't the one that a notice is on
differs : (w : Gateway) (quiet row : WaitingRead) (notice : ReadNotice) → read_notice w quiet ≡ None → read_notice w row ≡ Some notice → same_read (read_in notice) quiet ≡ false
differs w quiet row notice none some =
    elim (same_read (read_in notice) quiet) as (λ t. same_read (read_in notice) quiet ≡ t → t ≡ false) [
      | true ↦ λ h.
          let same : row ≡ quiet = sym (notice_is_on w row notice some) ∙ same_read-same (read_in notice) quiet h in
          let clash : Some notice ≡ None = sym some ∙ ap (read_notice w) same ∙ none in
          absurd cc
      | false ↦ λ h. refl
    ] refl

-- notices on other reads leave one that has none
kept_by_others : (w : Gateway) (quiet : WaitingRead) (rows others : List WaitingRead) → read_notice w quiet ≡ None
    → fold left_by (quiet ∷ others) (filter_map (read_notice w) rows) ≡ quiet ∷ fold left_by others (filter_map (read_notice w) rows)
kept_by_others w quiet [] others none = refl
kept_by_others w quiet (row ∷ rows) others none =
    by (read_notice w row) refl (λ left. kept_by_others w quiet rows left none)
  where
    by : (notice : Option ReadNotice) → read_notice w row ≡ notice
        → ((left : List WaitingRead) → fold left_by (quiet ∷ left) (filter_map (read_notice w) rows) ≡ quiet ∷ fold left_by left (filter_map (read_notice w) rows))
        → fold left_by (quiet ∷ others) (cons_option notice (filter_map (read_notice w) rows)) ≡ quiet ∷ fold left_by others (cons_option notice (filter_map (read_notice w) rows))
    by None is on = on others
    by (Some notice) is on =
        let step : left_by (quiet ∷ others) notice ≡ quiet ∷ left_by others notice = rw (differs w quiet row notice none is) refl in
        ap (λ (left : List WaitingRead). fold left_by left (filter_map (read_notice w) rows)) step ∙ on (left_by others notice)

-- once all notices on reads are given, none of the reads left has one
quiet_reads : (w : Gateway) (rows : List WaitingRead) → filter_map (read_notice w) (fold left_by rows (filter_map (read_notice w) rows)) ≡ []
quiet_reads w [] = refl
quiet_reads w (row ∷ rows) = by (read_notice w row) refl (quiet_reads w rows)
  where
    by : (notice : Option ReadNotice) → read_notice w row ≡ notice → filter_map (read_notice w) (fold left_by rows (filter_map (read_notice w) rows)) ≡ []
        → filter_map (read_notice w) (fold left_by (row ∷ rows) (cons_option notice (filter_map (read_notice w) rows))) ≡ []
    by None is rest = rw (kept_by_others w row rows rows is, is) rest
    by (Some notice) is rest =
        let here : same_read (read_in notice) row ≡ true = ap (λ (read : WaitingRead). same_read read row) (notice_is_on w row notice is) ∙ same_read-itself row in
        let step : left_by (row ∷ rows) notice ≡ rows = rw here refl in
        ap (λ (left : List WaitingRead). filter_map (read_notice w) (fold left_by left (filter_map (read_notice w) rows))) step ∙ rest

-- after the pass no waiting read is owed an answer
pub reads_settled : (w : Gateway) → read_notices (reads_told w) ≡ []
reads_settled w = ap read_notices (reads_changed (read_notices w) w) ∙ quiet_reads w w.clients.reads

-- the pass leaves what is owed to channels and links
pub reads_keep_channels : (w : Gateway) → channel_notices (reads_told w) ≡ channel_notices w
reads_keep_channels w = ap channel_notices (reads_changed (read_notices w) w)

pub reads_keep_links : (w : Gateway) → link_notices (reads_told w) ≡ link_notices w
reads_keep_links w = ap link_notices (reads_changed (read_notices w) w)

-- and no update is withheld otherwise
pub reads_keep_withheld : (w : Gateway) → withheld (reads_told w) ≡ withheld w
reads_keep_withheld w = ap withheld (reads_changed (read_notices w) w)
