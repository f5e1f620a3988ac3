-- Reads that wait: those on a channel, those for a name, and those that are equal.
use Rattle.std.proofs.Common.{◌≡◌, ℕ, List, Bool, true, false, not, ◌&&◌, ◌==◌, Some, map, length, bytes_eq, refl, sym, ap, ◌∙◌, true≢false}
use Rattle.std.specs.Cmp.{nat_eq_equiv}
use Rattle.std.specs.List.{filter, find, list_any, slice_get}
use Rattle.std.specs.Option.{option_map}
use Rattle.std.proofs.lemmas.Bool.{eqb-true}
use Rattle.std.proofs.lemmas.List.{length-map}
use Rattle.std.proofs.lemmas.Option.{slice_get-map}
use Rattle.rows.specs.Rows.{remove_first}
use Rattle.row_index.specs.Lists.{of}
use Rattle.named_rows.specs.declared.channels.Channel.{Channel}
use Rattle.named_rows.specs.declared.reads.KeptRead.{KeptRead}
use Rattle.named_rows.specs.declared.reads.WaitingRead.{WaitingRead}
use Rattle.named_rows.specs.Channels.{is_channel, is_channel_on}
use Rattle.named_rows.specs.Reads.{is_not_read_on, is_read_of, same_read}
use Rattle.named_rows.specs.Indexes.{FollowReads, IsApart, ReadRows, is_kept_like, is_kept_on, is_not_kept, is_owned, leads, read_home, read_in, read_key, reads_in, row_at, rows_at}
use Rattle.named_rows.proofs.Following.{bare_without}
use Rattle.named_rows.proofs.Keyed.{first_goes}
use Rattle.named_rows.proofs.Listed.{nth_listed, rows_listed}
use Rattle.named_rows.proofs.Lists.{any_so, found_passes, there_where_found}
use Rattle.named_rows.proofs.Mapped.{any_mapped, filter_mapped, remove_first_mapped}

-- the nth row of a session has its nth read
pub nth_of_session : (session n : ℕ) (reads : ReadRows) → option_map read_in (slice_get (filter (is_owned read_key session) reads.rows) n) ≡ slice_get (filter (is_read_of session) (reads_in reads)) n
nth_of_session session n reads =
    sym (slice_get-map read_in (filter (λ (row : KeptRead). is_read_of session row.read) reads.rows) n)
    ∙ ap (λ rows. slice_get rows n) (sym (filter_mapped read_in (is_read_of session) reads.rows))

-- the read's channel stands, and is on this real name
abbrev pub waits : List Channel → List ℕ → WaitingRead → Bool
waits channels name read = is_channel_on name (find (is_channel read.session read.sid) channels)

module _ (channels : List Channel) (reads : ReadRows) (name : List ℕ) where
  waiting_for : map read_in (filter (leads read_home channels name) reads.rows) ≡ filter (waits channels name) (reads_in reads)
  waiting_for = sym (filter_mapped read_in (waits channels name) reads.rows)

  -- as many keys are under a name as reads wait for it
  pub count_waiting : FollowReads channels reads → length (of reads.on name) ≡ length (filter (waits channels name) (reads_in reads))
  count_waiting follow =
      ap length (follow.listed name) ∙ length-map (filter (leads read_home channels name) reads.rows) read_key
      ∙ sym (length-map (filter (leads read_home channels name) reads.rows) read_in) ∙ ap length waiting_for

  -- the nth of them finds the nth of these
  pub nth_waiting : (n : ℕ) → IsApart read_key reads.rows → FollowReads channels reads → option_map read_in (row_at read_key reads.rows (slice_get (of reads.on name) n)) ≡ slice_get (filter (waits channels name) (reads_in reads)) n
  nth_waiting n apart follow =
      ap (option_map read_in) (nth_listed bytes_eq read_key (leads read_home channels) reads.rows reads.on name n apart follow.listed)
      ∙ sym (slice_get-map read_in (filter (leads read_home channels name) reads.rows) n) ∙ ap (λ rows. slice_get rows n) waiting_for

  -- and all of them find all
  pub all_waiting : IsApart read_key reads.rows → FollowReads channels reads → map read_in (rows_at read_key reads.rows (of reads.on name)) ≡ filter (waits channels name) (reads_in reads)
  all_waiting apart follow =
      ap (map read_in) (rows_listed bytes_eq read_key (leads read_home channels) reads.rows reads.on name apart follow.listed) ∙ waiting_for

pub first_of_both : (a b : Bool) → (a && b) ≡ true → a ≡ true
first_of_both true b e = refl
first_of_both false b e = absurd (true≢false (sym e))

pub second_of_both : (a b : Bool) → (a && b) ≡ true → b ≡ true
second_of_both true b e = e
second_of_both false b e = absurd (true≢false (sym e))

first_two : (a b c d e : Bool) → (a && b && c && d && e) ≡ true → (a && b) ≡ true
first_two true true c d e h = refl
first_two true false c d e h = absurd (true≢false (sym h))
first_two false b c d e h = absurd (true≢false (sym h))

-- equal reads have the same IDs
pub like_ids : {B : Type 0} (w : ℕ → ℕ → B) (a b : WaitingRead) → same_read a b ≡ true → w b.session b.sid ≡ w a.session a.sid
like_ids w a b e =
    let both = first_two (a.session == b.session) (a.sid == b.sid) (a.dtype == b.dtype) (a.count == b.count) (a.ioid == b.ioid) e in
    let session = eqb-true a.session b.session (first_of_both (a.session == b.session) (a.sid == b.sid) both) in
    let sid = eqb-true a.sid b.sid (second_of_both (a.session == b.session) (a.sid == b.sid) both) in
    sym (λ i. w (session i) (sid i))

-- a read is equal to itself
pub like_itself : (a : WaitingRead) → same_read a a ≡ true
like_itself a = rw (nat_eq_equiv.refl a.session, nat_eq_equiv.refl a.sid, nat_eq_equiv.refl a.dtype, nat_eq_equiv.refl a.count, nat_eq_equiv.refl a.ioid) refl

-- an equal read names the same channel's ID
pub like_named : (read : WaitingRead) (row : KeptRead) → is_kept_like read row ≡ true → row.read.sid == read.sid ≡ true
like_named read row e = like_ids (λ session sid. sid == read.sid) read row.read e ∙ nat_eq_equiv.refl read.sid

-- and is on the same channel
pub like_on : (read : WaitingRead) (row : KeptRead) → is_kept_like read row ≡ true → is_kept_on read.session read.sid row ≡ true
like_on read row e =
    like_ids (λ session sid. session == read.session && sid == read.sid) read row.read e ∙ rw (nat_eq_equiv.refl read.session, nat_eq_equiv.refl read.sid) refl

-- where its channel doesn't stand, no equal read waits
pub none_like : (channels : List Channel) (reads : ReadRows) (read : WaitingRead) → list_any (is_channel read.session read.sid) channels ≡ false → FollowReads channels reads → list_any (same_read read) (reads_in reads) ≡ false
none_like channels reads read gone follow =
    any_mapped read_in (same_read read) reads.rows
    ∙ elim (list_any (is_kept_like read) reads.rows) as (λ t. list_any (is_kept_like read) reads.rows ≡ t → t ≡ false) [
      | true ↦ λ e. absurd (true≢false (sym (any_so (is_kept_like read) (is_kept_on read.session read.sid) (like_on read) reads.rows e) ∙ bare_without read_key read_home channels reads.rows reads.on read.session read.sid gone follow))
      | false ↦ λ _. refl
    ] refl

-- without the first equal read
pub first_like_goes : (old new : ReadRows) (read : WaitingRead) (row : KeptRead) → IsApart read_key old.rows → find (is_kept_like read) old.rows ≡ Some row → new.rows ≡ filter (is_not_kept (read_key row)) old.rows → reads_in new ≡ remove_first (same_read read) (reads_in old)
first_like_goes old new read row apart found is =
    ap (map read_in) (is ∙ first_goes read_key (is_kept_like read) old.rows row apart found) ∙ sym (remove_first_mapped read_in (same_read read) old.rows)

-- the first read on a channel is equal to one that waits
pub first_on_waits : (reads : ReadRows) (session sid : ℕ) (row : KeptRead) → find (is_kept_on session sid) reads.rows ≡ Some row → list_any (same_read row.read) (reads_in reads) ≡ true
first_on_waits reads session sid row found =
    any_mapped read_in (same_read row.read) reads.rows ∙ there_where_found (is_kept_on session sid) (is_kept_like row.read) reads.rows row found (like_itself row.read)

-- a read that is equal to one on a channel is on no other
pub like_stays : (session sid : ℕ) (rows : List KeptRead) (row : KeptRead) → find (is_kept_on session sid) rows ≡ Some row → (read : WaitingRead) → same_read row.read read ≡ true → is_not_read_on session sid read ≡ false
like_stays session sid rows row found read e =
    like_ids (λ a b. not (a == session && b == sid)) row.read read e ∙ ap not (found_passes (is_kept_on session sid) rows row found)
