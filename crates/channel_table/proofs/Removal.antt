-- A channel or a session removed with what hangs on it, one row after the other.
use Rattle.std.proofs.Common.{◌≡◌, ℕ, ◌<◌, List, Bool, true, false, not, ◌&&◌, ◌==◌, Some, length, slice_get, refl, sym, ◌∙◌}
use Rattle.std.specs.Cmp.{nat_eq_equiv}
use Rattle.std.specs.List.{filter, list_any}
use Rattle.named_rows.specs.declared.channels.Channel.{Channel}
use Rattle.named_rows.specs.declared.reads.WaitingRead.{WaitingRead}
use Rattle.named_rows.specs.declared.subs.ClientSub.{ClientSub}
use Rattle.channel_table.specs.ClientRows.{ClientRows}
use Rattle.named_rows.specs.Channels.{is_channel, is_not_channel, is_channel_of, is_not_channel_of}
use Rattle.named_rows.specs.Reads.{is_not_read_of, is_not_read_on, is_read_on}
use Rattle.named_rows.specs.Subs.{is_sub_on, is_not_sub_of, is_not_sub_on}
use Rattle.named_rows.proofs.Lists.{filter_among, nth_is_there, nth_passes, none_dropped, one_fewer_left}

-- with a channel's subscriptions gone one by one, those on others are left
pub subs_gone : (session sid : ℕ) (old some left : ClientRows)
    → some ≡ record old { subs = some.subs } → filter (is_not_sub_on session sid) some.subs ≡ filter (is_not_sub_on session sid) old.subs
    → left ≡ record some { subs = left.subs } → filter (is_not_sub_on session sid) left.subs ≡ filter (is_not_sub_on session sid) some.subs
    → list_any (is_sub_on session sid) left.subs ≡ false → left ≡ record old { subs = filter (is_not_sub_on session sid) old.subs }
subs_gone session sid old some left first first_kept last last_kept none =
    let subs = sym (none_dropped (is_sub_on session sid) left.subs none) ∙ last_kept ∙ first_kept in
    last ∙ (λ i. record (first i) { subs = subs i })

-- and so its reads
pub reads_gone : (session sid : ℕ) (old some left : ClientRows)
    → some ≡ record old { reads = some.reads } → filter (is_not_read_on session sid) some.reads ≡ filter (is_not_read_on session sid) old.reads
    → left ≡ record some { reads = left.reads } → filter (is_not_read_on session sid) left.reads ≡ filter (is_not_read_on session sid) some.reads
    → list_any (is_read_on session sid) left.reads ≡ false → left ≡ record old { reads = filter (is_not_read_on session sid) old.reads }
reads_gone session sid old some left first first_kept last last_kept none =
    let reads = sym (none_dropped (is_read_on session sid) left.reads none) ∙ last_kept ∙ first_kept in
    last ∙ (λ i. record (first i) { reads = reads i })

other_both : (a b : Bool) → not a ≡ true → not (a && b) ≡ true
other_both true b e = cc
other_both false b e = refl

-- what is another session's is on no channel of this one
pub other_channels_stay : (session sid : ℕ) (channels : List Channel) → filter (is_not_channel_of session) (filter (is_not_channel session sid) channels) ≡ filter (is_not_channel_of session) channels
other_channels_stay session sid = filter_among (is_not_channel_of session) (is_not_channel session sid) (λ row h. other_both (row.session == session) (row.sid == sid) h)

pub other_subs_stay : (session sid : ℕ) (subs : List ClientSub) → filter (is_not_sub_of session) (filter (is_not_sub_on session sid) subs) ≡ filter (is_not_sub_of session) subs
other_subs_stay session sid = filter_among (is_not_sub_of session) (is_not_sub_on session sid) (λ row h. other_both (row.session == session) (row.sid == sid) h)

pub other_reads_stay : (session sid : ℕ) (reads : List WaitingRead) → filter (is_not_read_of session) (filter (is_not_read_on session sid) reads) ≡ filter (is_not_read_of session) reads
other_reads_stay session sid = filter_among (is_not_read_of session) (is_not_read_on session sid) (λ row h. other_both (row.session == session) (row.sid == sid) h)

-- without a channel of a session there are fewer
pub fewer_channels : (session : ℕ) (channels : List Channel) (n : ℕ) (channel : Channel) → slice_get (filter (is_channel_of session) channels) n ≡ Some channel → length (filter (is_not_channel session channel.sid) channels) < length channels
fewer_channels session channels n channel e =
    let its = nth_passes (is_channel_of session) channels n channel e in
    let own : is_channel session channel.sid channel ≡ true = rw (its, nat_eq_equiv.refl channel.sid) refl in
    one_fewer_left (is_channel session channel.sid) channels (nth_is_there (is_channel_of session) (is_channel session channel.sid) channels n channel e own)
