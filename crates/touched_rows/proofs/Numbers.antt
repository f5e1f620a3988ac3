-- What is told of reads and subscriptions takes no number back.
use Rattle.std.proofs.Common.{◌≡◌, ℕ, List, true, Option, Some, None}
use Rattle.named_rows.specs.declared.reads.WaitingRead.{WaitingRead}
use Rattle.named_rows.specs.declared.subs.ClientSub.{ClientSub}
use Rattle.gateway_state.specs.declared.notice.ReadNotice.{ReadNotice}
use Rattle.gateway_state.specs.declared.notice.UpdateNotice.{UpdateNotice}
use Rattle.gateway_state.specs.Gateway.{Gateway}
use Rattle.gateway_state.specs.Notices.{read_notice}
use Rattle.gateway_state.specs.Numbers.{is_past_numbers}
use Rattle.gateway_state.specs.Updates.{update_notice}
use Rattle.gateway_state.proofs.NumberLemmas.{all_reads_past, all_updates_past, read_told_past, update_told_past}
use Rattle.touched_rows.specs.Touched.{link_told_on, one_read_told, one_update_told, read_notices_on, read_told_if, reads_told_on, update_notices_on, update_told_if, updates_told_on}

read_past : (notice : Option ReadNotice) (w : Gateway) → is_past_numbers w ≡ true → is_past_numbers (read_told_if notice w) ≡ true
read_past None w e = e
read_past (Some notice) w e = read_told_past w notice e

pub read_follows_past : (read : WaitingRead) (w : Gateway) → is_past_numbers w ≡ true → is_past_numbers (one_read_told read w) ≡ true
read_follows_past read w e = read_past (read_notice w read) w e

update_past : (notice : Option UpdateNotice) (w : Gateway) → is_past_numbers w ≡ true → is_past_numbers (update_told_if notice w) ≡ true
update_past None w e = e
update_past (Some notice) w e = update_told_past w notice e

pub update_follows_past : (sub : ClientSub) (w : Gateway) → is_past_numbers w ≡ true → is_past_numbers (one_update_told sub w) ≡ true
update_follows_past sub w e = update_past (update_notice w sub) w e

-- nor does anything that follows the telling of a variable's link
pub variable_follows_past : (name : List ℕ) (w : Gateway) → is_past_numbers (link_told_on name w) ≡ true
    → is_past_numbers (updates_told_on name (reads_told_on name (link_told_on name w))) ≡ true
variable_follows_past name w e =
    let linked : Gateway = link_told_on name w in
    let read : Gateway = reads_told_on name linked in
    all_updates_past read (update_notices_on name read) (all_reads_past linked (read_notices_on name linked) e)
