-- Telling reads leaves a variable the subscriptions that it had.
use Rattle.std.proofs.Common.{◌≡◌, ℕ, List, [], ◌∷◌, filter, length, refl, ap, ◌∙◌}
use Rattle.std.specs.Prelude.{fold}
use Rattle.named_rows.specs.declared.subs.ClientSub.{ClientSub}
use Rattle.gateway_rows.specs.Own.{subs_on}
use Rattle.gateway_state.specs.declared.notice.ReadNotice.{ReadNotice}
use Rattle.gateway_state.specs.declared.notice.ReadNotice.TheVariants.{Answered, Refused}
use Rattle.gateway_state.specs.Gateway.{Gateway}
use Rattle.gateway_state.specs.Notices.{read_told}
use Rattle.gateway_state.specs.Telling.{sent}
use Rattle.gateway_state.specs.Updates.{is_sub_to}
use Rattle.touched_rows.specs.Touched.{read_notices_on, reads_told_on}

abbrev subs_to : Gateway → List ℕ → List ClientSub
subs_to w name = filter (is_sub_to w name) w.clients.subs

after_one : (w : Gateway) (notice : ReadNotice) (name : List ℕ) → subs_to (read_told w notice) name ≡ subs_to w name
unfolding sent
after_one w (Refused read code) name = refl
after_one w (Answered read count value) name = refl

after_each : (notices : List ReadNotice) (w : Gateway) (name : List ℕ) → subs_to (fold read_told w notices) name ≡ subs_to w name
after_each [] w name = refl
after_each (notice ∷ notices) w name = after_each notices (read_told w notice) name ∙ after_one w notice name

pub list_after_reads : (name : List ℕ) (w : Gateway) → filter (is_sub_to (reads_told_on name w) name) (reads_told_on name w).clients.subs ≡ filter (is_sub_to w name) w.clients.subs
list_after_reads name w = after_each (read_notices_on name w) w name

pub subs_after_reads : (name : List ℕ) (w : Gateway) → subs_on (reads_told_on name w) name ≡ subs_on w name
subs_after_reads name w = ap length (list_after_reads name w)
