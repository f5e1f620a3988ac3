-- That a channel may be read no longer is told, and nothing else changes.
use Rattle.std.proofs.Common.{◌≡◌, ℕ, List, [], ◌∷◌, Bool, true, false, refl}
use Rattle.std.specs.Prelude.{filter}
use Rattle.std.specs.List.{fold}
use Rattle.named_rows.specs.declared.subs.ClientSub.{ClientSub}
use Rattle.named_rows.specs.Subs.{is_sub_on}
use Rattle.gateway_state.specs.Gateway.{Gateway}
use Rattle.gateway_state.specs.Notices.{reading_ended}
use Rattle.gateway_state.specs.Subscribing.{unreadable_told}
use Rattle.gateway_state.specs.Telling.{sent}

all_told_shape : (subs : List ClientSub) (w : Gateway) → fold unreadable_told w subs ≡ record w { connections = (fold unreadable_told w subs).connections }
unfolding sent
all_told_shape [] w = refl
all_told_shape (sub ∷ subs) w = all_told_shape subs (unreadable_told w sub)

-- outboxes alone change
pub reading_ended_shape : (session sid : ℕ) (ends : Bool) (w : Gateway) → reading_ended session sid ends w ≡ record w { connections = (reading_ended session sid ends w).connections }
reading_ended_shape session sid false w = refl
reading_ended_shape session sid true w = all_told_shape (filter (is_sub_on session sid) w.clients.subs) w
