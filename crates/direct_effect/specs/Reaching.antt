-- Whether a channel reaches so far.
use Rattle.std.specs.Prelude.{◌≡◌, ℕ}
use Rattle.rows.specs.Rows.{change_first}
use Rattle.named_rows.specs.declared.channels.Reach.{Reach}
use Rattle.named_rows.specs.Channels.{is_channel, with_reach_and_rights}
use Rattle.gateway_state.specs.Gateway.{Gateway}

-- to give the channel this reach and these rights would change nothing
abbrev pub HasReach : ℕ → ℕ → Reach → ℕ → Gateway → Type 0
HasReach session sid reach rights w =
    change_first (is_channel session sid) (with_reach_and_rights reach rights) w.clients.channels ≡ w.clients.channels
