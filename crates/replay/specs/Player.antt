-- What a player of scripts knows.
use Rattle.std.specs.Prelude.{◌≡◌, ℕ, Bool, List, [], Option, option_map}
use Rattle.std.specs.BTreeMap.{is_at}
use Rattle.std.specs.Map.{keys_of}
use Rattle.std.specs.Ordering.{nat_cmp}
use Rattle.std.specs.declared.cmp.Ordering.{Ordering}
use Rattle.std.specs.declared.cmp.Ordering.TheVariants.{Less, Greater}
use Rattle.gateway_state.specs.Gateway.{Gateway}
use Rattle.gateway_state.specs.Step.{step}
use Rattle.gateway_state.specs.declared.event.Dest.{Dest}
use Rattle.gateway_state.specs.declared.event.Dest.TheVariants.{Session, Upstream}
use Rattle.gateway_state.specs.declared.event.Event.{Event}
use Rattle.gateway_state.specs.declared.event.Event.TheVariants.{Limit}
use Rattle.replay_text.specs.Limits.{with_limit}
use Rattle.replay_text.specs.declared.limit.NewLimit.{NewLimit}
use Rattle.replay.specs.declared.player.Player.{Player}

-- the order of connections: clients before servers, each by their numbers
abbrev pub dest_cmp : Dest → Dest → Ordering
dest_cmp (Session a) (Session b) = nat_cmp a b
dest_cmp (Session a) (Upstream b) = Less
dest_cmp (Upstream a) (Session b) = Greater
dest_cmp (Upstream a) (Upstream b) = nat_cmp a b

-- whether it is this connection
abbrev pub is_dest : Dest → Dest → Bool
is_dest dest = is_at (dest_cmp dest)

-- the gateway; the connections that stand, with the bytes that came from each and are no whole message yet; and the
-- connections whose messages are kept back: both in the order of connections
pub record Playing : Type 0 where
  pub gateway : Gateway
  pub intakes : List (Dest × List ℕ)
  pub held : List Dest

-- the connections that stand
abbrev pub standing : Playing → List Dest
standing p = keys_of p.intakes

-- on a gateway nothing was played yet
abbrev pub beginning : Gateway → Playing
beginning w = record { gateway = w; intakes = []; held = [] }

abbrev pub playing_at : Option Gateway → List (Dest × List ℕ) → List Dest → Option Playing
playing_at gateway intakes held = option_map (λ w. record { gateway = w; intakes = intakes; held = held }) gateway

-- what a player knows, where its gateway has not failed
abbrev pub playing : {G : Type 0} → (G → Option Gateway) → Player G → Option Playing
playing state player = playing_at (state player.gate) player.intakes.entries player.held.keys

-- an event happens to its gateway
abbrev pub stepped : Event → Playing → Playing
stepped event p = record p { gateway = step p.gateway event }

-- one of the limits that hold is another one
abbrev pub relimited : NewLimit → Playing → Playing
relimited limit p = stepped (Limit (with_limit limit p.gateway.limits)) p

-- something happens to its gateway alone
abbrev pub OnGateway : (Gateway → Gateway → List ℕ → Type 0) → Playing → Playing → List ℕ → Type 0
OnGateway does old new text = does old.gateway new.gateway text × (new ≡ record old { gateway = new.gateway })
