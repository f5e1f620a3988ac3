-- How many clients, servers and remembered names there may be.
use Rattle.std.specs.Prelude.{ℕ, ◌/◌, ◌&&◌, nat_le, min, max, if◌then◌else◌, List, Bool, Option, Some, None, option_and_then, true}
use Rattle.decimal_text.specs.Numbers.{number_of}
use Rattle.gateway_state.specs.Gateway.{usual_limits}
use Rattle.gateway_state.specs.declared.limits.Limits.{Limits}
use Rattle.serve_state.specs.declared.scale.Scale.{Scale}

-- a number from 1 to so many
abbrev pub within : ℕ → ℕ → Option ℕ
within most n = if nat_le 1 n && nat_le n most then Some n else None

-- the number that decimal digits write, from 1 to so many
abbrev pub up_to : ℕ → List ℕ → Option ℕ
up_to most digits = option_and_then (within most) (number_of 32 digits)

-- a host's share of so many names is a sixteenth, but 256 at least
abbrev pub share_of : ℕ → ℕ
share_of names = max (names / 16) 256

-- so many names are remembered, and old ones go for new ones; or what is usual
abbrev pub with_names : Option ℕ → Limits → Limits
with_names None limits = limits
with_names (Some names) limits = record limits { searches = names; share = share_of names; makes_room = true }

-- on a site there are 262,144 links, 65,536 channels and as many subscriptions of a client, 8,192 reads and as many writes of it
-- that wait, 262,144 messages that wait for it, and updates while less than 256 KiB waits; requests on what is gone are passed over, numbers come again, who
-- may not read is told so, and searches on connections are answered
abbrev pub site_limits : Limits
site_limits = record usual_limits {
  links = 262144;
  channels = 65536;
  subs = 65536;
  reads = 8192;
  writes = 8192;
  messages = 262144;
  update_bytes = 262144;
  passes_over_gone = true;
  reuses_numbers = true;
  tells_unreadable = true;
  answers_searches = true;
}

-- what of it is said by no number
abbrev pub limits_for : Bool → Limits
limits_for site = if site then site_limits else usual_limits

-- what the gateway takes on
abbrev pub limits_of : Scale → Limits
limits_of scale = with_names scale.names (record (limits_for scale.site) {
  sessions = scale.clients;
  servers = scale.servers;
  checks_hosts = scale.checks_hosts;
})
