-- How a replay begins.
use Rattle.std.specs.Prelude.{ℕ, codes}
use Rattle.gateway_state.specs.Gateway.{Gateway, initial}
use Rattle.gateway_state.specs.declared.config.Config.{Config}
use Rattle.rule_desk.specs.Policy.{open_policy}

-- what the gateway is told: its names, its port, and the number that its numbers begin with
abbrev pub config_from : ℕ → Config
config_from first = record { client_name = codes "pvgate"; host_name = codes "gw"; port = 5064; first = first }

-- nothing happened yet, and every name is admitted
abbrev pub beginning_from : ℕ → Gateway
beginning_from first = initial (config_from first) open_policy

-- where nothing else is said, numbers begin with 1
abbrev pub beginning : Gateway
beginning = beginning_from 1
