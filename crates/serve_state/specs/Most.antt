-- How much may wait for a client, and which connections are shut from outside.
use Rattle.std.specs.Prelude.{ℕ, ◌*◌, ◌^◌, ◌==◌, nat_lt, if◌then◌else◌, List, Bool, true, false, Option, Some, None, option_and_then}
use Rattle.decimal_text.specs.Numbers.{number_of}
use Rattle.gateway_state.specs.declared.event.Dest.{Dest}
use Rattle.gateway_state.specs.declared.event.Dest.TheVariants.{Session, Upstream}
use Rattle.serve_state.specs.declared.most.MostWaiting.{MostWaiting}
use Rattle.serve_state.specs.declared.cut.Cut.{Cut}
use Rattle.serve_state.specs.declared.cut.Cut.TheVariants.{TooSlow, TooMuch}

-- a number of MiB that isn't 0
abbrev pub some_mib : ℕ → Option MostWaiting
some_mib n = if n == 0 then None else Some (record { mib = n })

-- the number of MiB that decimal digits write
abbrev pub most_of : List ℕ → Option MostWaiting
most_of digits = option_and_then some_mib (number_of 32 digits)

-- so many bytes are more than may wait
abbrev pub is_passed : MostWaiting → ℕ → Bool
is_passed most bytes = nat_lt (most.mib * 2 ^ 20) bytes

-- why a connection is shut, by whether it must end, how many bytes wait for it, and how many messages may. A server's bytes
-- may be as many as they are
abbrev pub why_shut : MostWaiting → Dest → Bool → ℕ → ℕ → Option Cut
why_shut most dest true bytes messages = Some (TooSlow messages)
why_shut most (Session n) false bytes messages = if is_passed most bytes then Some (TooMuch most.mib) else None
why_shut most (Upstream n) false bytes messages = None
