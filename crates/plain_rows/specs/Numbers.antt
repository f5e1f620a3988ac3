-- The numbers that rows have, of each kind.
use Rattle.std.specs.Prelude.{ℕ, List, Bool}
use Rattle.channel_table.specs.ClientRows.{has_channel}
use Rattle.link_table.specs.declared.counter.Counter.{Counter}
use Rattle.link_table.specs.declared.counter.Counter.TheVariants.{Sid, Cid, Subscription, Write}
use Rattle.link_table.specs.Counters.{began_again, counter_of, next_number}
use Rattle.link_table.specs.Numbers.{is_had, numbers_had}
use Rattle.gateway_state.specs.Clients.{sids_of}
use Rattle.gateway_state.specs.Gateway.{Gateway}

-- whether a row has the number: a channel of this session, any link, or a subscription or a write to this server
abbrev pub is_taken : Counter → ℕ → Gateway → ℕ → Bool
is_taken Sid owner w number = has_channel owner number w.clients
is_taken Cid owner w number = is_had Cid owner w.upstream number
is_taken Subscription owner w number = is_had Subscription owner w.upstream number
is_taken Write owner w number = is_had Write owner w.upstream number

-- the numbers that rows have
abbrev pub taken : Counter → ℕ → Gateway → List ℕ
taken Sid owner w = sids_of owner w
taken Cid owner w = numbers_had Cid owner w.upstream
taken Subscription owner w = numbers_had Subscription owner w.upstream
taken Write owner w = numbers_had Write owner w.upstream

-- the number of the next row of a kind
abbrev pub next_for : Counter → ℕ → Gateway → ℕ
next_for counter owner w =
    next_number w.limits.reuses_numbers w.config.first (began_again counter w.upstream.counters) (is_taken counter owner w) (taken counter owner w)
    (counter_of counter w.upstream.counters)
