-- What is forgotten and given up as time passes.
use Rattle.std.specs.Prelude.{ℕ, map, filter, Bool, false, not, ◌&&◌, ◌||◌, nat_le, nat_lt, is_some, if◌then◌else◌, Option, Some, None}
use Rattle.std.specs.List.{fold}
use Rattle.link_table.specs.declared.links.LinkRow.{LinkRow}
use Rattle.link_table.specs.declared.links.Subject.TheVariants.{Properties}
use Rattle.link_table.specs.declared.links.Subscription.{Subscription}
use Rattle.link_table.specs.Links.{sub_at}
use Rattle.gateway_state.specs.Answer.{native_in}
use Rattle.gateway_state.specs.Gateway.{Gateway}
use Rattle.gateway_state.specs.Searches.{grown_stale, is_fresh}
use Rattle.gateway_state.specs.Servers.{fails_without, reads_failed, without_link}
use Rattle.gateway_state.specs.Updates.{held_by}
use Rattle.gateway_state.specs.Variables.{is_connected, is_creating}

-- CHANNELS that servers were asked for

-- a number that a row has was given out before the last age, at which this one was the next: it isn't one of those
-- from that one on to the present next one, which may stand behind the last number and go on at the first
abbrev pub is_older : ℕ → ℕ → ℕ → Bool
is_older before next number =
    if nat_le before next then nat_lt number before || nat_le next number
    else nat_le next number && nat_lt number before

-- the server was asked for the channel before the last age, and hasn't answered
abbrev pub is_link_overdue : Gateway → LinkRow → Bool
is_link_overdue w link = is_creating link.state && is_older w.last_age.cid w.upstream.counters.cid link.cid

abbrev pub link_given_up : Gateway → LinkRow → Gateway
link_given_up w link = without_link link.server link.cid w

-- such links go, so that their names are missing again
abbrev pub links_given_up : Gateway → Gateway
links_given_up w = fold link_given_up w (filter (is_link_overdue w) w.upstream.links)

-- PROPERTIES that servers were asked for

-- they were asked for before the last age
abbrev pub is_asked_before : Gateway → Option Subscription → Bool
is_asked_before w None = false
is_asked_before w (Some sub) = is_older w.last_age.subscription w.upstream.counters.subscription sub.id

-- and weren't told
abbrev pub are_properties_overdue : Gateway → LinkRow → Bool
are_properties_overdue w link =
    is_connected link.state
    && is_asked_before w (sub_at Properties link.subscriptions)
    && not (is_some (held_by w link.cid).properties)

-- the reads that wait for the properties of a link's variable can't be had
abbrev pub properties_given_up_on : Gateway → LinkRow → Gateway
properties_given_up_on w link = reads_failed (fails_without Properties (native_in link.state)) w link.name

abbrev pub properties_given_up : Gateway → Gateway
properties_given_up w = fold properties_given_up_on w (filter (are_properties_overdue w) w.upstream.links)

-- SEARCHES

-- those that weren't made again since the last age are forgotten
abbrev pub searches_forgotten : Gateway → Gateway
searches_forgotten w = record w { searches = map grown_stale (filter is_fresh w.searches) }

-- what stands now stood at this age
abbrev pub age_told : Gateway → Gateway
age_told w = record w {
  last_age = record { cid = w.upstream.counters.cid; subscription = w.upstream.counters.subscription };
}

-- time passed
abbrev pub aged : Gateway → Gateway
aged w = searches_forgotten (age_told (links_given_up (properties_given_up w)))
