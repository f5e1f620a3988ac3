-- When it is told how often a limit was met. Time is counted in looks, of which there are four a second.
use Rattle.std.specs.Prelude.{◌≡◌, ℕ, zero, suc, ◌+◌, ◌-◌, ◌≤◌, ◌^◌, min, nat_lt, if◌then◌else◌, List, [], ◌∷◌, length, Option, Some, None, Bool}
use Rattle.gateway_state.specs.declared.limits.Limits.{Limits}
use Rattle.gateway_state.specs.declared.limits_met.Fullest.{Fullest}
use Rattle.gateway_state.specs.declared.limits_met.LimitsMet.{LimitsMet}
use Rattle.gateway_state.specs.declared.row_counts.RowCounts.{RowCounts}
use Rattle.serve_state.specs.declared.limits.Limit.{Limit}
use Rattle.serve_state.specs.declared.limits.Limit.TheVariants.{Names, Channels, Subscriptions, Reads, Writes, Links, Clients, Held, Full}

-- how much there may be, where these limits hold
abbrev pub most_under : Limit → Limits → ℕ
most_under Names limits = limits.searches
most_under Channels limits = limits.channels
most_under Subscriptions limits = limits.subs
most_under Reads limits = limits.reads
most_under Writes limits = limits.writes
most_under Links limits = limits.links
most_under Clients limits = limits.sessions
most_under Held limits = 4096
most_under Full limits = 16384

-- how often it was met; the server itself refuses clients too
abbrev pub met_of : Limit → LimitsMet → ℕ → ℕ
met_of Names met refused = met.names
met_of Channels met refused = met.channels
met_of Subscriptions met refused = met.subs
met_of Reads met refused = met.reads
met_of Writes met refused = met.writes
met_of Links met refused = met.links
met_of Clients met refused = min (met.sessions + refused) (2 ^ 64 - 1)
met_of Held met refused = met.held
met_of Full met refused = met.full

-- how much there is now: of all rows, or of whom has most
abbrev pub used_of : Limit → RowCounts → Fullest → ℕ
used_of Names rows fullest = rows.searches
used_of Channels rows fullest = fullest.channels
used_of Subscriptions rows fullest = fullest.subs
used_of Reads rows fullest = fullest.reads
used_of Writes rows fullest = fullest.writes
used_of Links rows fullest = rows.links
used_of Clients rows fullest = rows.sessions
used_of Held rows fullest = fullest.messages
used_of Full rows fullest = fullest.messages

-- how often the limit was met when that was last told, and at how many looks nothing is told
pub record WatchState : Type 0 where
  pub told : ℕ
  pub rest : ℕ

abbrev pub unwatched : WatchState
unwatched = record { told = 0; rest = 0 }

-- at a look with this count it is told: nothing is to rest, and it was met since
abbrev pub tells : ℕ → WatchState → Bool
tells met watch = if nat_lt 0 watch.rest then Bool.false else nat_lt watch.told met

-- how often it was met since it was last told, where that is told now
abbrev pub told_now : ℕ → WatchState → Option ℕ
told_now met watch = if tells met watch then Some (met - watch.told) else None

-- what is told rests for 240 looks, which are a minute
abbrev pub after_look : ℕ → WatchState → WatchState
after_look met watch = if tells met watch then record { told = met; rest = 240 } else record watch { rest = watch.rest - 1 }

-- after looks with these counts, the first one first
abbrev pub after_looks : List ℕ → WatchState → WatchState
after_looks [] watch = watch
after_looks (met ∷ counts) watch = after_looks counts (after_look met watch)

-- how often it was met, by all that is told at these looks
abbrev pub told_in : List ℕ → WatchState → ℕ
told_in [] watch = 0
told_in (met ∷ counts) watch = (if tells met watch then met - watch.told else 0) + told_in counts (after_look met watch)

-- after a look that told nothing is told at up to 240 others
abbrev pub IsSilentFor : ℕ → WatchState → List ℕ → Type 0
IsSilentFor met watch counts = tells met watch ≡ Bool.true → length counts ≤ 240 → told_in counts (after_look met watch) ≡ 0

-- all that is told is what came between the counts that were told first and last
abbrev pub IsToldOnce : List ℕ → WatchState → Type 0
IsToldOnce counts watch = watch.told + told_in counts watch ≡ (after_looks counts watch).told
