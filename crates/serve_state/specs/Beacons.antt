-- When a server's beacons are sent, and what they say (Channel Access Protocol Specification 4.13, CA_PROTO_RSRV_IS_UP). Times are
-- milliseconds of a clock that doesn't go back.
use Rattle.std.specs.Prelude.{◌≡◌, ℕ, zero, suc, ◌+◌, ◌-◌, ◌*◌, ◌^◌, ◌%◌, ◌==◌, ◌&&◌, ◌≤◌, ◌<◌, min, if◌then◌else◌, Bool, true, false, Option, Some, None, List, [], ◌∷◌, length}
use Rattle.ca_header.specs.declared.header.Header.{Header}

-- the ID of the next beacon; when the last one was sent, and how long behind it the next one is due; whether the gaps are to begin anew,
-- and when they did last
pub record BeaconState : Type 0 where
  pub id : ℕ
  pub last : ℕ
  pub gap : ℕ
  pub wanted : Bool
  pub anew : Option ℕ

-- none was sent: the first one is due at once
abbrev pub unsent : BeaconState
unsent = record { id = 0; last = 0; gap = 0; wanted = false; anew = None }

-- behind the first one there are 20 milliseconds, and behind each other one twice as many as before it, up to 15 seconds
abbrev pub longer : ℕ → ℕ
longer gap = if gap == 0 then 20 else min (2 * gap) 15000

-- so long the next one isn't due
abbrev pub gap_left : ℕ → BeaconState → ℕ
gap_left now beacon = beacon.gap - (now - beacon.last)

abbrev pub is_due : ℕ → BeaconState → Bool
is_due now beacon = gap_left now beacon == 0

abbrev pub sent : ℕ → BeaconState → BeaconState
sent now beacon = record beacon { id = (beacon.id + 1) % 4294967296; last = now; gap = longer beacon.gap }

-- a server came back
abbrev pub wanting : BeaconState → BeaconState
wanting beacon = record beacon { wanted = true }

-- so long the gaps don't begin anew, which they do at most once a minute
abbrev pub minute_left : ℕ → Option ℕ → ℕ
minute_left now None = 0
minute_left now (Some anew) = 60000 - (now - anew)

abbrev pub begins_anew : ℕ → BeaconState → Bool
begins_anew now beacon = beacon.wanted && (minute_left now beacon.anew == 0)

abbrev pub begun : ℕ → BeaconState → BeaconState
begun now beacon = if begins_anew now beacon then record beacon { gap = 0; wanted = false; anew = Some now } else beacon

-- the ID of the beacon that is sent now, if one is
abbrev pub id_at : ℕ → BeaconState → Option ℕ
id_at now beacon = if is_due now (begun now beacon) then Some beacon.id else None

abbrev pub after_look : ℕ → BeaconState → BeaconState
after_look now beacon = if is_due now (begun now beacon) then sent now (begun now beacon) else begun now beacon

-- so long nothing is to be done
abbrev pub wait_of : ℕ → BeaconState → ℕ
wait_of now beacon = if beacon.wanted then min (gap_left now beacon) (minute_left now beacon.anew) else gap_left now beacon

-- a beacon: command 13, the minor version 13, the port at which the server takes connections, and the ID; the address, which is 0, is put
-- in by whoever hears it
abbrev pub beacon_of : ℕ → ℕ → Header
beacon_of port id = record { command = 13; dtype = 13; p1 = id; p2 = 0; count = port; size = 0 }

-- ---- what follows

-- the beacons that are sent at these times, the last one first, where no server comes back
abbrev pub after_sent : List ℕ → BeaconState
after_sent [] = unsent
after_sent (now ∷ times) = sent now (after_sent times)

-- how long behind the beacon of this number the next one is due, the first one's being 1
abbrev pub gap_behind : ℕ → ℕ
gap_behind zero = 0
gap_behind (suc n) = min (20 * 2 ^ n) 15000

-- beacons are counted by their IDs, and the gaps double from 20 milliseconds up to 15 seconds
pub record AreCounted (times : List ℕ) : Type 0 where
  pub ids : (after_sent times).id ≡ length times % 4294967296
  pub gaps : (after_sent times).gap ≡ gap_behind (length times)

-- where a server comes back the gaps begin anew once they didn't for a minute
abbrev pub IsAnew : Type 0
IsAnew = (beacon : BeaconState) (anew now : ℕ) → beacon.anew ≡ Some anew → anew + 60000 ≤ now → begins_anew now (wanting beacon) ≡ true

-- and never before, however many come back
abbrev pub AreAnewApart : Type 0
AreAnewApart = (beacon : BeaconState) (anew now : ℕ) → beacon.anew ≡ Some anew → now < anew + 60000 → begins_anew now beacon ≡ false
