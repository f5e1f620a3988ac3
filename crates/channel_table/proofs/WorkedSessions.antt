-- The nth session by rising number, run on sessions that were added as 3, 1, 2.
use Rattle.std.proofs.Common.{◌≡◌, ℕ, List, [], ◌∷◌, codes, Some, None, false, refl}
use Rattle.channel_table.specs.declared.sessions.Session.{Session}
use Rattle.channel_table.specs.Sessions.{nth_by_number}

abbrev numbered : ℕ → Session
numbered number = record { number = number; peer = codes "10.0.0.5"; host = codes "10.0.0.5"; user = []; host_fixed = false; paused = false }

abbrev sessions : List Session
sessions = numbered 3 ∷ numbered 1 ∷ numbered 2 ∷ []

lowest_is_first : nth_by_number 0 sessions ≡ Some (numbered 1)
lowest_is_first = refl

then_the_next : nth_by_number 1 sessions ≡ Some (numbered 2)
then_the_next = refl

highest_is_last : nth_by_number 2 sessions ≡ Some (numbered 3)
highest_is_last = refl

none_past_it : nth_by_number 3 sessions ≡ None
none_past_it = refl

none_of_none : nth_by_number 0 [] ≡ None
none_of_none = refl
