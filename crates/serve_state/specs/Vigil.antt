-- Whether who is connected is still there. Time is counted in looks, of which there are four a second.
use Rattle.std.specs.Prelude.{◌≡◌, ℕ, zero, suc, ◌+◌, ◌*◌, ◌-◌, ◌==◌, ◌≤◌, ◌&&◌, ◌||◌, not, nat_le, nat_lt, if◌then◌else◌, List, [], ◌∷◌, take, drop, Bool, true, false, Option, Some, None, option_and_then}
use Rattle.std.specs.List.{list_any}
use Rattle.decimal_text.specs.Numbers.{number_of}
use Rattle.serve_state.specs.declared.vigil.Counts.{Counts}
use Rattle.serve_state.specs.declared.vigil.Patience.{Patience}
use Rattle.serve_state.specs.declared.vigil.Verdict.{Verdict}
use Rattle.serve_state.specs.declared.vigil.Verdict.TheVariants as verdict

-- a number of seconds from 1 to an hour
abbrev pub within_an_hour : ℕ → Option Patience
within_an_hour n = if nat_le 1 n && nat_le n 3600 then Some (record { seconds = n }) else None

-- the number of seconds that decimal digits write
abbrev pub patience_of : List ℕ → Option Patience
patience_of digits = option_and_then within_an_hour (number_of 32 digits)

-- of a server it counts what was read; of a client also what was written
abbrev pub is_same : Bool → Counts → Counts → Bool
is_same server before now = (before.read == now.read) && (server || (before.written == now.written))

-- at so many looks in a row that show nothing new a server is asked whether it is there
abbrev pub probe_at : ℕ → ℕ
probe_at seconds = 4 * seconds

-- and at so many a server is cut off, which are 5 seconds more; and a client, which is asked nothing
abbrev pub cut_at : Bool → ℕ → ℕ
cut_at server seconds = if server then 4 * seconds + 20 else 16 * seconds

-- what is done after so many looks in a row that showed nothing new
abbrev pub verdict_after : Bool → ℕ → ℕ → Verdict
verdict_after server seconds quiet =
    if nat_le (cut_at server seconds) quiet then verdict.Cut
    else if server && (quiet == probe_at seconds) then verdict.Probe
    else verdict.Nothing

-- whether it watches a server, and by how many seconds; the counts of the last look; and how many looks in a row, up to that one, showed
-- nothing new, counted as far as matters
pub record VigilState : Type 0 where
  pub server : Bool
  pub seconds : ℕ
  pub counts : Counts
  pub quiet : ℕ

abbrev pub beginning : Bool → ℕ → Counts → VigilState
beginning server seconds counts = record { server = server; seconds = seconds; counts = counts; quiet = 0 }

-- one look more, but no more than matter
abbrev pub one_more : ℕ → ℕ → ℕ
one_more most quiet = if nat_lt quiet most then quiet + 1 else quiet

abbrev pub after_look : Counts → VigilState → VigilState
after_look counts vigil = record vigil {
  counts = counts;
  quiet = if is_same vigil.server vigil.counts counts then one_more (cut_at vigil.server vigil.seconds) vigil.quiet else 0;
}

abbrev pub verdict_of : VigilState → Verdict
verdict_of vigil = verdict_after vigil.server vigil.seconds vigil.quiet

-- it was asked whether it is there, and nothing came since
abbrev pub is_probed : VigilState → Bool
is_probed vigil = vigil.server && nat_le (probe_at vigil.seconds) vigil.quiet

-- ---- all looks since it began, the last one first

-- the vigil after these looks, which began with the counts that are named first
abbrev pub after_looks : Bool → ℕ → Counts → List Counts → VigilState
after_looks server seconds first [] = beginning server seconds first
after_looks server seconds first (counts ∷ looks) = after_look counts (after_looks server seconds first looks)

-- what is done at the last of these looks
abbrev pub verdict_at : Bool → ℕ → Counts → List Counts → Verdict
verdict_at server seconds first looks = verdict_of (after_looks server seconds first looks)

-- the counts of the last look
abbrev pub last_of : Counts → List Counts → Counts
last_of first [] = first
last_of first (counts ∷ looks) = counts

-- of each look whether it showed something new
abbrev pub news : Bool → Counts → List Counts → List Bool
news server first [] = []
news server first (counts ∷ looks) = not (is_same server (last_of first looks) counts) ∷ news server first looks

-- how many looks in a row, from the last one back, showed nothing new
abbrev pub silence : List Bool → ℕ
silence [] = 0
silence (true ∷ shown) = 0
silence (false ∷ shown) = suc (silence shown)

-- what is done at a look is said by how many looks in a row showed nothing new
abbrev pub IsBySilence : Type 0
IsBySilence = (server : Bool) (seconds : ℕ) (first : Counts) (looks : List Counts)
    → verdict_at server seconds first looks ≡ verdict_after server seconds (silence (news server first looks))

-- one of the last looks showed something new
abbrev pub has_news : ℕ → Bool → Counts → List Counts → Bool
has_news n server first looks = list_any (λ shown. shown) (take n (news server first looks))

-- a server that said something within the seconds isn't even asked, and a client that said or was given something within four times the
-- seconds isn't cut off: so nobody is who does so once each SECONDS
abbrev pub IsSpared : Type 0
IsSpared = (seconds : ℕ) (first : Counts) (looks : List Counts)
    → (has_news (4 * seconds) true first looks ≡ true → verdict_at true seconds first looks ≡ verdict.Nothing)
    × (has_news (16 * seconds) false first looks ≡ true → verdict_at false seconds first looks ≡ verdict.Nothing)

-- where a server is cut off it was asked, some looks ago, 20 at least, and nothing came since
pub record WasAsked (seconds : ℕ) (first : Counts) (looks : List Counts) : Type 0 where
  pub ago : ℕ
  pub late : 20 ≤ ago
  pub asked : verdict_at true seconds first (drop ago looks) ≡ verdict.Probe
  pub nothing : has_news ago true first looks ≡ false

abbrev pub IsAskedFirst : Type 0
IsAskedFirst = (seconds : ℕ) (first : Counts) (looks : List Counts) → verdict_at true seconds first looks ≡ verdict.Cut → WasAsked seconds first looks
