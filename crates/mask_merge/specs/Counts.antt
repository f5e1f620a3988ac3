-- What is counted of readers, and what it says they want together.
use Rattle.std.specs.Prelude.{ℕ, ◌+◌, ◌-◌, List, [], ◌∷◌, Bool, false, if◌then◌else◌, ◌==◌, ◌&&◌, ◌||◌, nat_lt, length, map, max, bit_and, Option, Some, None}
use Rattle.std.specs.List.{list_any}
use Rattle.rows.specs.Rows.{remove_first}
use Rattle.mask_merge.specs.declared.want.TheConstants.{LOG_EVENT}
use Rattle.mask_merge.specs.declared.want.Want.{Want}
use Rattle.mask_merge.specs.declared.want.Ask.{Ask}
use Rattle.mask_merge.specs.Merged.{asked_for}

-- what is counted of readers: how many ask for LOG, how many want nothing now, how many ask for properties and how many for texts, and the counts of elements that those who want something want, rising
pub record Counts : Type 0 where
  pub logs : ℕ
  pub silent : ℕ
  pub props : ℕ
  pub texts : ℕ
  pub counts : List ℕ

abbrev pub asks_log : ℕ → Bool
asks_log mask = bit_and mask LOG_EVENT == LOG_EVENT

abbrev pub nothing_counted : Counts
nothing_counted = record { logs = 0; silent = 0; props = 0; texts = 0; counts = [] }

-- nobody is counted
abbrev pub is_nothing : Counts → Bool
is_nothing c = length c.counts == 0 && c.silent == 0

-- a count before the first that is not less
abbrev pub put_rising : ℕ → List ℕ → List ℕ
put_rising count [] = count ∷ []
put_rising count (other ∷ counts) =
    if nat_lt other count then other ∷ put_rising count counts else count ∷ other ∷ counts

abbrev pub is_count : ℕ → ℕ → Bool
is_count count other = other == count

-- one more, or one less, where a reader asks for something
abbrev pub more_if : Bool → ℕ → ℕ
more_if asked n = if asked then n + 1 else n

abbrev pub less_if : Bool → ℕ → ℕ
less_if asked n = if asked then n - 1 else n

-- a reader of these events and this count, that asks for no texts
abbrev pub ask_for : ℕ → ℕ → Bool → Ask
ask_for mask count props = record { want = record { mask = mask; count = count }; props = props; texts = false }

-- one reader more; one that wants nothing now is silent
abbrev pub counted_with : Option Ask → Counts → Counts
counted_with None c = record c { silent = c.silent + 1 }
counted_with (Some ask) c =
    record c {
      logs = more_if (asks_log ask.want.mask) c.logs;
      props = more_if ask.props c.props;
      texts = more_if ask.texts c.texts;
      counts = put_rising ask.want.count c.counts;
    }

-- among so many that ask for something, of so many in all, there can be one that does, or one that doesn't
abbrev pub has_such : Bool → ℕ → ℕ → Bool
has_such asked n all = if asked then nat_lt 0 n else nat_lt n all

-- such a reader can be among those that are counted
abbrev pub holds : Option Ask → Counts → Bool
holds None c = nat_lt 0 c.silent
holds (Some ask) c =
    list_any (is_count ask.want.count) c.counts
    && (has_such (asks_log ask.want.mask) c.logs (length c.counts)
    && (has_such ask.props c.props (length c.counts) && has_such ask.texts c.texts (length c.counts)))

-- what is left of the counts where such a reader is among them
abbrev pub left_of : Option Ask → Counts → Counts
left_of None c = record c { silent = c.silent - 1 }
left_of (Some ask) c =
    record c {
      logs = less_if (asks_log ask.want.mask) c.logs;
      props = less_if ask.props c.props;
      texts = less_if ask.texts c.texts;
      counts = remove_first (is_count ask.want.count) c.counts;
    }

-- one reader less, where such a one is counted
abbrev pub counted_without : Option Ask → Counts → Counts
counted_without ask c = if holds ask c then left_of ask c else c

-- a reader that wants something else than it did, where it is counted
abbrev pub exchanged : Option Ask → Option Ask → Counts → Counts
exchanged old new c = if holds old c then counted_with new (counted_without old c) else c

-- what is counted of readers, each told by what it asks for
abbrev pub counted : List (Option Ask) → Counts
counted [] = nothing_counted
counted (ask ∷ asks) = counted_with ask (counted asks)

-- the last of the counts that start so
abbrev pub last_of : ℕ → List ℕ → ℕ
last_of count [] = count
last_of count (next ∷ counts) = last_of next counts

-- the greatest of rising counts, where 0 stands for the native count
abbrev pub greatest_of : ℕ → List ℕ → ℕ
greatest_of native [] = 0
greatest_of native (first ∷ counts) =
    if first == 0 then max native (last_of first counts) else last_of first counts

-- LOG where somebody asks for it
abbrev pub log_mask : ℕ → ℕ
log_mask logs = if nat_lt 0 logs then LOG_EVENT else 0

abbrev pub wanted_by : ℕ → ℕ → List ℕ → Option Want
wanted_by native logs [] = None
wanted_by native logs (first ∷ counts) =
    Some (asked_for (log_mask logs) (greatest_of native (first ∷ counts)))

-- what all want together of a variable with this native count
abbrev pub wanted_of : ℕ → Counts → Option Want
wanted_of native c = wanted_by native c.logs c.counts

-- the same where 0 stands for no more than itself
abbrev pub wanted : Counts → Option Want
wanted c = wanted_of 0 c

-- a count of 0 stands for the native count
abbrev pub native_count : ℕ → ℕ → ℕ
native_count native count = if count == 0 then native else count

abbrev pub as_native : ℕ → Want → Want
as_native native want = record want { count = native_count native want.count }

-- what is asked for by those that want something
abbrev pub asks_in : List (Option Ask) → List Ask
asks_in [] = []
asks_in (None ∷ asks) = asks_in asks
asks_in (Some ask ∷ asks) = ask ∷ asks_in asks

abbrev pub want_asked : Ask → Want
want_asked ask = ask.want

-- and their wants
abbrev pub wants_in : List (Option Ask) → List Want
wants_in asks = map want_asked (asks_in asks)

-- a reader asks for properties: for themselves, or for texts where the elements are states
abbrev pub asks_props : Bool → Option Ask → Bool
asks_props states None = false
asks_props states (Some ask) = ask.props || states && ask.texts

-- somebody does
abbrev pub props_wanted : Bool → Counts → Bool
props_wanted states c = nat_lt 0 c.props || states && nat_lt 0 c.texts
