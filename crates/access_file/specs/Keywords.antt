-- The keywords of access security files, in upper case.
use Rattle.std.specs.Prelude.{ℕ, Bool, true, false, ◌||◌, ◌&&◌, ◌==◌, nat_le, if◌then◌else◌, List, length, take, bytes_eq, codes, slice_index, Option, Some, None}
use Rattle.access_file.specs.declared.fault.AccessCause.{AccessCause}
use Rattle.access_file.specs.declared.fault.AccessCause.TheVariants.{UnknownWord, Calculated, Unserved}
use Rattle.access_file.specs.declared.place.Kind.{Kind}
use Rattle.access_file.specs.declared.place.Kind.TheVariants as kind
use Rattle.access_file.specs.declared.place.Party.{Party}
use Rattle.access_file.specs.declared.place.Party.TheVariants.{Users, Hosts}
use Rattle.access_file.specs.declared.rule.Level.{Level}
use Rattle.access_file.specs.declared.rule.Level.TheVariants.{Zero, One}
use Rattle.access_file.specs.declared.rule.Right.{Right}
use Rattle.access_file.specs.declared.rule.Right.TheVariants as right

-- users or hosts
abbrev pub party_of : List ℕ → Option Party
party_of word =
    if bytes_eq word (codes "UAG") then Some Users
    else if bytes_eq word (codes "HAG") then Some Hosts
    else None

abbrev pub list_kind : Option Party → Option Kind
list_kind None = None
list_kind (Some party) = Some (kind.List party)

-- what a keyword defines
abbrev pub kind_of : List ℕ → Option Kind
kind_of word = if bytes_eq word (codes "ASG") then Some kind.Rules else list_kind (party_of word)

abbrev pub is_rule : List ℕ → Bool
is_rule word = bytes_eq word (codes "RULE")

-- INPA to INPU (65 to 85)
abbrev pub is_input : List ℕ → Bool
is_input word =
    length word == 4 && bytes_eq (take 3 word) (codes "INP") && nat_le 65 (slice_index word 3) && nat_le (slice_index word 3) 85

-- conditions on values: CALC and its inputs
abbrev pub is_calculated : List ℕ → Bool
is_calculated word = bytes_eq word (codes "CALC") || is_input word

-- conditions on how a client connects
abbrev pub is_unserved : List ℕ → Bool
is_unserved word = bytes_eq word (codes "METHOD") || bytes_eq word (codes "AUTHORITY") || bytes_eq word (codes "PROTOCOL")

-- why a word is none of the keywords that may stand here
abbrev pub no_keyword : List ℕ → AccessCause
no_keyword word = if is_calculated word then Calculated else if is_unserved word then Unserved else UnknownWord

abbrev pub level_of : List ℕ → Option Level
level_of word =
    if bytes_eq word (codes "0") then Some Zero
    else if bytes_eq word (codes "1") then Some One
    else None

abbrev pub right_of : List ℕ → Option Right
right_of word =
    if bytes_eq word (codes "NONE") then Some right.None
    else if bytes_eq word (codes "READ") then Some right.Read
    else if bytes_eq word (codes "WRITE") then Some right.Write
    else None

-- whether writes are recorded
abbrev pub recording_of : List ℕ → Option Bool
recording_of word =
    if bytes_eq word (codes "TRAPWRITE") then Some true
    else if bytes_eq word (codes "NOTRAPWRITE") then Some false
    else None
