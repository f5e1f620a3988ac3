-- Readers that come, leave and change, one after another.
use Rattle.std.specs.Prelude.{◌≡◌, List, [], ◌∷◌, ◌++◌, Bool, true, false, if◌then◌else◌, not, ◌&&◌, fold, Option, Some, None}
use Rattle.std.specs.List.{list_any}
use Rattle.rows.specs.Rows.{change_first, remove_first}
use Rattle.mask_merge.specs.declared.want.Ask.{Ask}
use Rattle.mask_merge.specs.Counts.{Counts, nothing_counted, counted_with, counted_without, exchanged}
use Rattle.mask_merge.specs.Merged.{is_want}

-- a reader comes, leaves, or asks for something else than it did; `None` is one that wants nothing
pub data Change : Type 0 where
  Added : Option Ask → Change
  Removed : Option Ask → Change
  Exchanged : Option Ask → Option Ask → Change

-- as a tally counts it
abbrev pub counts_after : Counts → Change → Counts
counts_after c (Added ask) = counted_with ask c
counts_after c (Removed ask) = counted_without ask c
counts_after c (Exchanged old new) = exchanged old new c

-- the counts of a tally that was empty, after all these
abbrev pub after : List Change → Counts
after changes = fold counts_after nothing_counted changes

abbrev pub is_flag : Bool → Bool → Bool
is_flag t u = if t then u else not u

-- the same is asked for
abbrev pub is_ask : Option Ask → Option Ask → Bool
is_ask None None = true
is_ask (Some ask) (Some other) =
    is_want ask.want.mask ask.want.count other.want
    && (is_flag ask.props other.props && is_flag ask.texts other.texts)
is_ask _ _ = false

-- the readers themselves, each told by what it asks for: of equal ones the first leaves or changes
abbrev pub readers_after : List (Option Ask) → Change → List (Option Ask)
readers_after asks (Added ask) = asks ++ ask ∷ []
readers_after asks (Removed ask) = remove_first (is_ask ask) asks
readers_after asks (Exchanged old new) = change_first (is_ask old) (λ _. new) asks

-- those that stand after all these changes
abbrev pub standing : List Change → List (Option Ask)
standing changes = fold readers_after [] changes

-- a reader that leaves or changes is one of those that stand
abbrev pub IsFair : List (Option Ask) → Change → Type 0
IsFair asks (Added ask) = Unit
IsFair asks (Removed ask) = list_any (is_ask ask) asks ≡ true
IsFair asks (Exchanged old new) = list_any (is_ask old) asks ≡ true

abbrev pub AreFairFrom : List (Option Ask) → List Change → Type 0
AreFairFrom asks [] = Unit
AreFairFrom asks (change ∷ changes) = IsFair asks change × AreFairFrom (readers_after asks change) changes

-- each of the changes, where nobody stood before the first
abbrev pub AreFair : List Change → Type 0
AreFair changes = AreFairFrom [] changes
