-- What a group file says, by its lines.
use Rattle.std.specs.Prelude.{◌≡◌, ℕ, ◌≤◌, Bool, false, nat_lt, nat_le, if◌then◌else◌, List, [], ◌∷◌, ◌++◌, length, filter_map, Option, Some, None, Result, Ok, Err}
use Rattle.std.specs.List.{AllZip}
use Rattle.std.specs.Str.Lines.{lines}
use Rattle.pvlist.specs.declared.fault.RuleLineFault.{RuleLineFault}
use Rattle.pvlist.specs.declared.fault.RuleLineFault.TheVariants.{Cause, OutOfMemory}
use Rattle.pvlist.specs.declared.fault.RuleCause.{RuleCause}
use Rattle.pvlist.specs.declared.fault.RuleCause.TheVariants.{LineTooLong, TooManyLines, BadGroup}
use Rattle.pvlist.specs.declared.fault.RuleFault.{RuleFault}
use Rattle.pvlist.specs.declared.groups.GroupLine.{GroupLine}
use Rattle.pvlist.specs.declared.groups.GroupRight.{GroupRight}
use Rattle.pvlist.specs.declared.line.TheConstants.{LINE_LIMIT, ROW_LIMIT}
use Rattle.pvlist.specs.File.{IsFileFault}
use Rattle.pvlist.specs.Keywords.{right_of}
use Rattle.pvlist.specs.RuleLine.{group_word}
use Rattle.pvlist.specs.Words.{words}

-- the right, where nothing follows it
abbrev pub only_right : List (List ℕ) → Option GroupRight
only_right (word ∷ []) = right_of word
only_right _ = None

abbrev pub granted : Option (List ℕ) → Option GroupRight → Result (Option GroupLine) RuleCause
granted (Some group) (Some right) = Ok (Some (record { group = group; right = right }))
granted _ _ = Err BadGroup

-- a line by its words
abbrev pub group_words_entry : Bool → List (List ℕ) → Result (Option GroupLine) RuleCause
group_words_entry full [] = Ok None
group_words_entry full (group ∷ rest) =
    if full then Err TooManyLines else granted (group_word group) (only_right rest)

-- what a line says, if it isn't blank, or the first cause that it is faulty; a file that is full takes no further line
abbrev pub group_entry : Bool → List ℕ → Result (Option GroupLine) RuleCause
group_entry full line = if nat_lt LINE_LIMIT (length line) then Err LineTooLong else group_words_entry full (words line)

abbrev pub is_full : List GroupLine → Bool
is_full groups = nat_le ROW_LIMIT (length groups)

abbrev pub itself : Option GroupLine → Option GroupLine
itself said = said

-- the line is without fault, and says this
abbrev pub Says : List ℕ → Option GroupLine → Type 0
Says line said = group_entry false line ≡ Ok said

-- each of the lines is without fault, and these are those that aren't blank
pub record AreGroupsOf (all : List (List ℕ)) (groups : List GroupLine) : Type 0 where
  pub entries : List (Option GroupLine)
  pub read : AllZip Says all entries
  pub lines : groups ≡ filter_map itself entries
  pub few : length groups ≤ ROW_LIMIT

-- after lines that say this, the line is faulty
abbrev pub RefusesLine : List GroupLine → List ℕ → RuleCause → Type 0
RefusesLine groups line cause = group_entry (is_full groups) line ≡ Err cause

-- the fault is that of the first faulty line
abbrev pub IsGroupFault : List ℕ → RuleFault → Type 0
IsGroupFault text fault = IsFileFault AreGroupsOf RefusesLine (lines text) fault

-- the cause of an entry, or memory ran out
abbrev pub IsFaultOf : Result (Option GroupLine) RuleCause → RuleLineFault → Type 0
IsFaultOf drawn (Cause cause) = drawn ≡ Err cause
IsFaultOf drawn OutOfMemory = Unit {0}

-- the file may take what the line says
abbrev pub HasRoom : Bool → Option GroupLine → Type 0
HasRoom full None = Unit {0}
HasRoom full (Some line) = full ≡ false

-- with what a line says
abbrev pub with_line : List GroupLine → Option GroupLine → List GroupLine
with_line groups None = groups
with_line groups (Some line) = groups ++ line ∷ []

-- the line is without fault, and is taken up
pub record TakesLine (line : List ℕ) (old new : List GroupLine) : Type 0 where
  pub said : Option GroupLine
  pub read : Says line said
  pub room : HasRoom (is_full old) said
  pub after : new ≡ with_line old said
