-- What a faulty line said, as it is told beside its number.
use Rattle.std.specs.Prelude.{◌≡◌, ℕ, ◌+◌, ◌-◌, ◌/◌, ◌%◌, ◌&&◌, nat_le, nat_lt, if◌then◌else◌, List, [], ◌∷◌, get_or, take, flat_map, Option, Some, None}
use Rattle.std.specs.Str.Lines.{lines}
use Rattle.pvlist.specs.declared.syntax.Syntax.{Syntax}
use Rattle.rule_desk.specs.Edit.{IsDeskFault}
use Rattle.rule_desk.specs.Texts.{Texts}
use Rattle.rule_desk.specs.declared.fault.DeskFault.{DeskFault}
use Rattle.rule_desk.specs.declared.fault.DeskFault.TheVariants.{Rules, Groups, Access, OutOfMemory}
use Rattle.rule_desk.specs.declared.said.SaidFile.{SaidFile}
use Rattle.rule_desk.specs.declared.said.SaidFile.TheVariants.{InRules, InGroups, InAccess}

-- the hexadecimal digit of a number: `0` is 48 and `a` 97
abbrev pub digit : ℕ → ℕ
digit n = if nat_lt n 10 then 48 + n else 87 + n

-- a byte as it is told: itself where it is printable ASCII, and else `\x` and two digits
abbrev pub shown : ℕ → List ℕ
shown byte =
    if nat_le 32 byte && nat_le byte 126 then byte ∷ []
    else 92 ∷ 120 ∷ digit (byte / 16) ∷ digit (byte % 16) ∷ []

-- a line as it is told, which is no more than 200 characters: those are of its first 200 bytes
unfoldable pub told : List ℕ → List ℕ
told line = take 200 (flat_map shown (take 200 line))

-- the line of a text that has this number, counted from 1
abbrev pub line_at : ℕ → List ℕ → List ℕ
line_at number text = get_or (lines text) (number - 1) []

-- of which file a line is, its number, and what is told of it
pub record SaidLine : Type 0 where
  pub file : SaidFile
  pub line : ℕ
  pub text : List ℕ

-- a line of a file that has a text
abbrev pub said_in : Option (List ℕ) → SaidFile → ℕ → Option SaidLine
said_in None file line = None
said_in (Some text) file line = Some (record { file = file; line = line; text = told (line_at line text) })

-- what the line said that a fault is of
unfoldable pub said_of : Texts → DeskFault → Option SaidLine
said_of texts (Rules line cause) = said_in texts.rules InRules line
said_of texts (Groups line cause) = said_in texts.groups InGroups line
said_of texts (Access line cause) = said_in texts.access InAccess line
said_of texts OutOfMemory = None

-- what the first faulty line said of texts that are read in this syntax
pub record IsSaid (syntax : Syntax) (texts : Texts) (said : SaidLine) : Type 0 where
  pub fault : DeskFault
  pub is : IsDeskFault syntax texts fault
  pub says : said_of texts fault ≡ Some said
