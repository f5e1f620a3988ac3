-- What is noted of a rule file beside what it says.
use Rattle.std.specs.Prelude.{ℕ, List, ◌++◌, codes, Option, None}
use Rattle.std.specs.Fmt.{decimal}
use Rattle.pvlist.specs.BareGroups.{first_bare_group}
use Rattle.pvlist.specs.declared.syntax.Syntax.{Syntax}
use Rattle.pvlist.specs.declared.syntax.Syntax.TheVariants.{Escaped, Plain}
use Rattle.rule_desk.specs.declared.note.Note.{Note}

-- the number of the line that a note is of: in the escaped syntax, that of the first row whose pattern seems to be of the
-- plain syntax
abbrev pub noted_line : Syntax → List ℕ → Option ℕ
noted_line Escaped text = first_bare_group text
noted_line Plain text = None

abbrev pub note_text : Note → List ℕ
note_text note =
    codes "note: line " ++ decimal note.line ++ codes ": ( ) | stand for themselves here; --plain-groups reads them as groups"
