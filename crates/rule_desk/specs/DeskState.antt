-- What is seen of a desk.
use Rattle.std.specs.Prelude.{ℕ}
use Rattle.pvlist.specs.declared.syntax.Syntax.{Syntax}

-- how many edits were accepted, and in which syntax the patterns of rule files are
pub record DeskState : Type 0 where
  pub edits : ℕ
  pub syntax : Syntax
