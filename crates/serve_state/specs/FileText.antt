-- What is read of a file.
use Rattle.std.specs.Prelude.{ℕ, ◌==◌, ◌&&◌, List, bytes_eq, Bool}

-- what was read of a file: its text, and when it was last written
pub record TextState : Type 0 where
  pub text : List ℕ
  pub stamp : ℕ

abbrev pub same_text : TextState → TextState → Bool
same_text one other = (one.stamp == other.stamp) && bytes_eq one.text other.text
