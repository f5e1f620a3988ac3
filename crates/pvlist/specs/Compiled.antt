-- The regular expression of a pattern.
use Rattle.std.specs.Prelude.{◌≡◌, ◌≢◌, ◌⊎◌, ℕ, List, Some, None}
use Rattle.regex.specs.Failures.{IsRightKind}
use Rattle.regex.specs.Patterns.{default_config}
use Rattle.regex.specs.Sources.{IsTextRefusal}
use Rattle.regex.specs.Strings.{regex_source, regex_config, IsReadFromSource}
use Rattle.regex.specs.declared.error.Error.{Error}
use Rattle.regex.specs.declared.error.Error.TheVariants as error
use Rattle.regex.specs.declared.string.regex.Regex.{Regex}
use Rattle.pvlist.specs.declared.syntax.Syntax.{Syntax}
use Rattle.pvlist.specs.Translation.{translation}

-- its text is the translation of the pattern, and it is what the grammar of regular expressions reads in that text
pub record IsCompiled (syntax : Syntax) (pattern : List ℕ) (regex : Regex) : Type 0 where
  pub source : translation syntax pattern ≡ Some (regex_source regex)
  pub config : regex_config regex ≡ default_config
  pub read : IsReadFromSource regex

-- the pattern has a regular expression
pub record IsAccepted (syntax : Syntax) (pattern : List ℕ) : Type 0 where
  pub regex : Regex
  pub compiled : IsCompiled syntax pattern regex

-- the pattern is translated, and its text is no regular expression or is one that grows too big
pub record IsTextRefused (syntax : Syntax) (pattern : List ℕ) : Type 0 where
  pub text : List ℕ
  pub failure : Error
  pub source : translation syntax pattern ≡ Some text
  pub refused : IsTextRefusal default_config text failure
  pub kind : IsRightKind default_config text failure
  pub not_memory : failure ≢ error.OutOfMemory

-- the pattern has none
abbrev pub IsRefused : Syntax → List ℕ → Type 0
IsRefused syntax pattern = (translation syntax pattern ≡ None) ⊎ IsTextRefused syntax pattern
