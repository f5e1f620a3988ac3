-- The syntaxes of patterns. A character is its code, `(` is 40.
use Rattle.std.specs.Prelude.{ℕ, Bool, true, false, not, ◌&&◌, ◌==◌, codes}
use Rattle.std.specs.List.{list_any}
use Rattle.pvlist.specs.declared.syntax.Syntax.{Syntax}
use Rattle.pvlist.specs.declared.syntax.Syntax.TheVariants.{Escaped, Plain}

-- what groups and alternatives are made with
abbrev pub is_grouping : ℕ → Bool
is_grouping c = list_any (λ sign. sign == c) (codes "()|")

-- outside brackets these make groups and alternatives without a backslash, and stand for themselves after one; in the
-- other syntax it is the other way round
abbrev pub has_bare_groups : Syntax → Bool
has_bare_groups Escaped = false
has_bare_groups Plain = true

-- outside brackets and after no backslash, the character begins a group
abbrev pub opens_bare : Syntax → ℕ → Bool
opens_bare syntax c = has_bare_groups syntax && c == 40

-- after a backslash it does
abbrev pub opens_escaped : Syntax → ℕ → Bool
opens_escaped syntax c = not (has_bare_groups syntax) && c == 40
