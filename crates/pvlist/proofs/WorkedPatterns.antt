-- The translation of patterns that are written out.
use Rattle.std.proofs.Common.{◌≡◌, [], codes, true, false, Some, None, refl}
use Rattle.std.proofs.Math.Utf8.{encode}
use Rattle.std.specs.Str.{chars}
use Rattle.pvlist.specs.declared.syntax.Syntax.{Syntax}
use Rattle.pvlist.specs.declared.syntax.Syntax.TheVariants.{Escaped, Plain}
use Rattle.pvlist.specs.BareGroups.{has_bare_group, first_bare_group}
use Rattle.pvlist.specs.Captures.{group_count}
use Rattle.pvlist.specs.Translation.{translation}

nothing : (syntax : Syntax) → translation syntax [] ≡ Some (codes "^(?:)$")
unfolding chars encode
nothing syntax = refl

group_and_bracket : translation Escaped (codes "A\\(.\\)\\|[]x-z]{") ≡ Some (codes "^(?:A(.)|[\\]x-z]\\{)$")
unfolding chars encode
group_and_bracket = refl

range_from_bracket : translation Escaped (codes "[[-a]") ≡ Some (codes "^(?:[\\[-a])$")
unfolding chars encode
range_from_bracket = refl

range_from_backslash : translation Escaped (codes "[\\-a]") ≡ Some (codes "^(?:[\\\\-a])$")
unfolding chars encode
range_from_backslash = refl

range_from_dash : translation Escaped (codes "[--1]") ≡ Some (codes "^(?:[\\--1])$")
unfolding chars encode
range_from_dash = refl

class_of_letters : translation Escaped (codes "\\w") ≡ None
unfolding chars encode
class_of_letters = refl

bracket_without_end : translation Escaped (codes "[]a") ≡ None
unfolding chars encode
bracket_without_end = refl

-- the same signs in both syntaxes
bare_signs : translation Escaped (codes "A(.)|[(]x") ≡ Some (codes "^(?:A\\(.\\)\\|[(]x)$")
unfolding chars encode
bare_signs = refl

bare_signs_plain : translation Plain (codes "A(.)|[(]x") ≡ Some (codes "^(?:A(.)|[(]x)$")
unfolding chars encode
bare_signs_plain = refl

escaped_signs : translation Escaped (codes "A\\(1\\)\\|") ≡ Some (codes "^(?:A(1)|)$")
unfolding chars encode
escaped_signs = refl

escaped_signs_plain : translation Plain (codes "A\\(1\\)\\|") ≡ Some (codes "^(?:A\\(1\\)\\|)$")
unfolding chars encode
escaped_signs_plain = refl

counts_and_closing_plain : translation Plain (codes "a{2}]\\.\\-") ≡ Some (codes "^(?:a\\{2\\}\\]\\.-)$")
unfolding chars encode
counts_and_closing_plain = refl

-- groups: two of them, after an escaped backslash, and one in a bracket
groups_escaped : group_count Escaped (codes "\\(a\\)(b)\\\\([\\(]") ≡ 1
unfolding chars
groups_escaped = refl

groups_plain : group_count Plain (codes "\\(a\\)(b)\\\\([\\(]") ≡ 2
unfolding chars
groups_plain = refl

-- which patterns have a bare sign
bare_group : has_bare_group (codes "a\\(b\\)[(]|c") ≡ true
bare_group = refl

no_bare_group : has_bare_group (codes "a\\(b\\)[()|]c") ≡ false
no_bare_group = refl

first_of_rows : first_bare_group (codes "# (\nEVALUATION ORDER ALLOW, DENY\n(A ALL\n\\(A\\) ALLOW\nA|B deny\nC) ALLOW") ≡ Some 5
first_of_rows = refl
