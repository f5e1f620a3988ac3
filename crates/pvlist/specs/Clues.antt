-- What a name has that a pattern matches, as far as its bytes alone tell it.
use Rattle.std.specs.Prelude.{◌≡◌, ℕ, ◌≤◌, ◌<◌, Bool, true, false, ◌||◌, ◌&&◌, List, [], ◌∷◌, length, All, nat_eq, Option, Some, None, is_some, Vec}
use Rattle.std.specs.List.{list_any, starts_with, ends_with}
use Rattle.std.specs.declared.alloc.Global.{Global}
use Rattle.regex.specs.Patterns.{Re, Matches, find_str}
use Rattle.regex.specs.Strings.{regex_pattern}
use Rattle.regex.specs.declared.string.regex.Regex.{Regex}
use Rattle.regex_extract.specs.Needles.{needles_of}
use Rattle.pvlist.specs.declared.clues.TextPlace.{TextPlace}
use Rattle.pvlist.specs.declared.clues.TextPlace.TheVariants.{Start, End, Anywhere}
use Rattle.pvlist.specs.declared.clues.Clues.{Clues}

-- the text stands somewhere in the name
abbrev pub stands_in : List ℕ → List ℕ → Bool
stands_in [] text = false
stands_in (b ∷ rest) text = starts_with nat_eq (b ∷ rest) text || stands_in rest text

-- the text stands at the place
abbrev pub is_there : TextPlace → List ℕ → List ℕ → Bool
is_there Start name text = starts_with nat_eq name text
is_there End name text = ends_with nat_eq name text
is_there Anywhere name text = stands_in name text

-- one of the texts does, or none is known
abbrev pub has_one : TextPlace → Option (Vec (Vec ℕ Global) Global) → List ℕ → Bool
has_one place None name = true
has_one place (Some texts) name = list_any (is_there place name) (needles_of texts)

-- the name begins with one, ends with one, and one stands in it
abbrev pub has_clues : Clues → List ℕ → Bool
has_clues clues name = has_one Start clues.starts name && has_one End clues.ends name && has_one Anywhere clues.inside name

-- each name that the regular expression matches has them
abbrev pub AreClues : Regex → Clues → Type 0
AreClues regex clues =
    (name : List ℕ) → All (λ b. b < 256) name → is_some (find_str (regex_pattern regex) name 0) ≡ true → has_clues clues name ≡ true

-- each name has them that a tree matches somewhere
abbrev pub AreCluesOf : Re → Clues → Type 0
AreCluesOf re clues =
    (name : List ℕ) (i j : ℕ) → All (λ b. b < 256) name → i ≤ length name → Matches name re i j → has_clues clues name ≡ true
