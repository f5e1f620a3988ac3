-- The keywords of rule files, which may be written in upper case or lower case letters.
use Rattle.std.specs.Prelude.{ℕ, Bool, ◌&&◌, if◌then◌else◌, List, [], ◌∷◌, map, bytes_eq, codes, Option, Some, None}
use Rattle.std.specs.Char.{to_ascii_lowercase}
use Rattle.pvlist.specs.declared.keyword.Keyword.{Keyword}
use Rattle.pvlist.specs.declared.keyword.Keyword.TheVariants as keyword
use Rattle.pvlist.specs.declared.groups.GroupRight.{GroupRight}
use Rattle.pvlist.specs.declared.groups.GroupRight.TheVariants as right
use Rattle.pvlist.specs.declared.rules.Order.{Order}
use Rattle.pvlist.specs.declared.rules.Order.TheVariants.{AllowDeny, DenyAllow}

-- the word is the keyword, in either case
abbrev pub is_keyword : List ℕ → List ℕ → Bool
is_keyword word keyword = bytes_eq (map to_ascii_lowercase word) (map to_ascii_lowercase keyword)

-- what a row does, by its second word
abbrev pub keyword_of : List ℕ → Option Keyword
keyword_of word =
    if is_keyword word (codes "ALLOW") then Some keyword.Allow
    else if is_keyword word (codes "ALIAS") then Some keyword.Alias
    else if is_keyword word (codes "DENY") then Some keyword.Deny
    else None

-- these words begin an order line
abbrev pub is_order_line : List ℕ → List ℕ → Bool
is_order_line first second = is_keyword first (codes "EVALUATION") && is_keyword second (codes "ORDER")

abbrev pub order_of_two : List ℕ → List ℕ → Option Order
order_of_two first second =
    if is_keyword first (codes "ALLOW") && is_keyword second (codes "DENY") then Some AllowDeny
    else if is_keyword first (codes "DENY") && is_keyword second (codes "ALLOW") then Some DenyAllow
    else None

-- the order that the rest of an order line gives
abbrev pub order_of : List (List ℕ) → Option Order
order_of (first ∷ second ∷ []) = order_of_two first second
order_of _ = None

-- the right that a line of a group file gives, by its second word
abbrev pub right_of : List ℕ → Option GroupRight
right_of word =
    if is_keyword word (codes "NONE") then Some right.None
    else if is_keyword word (codes "READ") then Some right.Read
    else if is_keyword word (codes "WRITE") then Some right.Write
    else None
