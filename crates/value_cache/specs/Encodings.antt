-- Encodings of what is held.
use Rattle.std.specs.Prelude.{◌≡◌, ℕ, List, [], ◌∷◌, length, filter, Bool, not, ◌&&◌, ◌==◌, nat_le, nat_lt, if◌then◌else◌, Option, Some, None, Vec}
use Rattle.std.specs.List.{count_by}
use Rattle.value_cache.specs.declared.encodings.Encoding.{Encoding}
use Rattle.value_cache.specs.Held.{Held, answer}

-- those of a list that may not be there yet
abbrev pub listed_in : {Z : Type 0} → Option (Vec Encoding Z) → List Encoding
listed_in None = []
listed_in (Some list) = list.items

-- the type and count
abbrev pub pair_of : Encoding → ℕ × ℕ
pair_of e = (e.dtype, e.count)

abbrev pub is_of : ℕ → ℕ → Encoding → Bool
is_of dtype count e = e.dtype == dtype && e.count == count

-- each is what its type and count are answered
abbrev pub AreAnswers : Held → List Encoding → Type 0
AreAnswers held [] = Unit {0}
AreAnswers held (e ∷ later) = (answer e.dtype e.count held ≡ Some (e.given, e.payload)) × AreAnswers held later

-- it has 64 KiB or more
abbrev pub is_large_one : Encoding → Bool
is_large_one e = nat_le 65_536 (length e.payload)

abbrev pub is_small_one : Encoding → Bool
is_small_one e = not (is_large_one e)

-- without those that are large, where there are several
abbrev pub thinned_list : List Encoding → List Encoding
thinned_list list = if nat_lt 1 (count_by is_large_one list) then filter is_small_one list else list
