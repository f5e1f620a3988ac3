-- Values under names, in order.
use Rattle.std.specs.Prelude.{◌≡◌, ℕ, List, [], ◌∷◌, map, bytes_eq, string_bytes, String, if◌then◌else◌, is_some}
use Rattle.std.specs.List.{list_any}
use Rattle.std.specs.Map.{lookup}
use Rattle.std.specs.declared.alloc.Global.{Global}

-- the value is the last one, or in the place of the one that is there by this name
abbrev pub put : {V : Type 0} → List (List ℕ × V) → List ℕ → V → List (List ℕ × V)
put [] name value = (name, value) ∷ []
put (e ∷ es) name value = if bytes_eq name e.0 then (e.0, value) ∷ es else e ∷ put es name value

-- names that are kept as texts, by their bytes
abbrev pub by_bytes : {V : Type 0} → List (String Global × V) → List (List ℕ × V)
by_bytes {V} entries = map (λ (e : String Global × V). (string_bytes e.0, e.1)) entries

-- the value beside a name
abbrev pub value_in : {V : Type 0} → List ℕ × V → V
value_in entry = entry.1

-- the names that have values are those of the list
abbrev pub Finds : {V : Type 0} → List (List ℕ) → List (List ℕ × V) → Type 0
Finds names found = (name : List ℕ) → list_any (λ listed. bytes_eq listed name) names ≡ is_some (lookup (bytes_eq name) found)
