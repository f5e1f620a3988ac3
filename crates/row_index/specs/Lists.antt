-- Lists, each under a name or a number.
use Rattle.std.specs.Prelude.{◌≡◌, ◌≤◌, ◌+◌, ◌*◌, ℕ, List, [], ◌∷◌, ◌++◌, length, Bool, not, bytes_eq, ◌==◌, nat_eq, None, if◌then◌else◌}
use Rattle.std.specs.List.{filter}
use Rattle.std.specs.Map.{lookup}
use Rattle.std.specs.Option.{unwrap_or}
use Rattle.row_index.specs.declared.key.Key.{Key}
use Rattle.row_index.specs.Rows.{same_key}

module _ {K X : Type 0} (eq : K → K → Bool) where
  -- what is listed under a name, in the order of adding
  abbrev pub listed : List (K × List X) → K → List X
  listed lists name = unwrap_or (lookup (eq name) lists) []

  -- the new lists are the old ones, but that the one under this name is changed by f
  abbrev pub Changes : K → (List X → List X) → List (K × List X) → List (K × List X) → Type 0
  Changes name f old new = (n : K) → listed new n ≡ (if eq name n then f (listed old n) else listed old n)

  -- a name under which nothing is listed has no list
  abbrev pub HasNoEmptyList : List (K × List X) → Type 0
  HasNoEmptyList lists = (n : K) → listed lists n ≡ [] → lookup (eq n) lists ≡ None

-- no name has an empty list, and so many spots for hints are at most four for each list, and 16
pub record IsKept {K X : Type 0} (eq : K → K → Bool) (lists : List (K × List X)) (spots : ℕ) : Type 0 where
  pub filled : HasNoEmptyList eq lists
  pub spare : spots ≤ 4 * length lists + 16

-- the list with one more, as its last
abbrev pub with_last : {X : Type 0} → X → List X → List X
with_last x xs = xs ++ x ∷ []

-- the keys under a name, in the order of adding
abbrev pub of : List (List ℕ × List Key) → List ℕ → List Key
of lists name = listed bytes_eq lists name

-- the same key
abbrev pub is_key : Key → Key → Bool
is_key key other = same_key other key

-- another key
abbrev pub is_not_key : Key → Key → Bool
is_not_key key other = not (same_key other key)

-- the new lists are the old ones, but that the one under this name has the key as its last
abbrev pub AddsTo : List ℕ → Key → List (List ℕ × List Key) → List (List ℕ × List Key) → Type 0
AddsTo name key old new = Changes bytes_eq name (with_last key) old new

-- the new lists are the old ones, but that the one under this name lacks the key
abbrev pub RemovesFrom : List ℕ → Key → List (List ℕ × List Key) → List (List ℕ × List Key) → Type 0
RemovesFrom name key old new = Changes bytes_eq name (filter (is_not_key key)) old new

-- each name has the same keys in both
abbrev pub SameLists : List (List ℕ × List Key) → List (List ℕ × List Key) → Type 0
SameLists old new = (n : List ℕ) → of new n ≡ of old n

module _ {X : Type 0} where
  -- what is listed under an owner, in the order of adding
  abbrev pub of_owner : List (ℕ × List X) → ℕ → List X
  of_owner lists owner = listed nat_eq lists owner

  -- the new lists are the old ones, but that the one of this owner has one more, as its last
  abbrev pub AddsToOwner : ℕ → X → List (ℕ × List X) → List (ℕ × List X) → Type 0
  AddsToOwner owner one old new = Changes nat_eq owner (with_last one) old new

  -- each owner has the same listed in both
  abbrev pub SameOwnerLists : List (ℕ × List X) → List (ℕ × List X) → Type 0
  SameOwnerLists old new = (owner : ℕ) → of_owner new owner ≡ of_owner old owner

-- the new lists are the old ones, but that the one of this owner lacks the key
abbrev pub RemovesFromOwner : ℕ → Key → List (ℕ × List Key) → List (ℕ × List Key) → Type 0
RemovesFromOwner owner key old new = Changes nat_eq owner (filter (is_not_key key)) old new

-- the same ID
abbrev pub is_id : ℕ → ℕ → Bool
is_id id other = other == id

-- another ID
abbrev pub is_not_id : ℕ → ℕ → Bool
is_not_id id other = not (is_id id other)
