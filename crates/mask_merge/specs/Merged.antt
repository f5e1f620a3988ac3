-- What the readers of a variable want together.
use Rattle.std.specs.Prelude.{ℕ, List, [], ◌∷◌, Bool, ◌==◌, ◌&&◌, map, bit_and, bit_or, max, fold, Option, Some, None}
use Rattle.mask_merge.specs.declared.want.TheConstants.{KNOWN_EVENTS, ALWAYS_ASKED}
use Rattle.mask_merge.specs.declared.want.Want.{Want}

-- a want of these events and this count
abbrev pub is_want : ℕ → ℕ → Want → Bool
is_want mask count want = want.mask == mask && want.count == count

abbrev pub mask_of : Want → ℕ
mask_of want = want.mask

abbrev pub count_of : Want → ℕ
count_of want = want.count

-- the events that any of them asks for
abbrev pub events : List Want → ℕ
events wants = fold bit_or 0 (map mask_of wants)

-- the greatest count
abbrev pub greatest : List Want → ℕ
greatest wants = fold max 0 (map count_of wants)

-- as it is asked of a server: of the events those that are known, and those that are always asked for
abbrev pub asked_for : ℕ → ℕ → Want
asked_for mask count = record { mask = bit_or (bit_and mask KNOWN_EVENTS) ALWAYS_ASKED; count = count }

-- what readers want together: nothing where nobody wants anything, else the events of all and the greatest count
abbrev pub merged : List Want → Option Want
merged [] = None
merged (want ∷ wants) = Some (asked_for (events (want ∷ wants)) (greatest (want ∷ wants)))
