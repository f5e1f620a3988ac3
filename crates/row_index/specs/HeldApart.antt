-- What a list of keys that stand there once holds.
use Rattle.std.specs.Prelude.{List, [], ◌∷◌}
use Rattle.row_index.specs.declared.apart_keys.Held.{Held}
use Rattle.row_index.specs.declared.apart_keys.Held.TheVariants.{Nothing, Single, Many, Tall}
use Rattle.row_index.specs.declared.key.Key.{Key}

-- the keys, in whichever form they are held
abbrev pub held_in : Held → List Key
held_in Nothing = []
held_in (Single key) = key ∷ []
held_in (Many keys) = keys.value
held_in (Tall keys) = keys.value
