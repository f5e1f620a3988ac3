-- What a list of keys holds.
use Rattle.std.specs.Prelude.{List, [], ◌∷◌}
use Rattle.row_index.specs.declared.key.Key.{Key}
use Rattle.row_index.specs.declared.key_list.Keys.{Keys}
use Rattle.row_index.specs.declared.key_list.Keys.TheVariants.{Nothing, Single, Many}

-- the keys, in whichever form they are held
abbrev pub keys_in : Keys → List Key
keys_in Nothing = []
keys_in (Single key) = key ∷ []
keys_in (Many keys) = keys.value
