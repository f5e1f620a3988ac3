-- What a list of IDs holds.
use Rattle.std.specs.Prelude.{ℕ, List, [], ◌∷◌}
use Rattle.row_index.specs.declared.id_list.Ids.{Ids}
use Rattle.row_index.specs.declared.id_list.Ids.TheVariants.{Nothing, Single, Many}

-- the IDs, in whichever form they are held
abbrev pub ids_in : Ids → List ℕ
ids_in Nothing = []
ids_in (Single id) = id ∷ []
ids_in (Many ids) = ids.value
