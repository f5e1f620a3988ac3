-- Lists of rows.
use Rattle.std.specs.Prelude.{List, [], ◌∷◌, Bool, if◌then◌else◌}

-- the list with its first row that passes changed; the same list where none passes
abbrev pub change_first : {A : Type 0} → (A → Bool) → (A → A) → List A → List A
change_first p f [] = []
change_first p f (row ∷ rows) = if p row then f row ∷ rows else row ∷ change_first p f rows

-- the list without its first row that passes; the same list where none passes
abbrev pub remove_first : {A : Type 0} → (A → Bool) → List A → List A
remove_first p [] = []
remove_first p (row ∷ rows) = if p row then rows else row ∷ remove_first p rows
