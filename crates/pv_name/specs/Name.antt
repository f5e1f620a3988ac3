-- Names of process variables.
use Rattle.std.specs.Prelude.{ℕ, Bool, List}
use Rattle.pv_name.specs.Word.{IsWord, is_word}
use Rattle.pv_name.specs.declared.name.TheConstants.{NAME_LIMIT}

-- the bytes are the name of a process variable
abbrev pub IsName : List ℕ → Type 0
IsName bytes = IsWord NAME_LIMIT bytes

-- the same as a test
abbrev pub is_name : List ℕ → Bool
is_name bytes = is_word NAME_LIMIT bytes
