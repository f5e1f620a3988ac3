-- Names of groups.
use Rattle.std.specs.Prelude.{ℕ, Bool, List}
use Rattle.pv_name.specs.Word.{IsWord, is_word}
use Rattle.pv_name.specs.declared.group.TheConstants.{GROUP_LIMIT}

-- the bytes are the name of a group
abbrev pub IsGroup : List ℕ → Type 0
IsGroup bytes = IsWord GROUP_LIMIT bytes

-- the same as a test
abbrev pub is_group : List ℕ → Bool
is_group bytes = is_word GROUP_LIMIT bytes
