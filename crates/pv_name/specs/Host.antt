-- Texts of hosts.
use Rattle.std.specs.Prelude.{◌≡◌, ℕ, Bool, List, map, bytes_eq}
use Rattle.std.specs.Char.{to_ascii_lowercase}
use Rattle.pv_name.specs.Word.{IsWord, is_word}
use Rattle.pv_name.specs.declared.host.TheConstants.{HOST_LIMIT}

-- the bytes are the text of a host
abbrev pub IsHost : List ℕ → Type 0
IsHost bytes = IsWord HOST_LIMIT bytes

-- the same as a test
abbrev pub is_host : List ℕ → Bool
is_host bytes = is_word HOST_LIMIT bytes

-- the bytes with each ASCII letter in lower case
abbrev pub lowercase : List ℕ → List ℕ
lowercase bytes = map to_ascii_lowercase bytes

-- the hosts differ at most in the case of ASCII letters
abbrev pub IsSameHost : List ℕ → List ℕ → Type 0
IsSameHost a b = lowercase a ≡ lowercase b

-- the same as a test
abbrev pub same_host : List ℕ → List ℕ → Bool
same_host a b = bytes_eq (lowercase a) (lowercase b)
