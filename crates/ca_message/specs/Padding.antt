-- Padding of payloads.
use Rattle.std.specs.Prelude.{ℕ, ◌-◌, ◌%◌, List, [], ◌∷◌, ◌++◌, length, replicate}
use Rattle.ca_header.specs.declared.header.TheConstants.{ALIGNMENT}

-- how many bytes are missing from this many to a multiple of 8
abbrev pub missing_bytes : ℕ → ℕ
missing_bytes n = (ALIGNMENT - n % ALIGNMENT) % ALIGNMENT

-- the bytes, and zero bytes up to a multiple of 8
abbrev pub padded : List ℕ → List ℕ
padded bytes = bytes ++ replicate (missing_bytes (length bytes)) 0

-- a text as it stands at the end of a payload: its bytes, a NUL, and padding
abbrev pub nul_ended : List ℕ → List ℕ
nul_ended text = padded (text ++ 0 ∷ [])
