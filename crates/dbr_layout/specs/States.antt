-- The texts of states.
use Rattle.std.specs.Prelude.{ℕ, ◌+◌, ◌*◌, ◌==◌, nat_lt, pos, List, [], ◌∷◌, take, drop, min, if◌then◌else◌}
use Rattle.std.specs.Fmt.{signed_decimal}
use Rattle.byteorder.specs.Endian.{big_number}
use Rattle.dbr_layout.specs.declared.dbr.Base.TheVariants as base
use Rattle.dbr_layout.specs.Dbr.{element_size}
use Rattle.dbr_layout.specs.Layout.{filled_to}

-- the bytes before the first NUL
abbrev pub before_nul : List ℕ → List ℕ
before_nul [] = []
before_nul (byte ∷ bytes) = if byte == 0 then [] else byte ∷ before_nul bytes

-- how many states have texts: the number in front, none where it is negative as a SHORT, at most sixteen
abbrev pub state_count : List ℕ → ℕ
state_count states = let n : ℕ = big_number 2 states in if nat_lt 32767 n then 0 else min n 16

-- the 26 bytes of a state's text
abbrev pub text_at : ℕ → List ℕ → List ℕ
text_at n states = take 26 (drop (2 + n * 26) states)

-- what the number of a state is as a STRING: its text, or the decimal number where it has none
abbrev pub state_text : List ℕ → ℕ → List ℕ
state_text states n =
    filled_to (element_size base.String)
    (if nat_lt n (state_count states) then before_nul (text_at n states) else signed_decimal (pos n))
