-- The number that decimal digits write.
use Rattle.std.specs.Prelude.{ℕ, ◌^◌, ◌&&◌, nat_lt, if◌then◌else◌, List, length, Option, Some, None, option_and_then}
use Rattle.std.specs.Char.{is_digit}
use Rattle.std.specs.List.{list_all}
use Rattle.std.specs.Str.Parse.{digits_value}

-- the number that decimal digits write: one digit or more, and nothing else
abbrev pub numeral : List ℕ → Option ℕ
numeral digits =
    if nat_lt 0 (length digits) && list_all (λ digit. is_digit digit 10) digits then Some (digits_value 10 digits) else None

-- a number that fits so many bits
abbrev pub fitting : ℕ → ℕ → Option ℕ
fitting bits n = if nat_lt n (2 ^ bits) then Some n else None

-- the number of so many bits that digits write
abbrev pub number_of : ℕ → List ℕ → Option ℕ
number_of bits digits = option_and_then (fitting bits) (numeral digits)
