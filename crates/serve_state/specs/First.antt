-- The first number that the gateway gives out.
use Rattle.std.specs.Prelude.{ℕ, List, Option, option_and_then}
use Rattle.decimal_text.specs.Numbers.{number_of}
use Rattle.serve_state.specs.Scale.{within}

-- the number that decimal digits write, from 1 to the last but one of 32 bits
abbrev pub first_of : List ℕ → Option ℕ
first_of digits = option_and_then (within 4294967294) (number_of 32 digits)
