-- A word: the kind of text that names, hosts and groups are.
use Rattle.std.specs.Prelude.{◌≡◌, ℕ, ◌<◌, ◌≤◌, Bool, not, ◌&&◌, ◌==◌, nat_lt, nat_le, if◌then◌else◌, List, length, Result, Ok, Err, IsOk}
use Rattle.std.specs.Char.{is_ascii_graphic}
use Rattle.std.specs.List.{AllPass, list_all, position_or_len}
use Rattle.pv_name.specs.declared.fault.NameFault.{NameFault}
use Rattle.pv_name.specs.declared.fault.NameFault.TheVariants.{Empty, TooLong, BadByte, OutOfMemory}

-- from 1 byte to the limit, each printable and no blank (33 to 126)
pub record IsWord (limit : ℕ) (bytes : List ℕ) : Type 0 where
  pub some : 0 < length bytes
  pub short : length bytes ≤ limit
  pub printable : AllPass is_ascii_graphic bytes

-- the same as a test, which computes
abbrev pub is_word : ℕ → List ℕ → Bool
is_word limit bytes = nat_lt 0 (length bytes) && nat_le (length bytes) limit && list_all is_ascii_graphic bytes

-- a byte that no word has
abbrev pub is_bad : ℕ → Bool
is_bad b = not (is_ascii_graphic b)

-- the place of the first of them, counted from 0; the length where there is none
abbrev pub first_bad_place : List ℕ → ℕ
first_bad_place bytes = position_or_len is_bad bytes

-- the first fault of bytes that are no word
abbrev pub fault_of : ℕ → List ℕ → NameFault
fault_of limit bytes =
    if length bytes == 0 then Empty
    else if nat_lt limit (length bytes) then TooLong
    else BadByte (first_bad_place bytes)

-- what reading gives: a word as it stands, or else its first fault
abbrev pub reading : ℕ → List ℕ → Result (List ℕ) NameFault
reading limit bytes = if is_word limit bytes then Ok bytes else Err (fault_of limit bytes)

-- the answer is what reading gives, but that a word may be refused for want of memory
abbrev pub Reads : Result (List ℕ) NameFault → Result (List ℕ) NameFault → Type 0
Reads (Err OutOfMemory) read = IsOk read
Reads answer read = read ≡ answer
