-- How much may wait for all clients together, and who is cut off where more does.
use Rattle.std.specs.Prelude.{◌≡◌, ℕ, ◌*◌, ◌^◌, ◌==◌, ◌<◌, ◌≤◌, nat_lt, if◌then◌else◌, List, [], ◌∷◌, drop, length, Option, Some, None, option_and_then}
use Rattle.std.specs.List.{sum_by}
use Rattle.std.specs.List.Sorted.{IsPermutation, IsSorted}
use Rattle.std.specs.Ordering.{nat_cmp, ordering_then}
use Rattle.std.specs.declared.cmp.Ordering.{Ordering}
use Rattle.decimal_text.specs.Numbers.{number_of}
use Rattle.serve_state.specs.declared.in_all.MostInAll.{MostInAll}
use Rattle.serve_state.specs.declared.in_all.WaitingBytes.{WaitingBytes}

-- a number of MiB that isn't 0
abbrev pub some_in_all : ℕ → Option MostInAll
some_in_all n = if n == 0 then None else Some (record { mib = n })

-- the number of MiB that decimal digits write
abbrev pub in_all_of : List ℕ → Option MostInAll
in_all_of digits = option_and_then some_in_all (number_of 32 digits)

-- so many bytes may wait for all clients together
abbrev pub bytes_in_all : MostInAll → ℕ
bytes_in_all most = most.mib * 2 ^ 20

-- for whom more bytes wait comes first, and of two for whom as many do the lower number
abbrev pub by_bytes : WaitingBytes → WaitingBytes → Ordering
by_bytes a b = ordering_then (nat_cmp b.bytes a.bytes) (nat_cmp a.number b.number)

-- how many bytes wait for all of them
abbrev pub bytes_of : List WaitingBytes → ℕ
bytes_of clients = sum_by (λ client. client.bytes) clients

-- from the front as few as leave at most so many bytes
abbrev pub front_over : ℕ → List WaitingBytes → List WaitingBytes
front_over most [] = []
front_over most (client ∷ clients) = if nat_lt most (bytes_of (client ∷ clients)) then client ∷ front_over most clients else []

-- these are the clients that are cut off: as few as leave no more bytes than may wait, those first for whom most wait
pub record IsCutFor (most : MostInAll) (clients gone : List WaitingBytes) : Type 0 where
  pub sorted : List WaitingBytes
  pub moved : IsPermutation clients sorted
  pub order : IsSorted by_bytes sorted
  pub front : gone ≡ front_over (bytes_in_all most) sorted

-- those of the front are enough for what is left to be no more, and each of them is needed
pub record IsFewest (most : ℕ) (clients front : List WaitingBytes) : Type 0 where
  pub enough : bytes_of (drop (length front) clients) ≤ most
  pub needed : (k : ℕ) → k < length front → most < bytes_of (drop k clients)
