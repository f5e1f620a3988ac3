-- What a link over memory has given and kept, and which of its calls fails.
use Rattle.std.specs.Prelude.{ℕ, ◌+◌, ◌<◌, ◌==◌, List, drop, length, min, Bool, false, Option, Some, None, vec_capacity}
use Rattle.session_worker.specs.declared.memory.MemoryLink.{MemoryLink}

-- the bytes that it will still give
abbrev pub bytes_left : MemoryLink → List ℕ
bytes_left link = drop link.at link.input.items

-- the bytes that were written to it
abbrev pub bytes_kept : MemoryLink → List ℕ
bytes_kept link = link.output.items

-- how many of its calls have failed
abbrev pub calls_failed : MemoryLink → ℕ
calls_failed link = link.faults

-- how many bytes it gives or keeps at once, at most
abbrev pub piece_length : MemoryLink → ℕ
piece_length link = link.piece

-- so many calls go well, and then one fails
abbrev pub is_last_of : Option ℕ → ℕ → Bool
is_last_of None k = false
is_last_of (Some n) k = n == k

-- whether its call number k, counted from now and from 0, is to fail
abbrev pub fails_at : MemoryLink → ℕ → Bool
fails_at link k = is_last_of link.calls_left k

-- what is written has no room yet: memory is asked for
abbrev pub AsksForMemory : MemoryLink → List ℕ → Type 0
AsksForMemory link bytes = vec_capacity link.output < length (bytes_kept link) + min (piece_length link) (length bytes)
