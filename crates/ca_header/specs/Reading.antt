-- What a stream of bytes begins with.
use Rattle.std.specs.Prelude.{ℕ, ◌+◌, ◌%◌, Bool, ◌==◌, ◌&&◌, nat_lt, nat_le, if◌then◌else◌, List, length, take, drop, Option, Some, None}
use Rattle.byteorder.specs.Endian.{big_number}
use Rattle.ca_header.specs.declared.header.Header.{Header}
use Rattle.ca_header.specs.declared.header.Message.{Message}
use Rattle.ca_header.specs.declared.header.TheConstants.{ALIGNMENT, EXTENDED_LEN, EXTENDED_MARK, MAX_PAYLOAD, PLAIN_LEN}
use Rattle.ca_header.specs.declared.reading.Head.{Head}
use Rattle.ca_header.specs.declared.reading.Head.TheVariants as heads
use Rattle.ca_header.specs.declared.reading.FrameFault.{FrameFault}
use Rattle.ca_header.specs.declared.reading.FrameFault.TheVariants as faults
use Rattle.ca_header.specs.declared.reading.Front.{Front}
use Rattle.ca_header.specs.declared.reading.Front.TheVariants.{Whole, Partial, Fault}

-- the number in the n bytes from place i on, the highest byte first
abbrev pub number_at : ℕ → ℕ → List ℕ → ℕ
number_at n i bytes = big_number n (drop i bytes)

-- the header that the bytes begin with, read in the plain form
abbrev pub plain_at : List ℕ → Header
plain_at bytes =
    record { command = number_at 2 0 bytes; dtype = number_at 2 4 bytes; p1 = number_at 4 8 bytes; p2 = number_at 4 12 bytes; count = number_at 2 6 bytes; size = number_at 2 2 bytes }

-- the same, read in the extended form
abbrev pub extended_at : List ℕ → Header
extended_at bytes = record (plain_at bytes) { size = number_at 4 16 bytes; count = number_at 4 20 bytes }

-- whether the size and the count field say that the header is extended
abbrev pub is_extended : List ℕ → Bool
is_extended bytes = (number_at 2 2 bytes == EXTENDED_MARK) && (number_at 2 6 bytes == 0)

-- the header that the bytes begin with, and how many bytes it takes; none where more bytes are needed
unfoldable pub header_at : List ℕ → Option (Header × ℕ)
header_at bytes =
    if nat_lt (length bytes) PLAIN_LEN then None
    else if is_extended bytes then (if nat_lt (length bytes) EXTENDED_LEN then None else Some (extended_at bytes, EXTENDED_LEN))
    else Some (plain_at bytes, PLAIN_LEN)

-- a fact of the header and its length, where there is one
abbrev pub IfGot : Head → (Header → ℕ → Type 0) → Type 0
IfGot (heads.Got h n) P = P h n
IfGot _ P = Unit {0}

-- whether a header of n bytes may head a message
abbrev pub verdict : Header → ℕ → Head
verdict h n =
    if h.size % ALIGNMENT == 0 then (if nat_le h.size MAX_PAYLOAD then heads.Got h n else heads.TooLarge) else heads.Misaligned

-- what is read of a header that has this fault
abbrev pub refused : FrameFault → Head
refused faults.Misaligned = heads.Misaligned
refused faults.TooLarge = heads.TooLarge

abbrev pub judged : Option (Header × ℕ) → Head
judged None = heads.Need
judged (Some found) = verdict found.0 found.1

-- what the bytes begin with
abbrev pub head_at : List ℕ → Head
head_at bytes = judged (header_at bytes)

-- what stands at the front of so many bytes, given what they begin with
abbrev pub front_of : Head → ℕ → Front
front_of heads.Need len = Partial
front_of (heads.Got h n) len = if nat_le (n + h.size) len then Whole h n else Partial
front_of heads.Misaligned len = Fault faults.Misaligned
front_of heads.TooLarge len = Fault faults.TooLarge

-- what stands at the front of the bytes
abbrev pub front_at : List ℕ → Front
front_at bytes = front_of (head_at bytes) (length bytes)

-- a fact of the header and its length, where a whole message stands there
abbrev pub IfWhole : Front → (Header → ℕ → Type 0) → Type 0
IfWhole (Whole h n) P = P h n
IfWhole _ P = Unit {0}

-- the message at the front, where its header takes n bytes
abbrev pub first_message : Header → ℕ → List ℕ → Message
first_message h n bytes = record { head = h; payload = take h.size (drop n bytes) }

-- what follows it
abbrev pub after_first : Header → ℕ → List ℕ → List ℕ
after_first h n bytes = drop (n + h.size) bytes
