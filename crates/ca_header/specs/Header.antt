-- Headers and messages as they are sent.
use Rattle.std.specs.Prelude.{ℕ, List, ◌++◌, nat_le, ◌||◌, if◌then◌else◌}
use Rattle.std.specs.Int.{w16, w32, to_be_bytes}
use Rattle.ca_header.specs.declared.header.Header.{Header}
use Rattle.ca_header.specs.declared.header.Message.{Message}
use Rattle.ca_header.specs.declared.header.TheConstants.{EXTENDED_MARK}

-- the sixteen bytes that a header begins with, given what stands in its size and its count field
abbrev pub leading_fields : Header → ℕ → ℕ → List ℕ
leading_fields h size count =
    to_be_bytes w16 h.command ++ to_be_bytes w16 size ++ to_be_bytes w16 h.dtype ++ to_be_bytes w16 count ++ to_be_bytes w32 h.p1 ++ to_be_bytes w32 h.p2

-- the plain form, of 16 bytes
abbrev pub plain_header : Header → List ℕ
plain_header h = leading_fields h h.size h.count

-- the extended form, of 24 bytes: the size and the count stand behind the others
abbrev pub extended_header : Header → List ℕ
extended_header h = leading_fields h EXTENDED_MARK 0 ++ to_be_bytes w32 h.size ++ to_be_bytes w32 h.count

-- the form in which a header is sent
abbrev pub canonical_header : Header → List ℕ
canonical_header h =
    if nat_le EXTENDED_MARK h.size || nat_le EXTENDED_MARK h.count then extended_header h else plain_header h

-- a message as it is sent
abbrev pub message_text : Message → List ℕ
message_text m = canonical_header m.head ++ m.payload
