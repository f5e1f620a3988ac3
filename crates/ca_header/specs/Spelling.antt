-- The spellings of headers and messages: what a stream may hold for them.
use Rattle.std.specs.Prelude.{◌≡◌, ◌≢◌, ℕ, ◌%◌, ◌^◌, ◌<◌, ◌≤◌, ◌⊎◌, List, [], ◌∷◌, ◌++◌, length, slice_index}
use Rattle.ca_header.specs.declared.header.Header.{Header}
use Rattle.ca_header.specs.declared.header.Message.{Message}
use Rattle.ca_header.specs.declared.header.TheConstants.{ALIGNMENT, EXTENDED_MARK, MAX_PAYLOAD}
use Rattle.ca_header.specs.declared.reading.FrameFault.{FrameFault}
use Rattle.ca_header.specs.declared.reading.FrameFault.TheVariants.{Misaligned, TooLarge}
use Rattle.ca_header.specs.Header.{extended_header, plain_header}

-- each number of the list is a byte
abbrev pub IsBytes : List ℕ → Type 0
IsBytes bytes = (i : ℕ) → slice_index bytes i < 256

-- the numbers fit in a header's fields
pub record IsHeader (h : Header) : Type 0 where
  pub command : h.command < 2 ^ 16
  pub dtype : h.dtype < 2 ^ 16
  pub p1 : h.p1 < 2 ^ 32
  pub p2 : h.p2 < 2 ^ 32
  pub count : h.count < 2 ^ 32
  pub size : h.size < 2 ^ 32

-- the size and the count fit in the plain form's two bytes each, and do not say that the header is extended
pub record HasPlainForm (h : Header) : Type 0 where
  pub size : h.size < 2 ^ 16
  pub count : h.count < 2 ^ 16
  pub unmarked : ¬ ((h.size ≡ EXTENDED_MARK) × (h.count ≡ 0))

-- the bytes are one of the header's forms, which need not be the canonical one
abbrev pub IsSpelling : Header → List ℕ → Type 0
IsSpelling h bytes = IsHeader h × ((HasPlainForm h × (bytes ≡ plain_header h)) ⊎ (bytes ≡ extended_header h))

-- the header may head a message
pub record IsWellFormed (h : Header) : Type 0 where
  pub aligned : h.size % ALIGNMENT ≡ 0
  pub within_limit : h.size ≤ MAX_PAYLOAD

-- why it may not
abbrev pub HasFault : Header → FrameFault → Type 0
HasFault h Misaligned = h.size % ALIGNMENT ≢ 0
HasFault h TooLarge = (h.size % ALIGNMENT ≡ 0) × (MAX_PAYLOAD < h.size)

-- the bytes are a spelling of the message's header, and then its payload
pub record IsSpelled (m : Message) (bytes : List ℕ) : Type 0 where
  pub head : List ℕ
  pub spelling : IsSpelling m.head head
  pub well_formed : IsWellFormed m.head
  pub size : length m.payload ≡ m.head.size
  pub parts : bytes ≡ head ++ m.payload

-- the bytes are spellings of the messages, one after the other
abbrev pub AreSpelled : List Message → List ℕ → Type 0
AreSpelled [] bytes = bytes ≡ []
AreSpelled (m ∷ ms) bytes = (first rest : List ℕ) × IsSpelled m first × AreSpelled ms rest × (bytes ≡ first ++ rest)

-- the bytes begin with a spelling of the header that has n bytes
pub record BeginsWith (bytes : List ℕ) (h : Header) (n : ℕ) : Type 0 where
  pub head : List ℕ
  pub rest : List ℕ
  pub spelling : IsSpelling h head
  pub len : length head ≡ n
  pub parts : bytes ≡ head ++ rest

-- the bytes are the beginning of a longer text
pub record IsProperPrefix (bytes text : List ℕ) : Type 0 where
  pub missing : List ℕ
  pub some_missing : 0 < length missing
  pub parts : bytes ++ missing ≡ text
