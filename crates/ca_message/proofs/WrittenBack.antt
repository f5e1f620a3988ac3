-- What is handed on of a value: its length, and that it is read as the same value.
use Rattle.std.proofs.Common.{◌≡◌, ℕ, zero, suc, ◌*◌, ◌-◌, ◌≤◌, Bool, true, false, cond, List, [], ◌∷◌, ◌++◌, length, take, replicate, Option, Some, None, Result, Ok, Err, refl, ap, sym, ◌∙◌, arith, length-append}
use Rattle.std.specs.Prelude.{not, ◌==◌, ◌||◌, nat_lt, if◌then◌else◌}
use Rattle.std.specs.List.{before_first, position_or_len, prefix_len, take_while}
use Rattle.std.proofs.lemmas.Bool.Decides.{nat_tests}
use Rattle.std.proofs.lemmas.List.{length-replicate, length-take, length-take-le, take_at}
use Rattle.std.proofs.lemmas.List.Folds.{prefix_len-append}
use Rattle.std.proofs.lemmas.List.Sums.{take_while-cons}
use Rattle.ca_header.specs.declared.header.TheConstants.{MAX_PAYLOAD}
use Rattle.dbr_layout.specs.declared.dbr.Base.{Base}
use Rattle.dbr_layout.specs.declared.dbr.Base.TheVariants as base
use Rattle.dbr_layout.specs.declared.dbr.Dbr.{Dbr}
use Rattle.dbr_layout.specs.Dbr.{element_size}
use Rattle.dbr_layout.specs.Layout.{filled_to}
use Rattle.ca_message.specs.Padding.{missing_bytes, padded}
use Rattle.ca_message.specs.Text.{is_nul}
use Rattle.ca_message.specs.Written.{Written, counted_value, is_string, string_bytes, string_value, value_of, whole_value}
use Rattle.ca_message.specs.declared.written.WriteFault.{WriteFault}
use Rattle.ca_message.specs.declared.written.WriteFault.TheVariants.{Short, BadCount}

-- what is left of an answer that a test might have refused

tested : (t : Bool) (fault : WriteFault) (answer : Result Written WriteFault) (value : Written) → (if t then Err fault else answer) ≡ Ok value → (t ≡ false) × (answer ≡ Ok value)
tested true fault answer value h = absurd (cc)
tested false fault answer value h = (refl, h)

same_value : (a b : Written) (answer : Result Written WriteFault) → answer ≡ Ok a → answer ≡ Ok b → a ≡ b
same_value a b answer e h = cc

-- texts without a NUL

abbrev is_text : ℕ → Bool
is_text b = not (is_nul b)

prefix_len-if : (x : ℕ) (xs : List ℕ) (t : Bool) → is_text x ≡ t → prefix_len is_text xs ≡ length xs → prefix_len is_text (cond t (x ∷ xs) []) ≡ length (cond t (x ∷ xs) [])
prefix_len-if x xs true passes e = rw passes (omega arith)
prefix_len-if x xs false passes e = refl

prefix_len-take_while : (xs : List ℕ) → prefix_len is_text (take_while is_text xs) ≡ length (take_while is_text xs)
prefix_len-take_while [] = refl
prefix_len-take_while (x ∷ xs) = rw (take_while-cons is_text x xs) (prefix_len-if x (take_while is_text xs) (is_text x) refl (prefix_len-take_while xs))

prefix_len-zeros : (k : ℕ) → prefix_len is_text (replicate k 0) ≡ 0
prefix_len-zeros zero = refl
prefix_len-zeros (suc k) = refl

-- the first NUL behind a text is that of the zero bytes
first_nul-filled : (xs : List ℕ) (k : ℕ) → position_or_len is_nul (before_first is_nul xs ++ replicate k 0) ≡ length (before_first is_nul xs)
first_nul-filled xs k =
    let text : List ℕ = take_while is_text xs in
    let parts = prefix_len-append is_text text (replicate k 0) in
    let front = prefix_len-take_while xs in
    let behind = prefix_len-zeros k in
    grind (arith, nat_tests, parts, front, behind)

text-filled : (xs : List ℕ) (k : ℕ) → before_first is_nul (before_first is_nul xs ++ replicate k 0) ≡ before_first is_nul xs
text-filled xs k = rw (first_nul-filled xs k) (take_at (before_first is_nul xs) (replicate k 0) _ refl)

-- a single STRING

length-string_bytes : (payload : List ℕ) → length (string_bytes payload) ≡ 40
length-string_bytes payload =
    let text : List ℕ = before_first is_nul (take 40 payload) in
    let short : length text ≤ 40 = omega (arith, length-take (position_or_len is_nul (take 40 payload)) (take 40 payload), length-take 40 payload) in
    simp (length-append, length-replicate) (omega arith)

string_bytes-padded : (payload : List ℕ) → string_bytes (padded (string_bytes payload)) ≡ string_bytes payload
string_bytes-padded payload =
    let text : List ℕ = before_first is_nul (take 40 payload) in
    let behind : List ℕ = replicate (missing_bytes (length (string_bytes payload))) 0 in
    let front : take 40 (string_bytes payload ++ behind) ≡ string_bytes payload = take_at (string_bytes payload) behind 40 (length-string_bytes payload) in
    rw front (ap (filled_to 40) (text-filled (take 40 payload) (40 - length text)))

string_value-bytes : (dtype : ℕ) (payload : List ℕ) (value : Written) → string_value dtype payload ≡ Ok value → record { dtype = dtype; count = 1; bytes = string_bytes payload } ≡ value
string_value-bytes dtype payload value h =
    same_value (record { dtype = dtype; count = 1; bytes = string_bytes payload }) value _ refl
    (tested (length payload == 0) Short (Ok (record { dtype = dtype; count = 1; bytes = string_bytes payload })) value h).1

length-string_value : (dtype : ℕ) (payload : List ℕ) (value : Written) → string_value dtype payload ≡ Ok value → length value.bytes ≡ 40
length-string_value dtype payload value h = rw (← string_value-bytes dtype payload value h) (length-string_bytes payload)

string_value-padded : (dtype : ℕ) (payload : List ℕ) (value : Written) → string_value dtype payload ≡ Ok value → string_value dtype (padded value.bytes) ≡ Ok value
string_value-padded dtype payload value h =
    let is = string_value-bytes dtype payload value h in
    let some : (length (padded (string_bytes payload)) == 0) ≡ false = grind (arith, nat_tests, length-string_bytes payload, length-append (string_bytes payload) (replicate (missing_bytes (length (string_bytes payload))) 0)) in
    rw (← is) (rw (some, string_bytes-padded payload) refl)

-- a value of so many bytes

whole_value-parts : (dtype count size : ℕ) (payload : List ℕ) (value : Written) → whole_value dtype count size payload ≡ Ok value → (size ≤ length payload) × (record { dtype = dtype; count = count; bytes = take size payload } ≡ value)
whole_value-parts dtype count size payload value h =
    let parts = tested (nat_lt (length payload) size) Short (Ok (record { dtype = dtype; count = count; bytes = take size payload })) value h in
    let long : nat_lt (length payload) size ≡ false = parts.0 in
    (grind (arith, nat_tests, long), same_value (record { dtype = dtype; count = count; bytes = take size payload }) value _ refl parts.1)

length-whole_value : (dtype count size : ℕ) (payload : List ℕ) (value : Written) → whole_value dtype count size payload ≡ Ok value → length value.bytes ≡ size
length-whole_value dtype count size payload value h =
    let parts = whole_value-parts dtype count size payload value h in
    rw (← parts.1) (length-take-le size payload parts.0)

whole_value-padded : (dtype count size : ℕ) (payload : List ℕ) (value : Written) → whole_value dtype count size payload ≡ Ok value → whole_value dtype count size (padded value.bytes) ≡ Ok value
whole_value-padded dtype count size payload value h =
    let parts = whole_value-parts dtype count size payload value h in
    let len : length (take size payload) ≡ size = length-take-le size payload parts.0 in
    let behind : List ℕ = replicate (missing_bytes (length (take size payload))) 0 in
    let front : take size (take size payload ++ behind) ≡ take size payload = take_at (take size payload) behind size len in
    let long : nat_lt (length (take size payload ++ behind)) size ≡ false = grind (arith, nat_tests, length-append (take size payload) behind) in
    rw (← parts.1) (rw (long, front) refl)

-- either of them, by the base and the count

element_size-string : (b : Base) → is_string b ≡ true → element_size b ≡ 40
element_size-string base.String e = refl
element_size-string base.Short e = absurd (cc)
element_size-string base.Float e = absurd (cc)
element_size-string base.Enum e = absurd (cc)
element_size-string base.Char e = absurd (cc)
element_size-string base.Long e = absurd (cc)
element_size-string base.Double e = absurd (cc)

chosen-sized : (s one : Bool) (dtype count size : ℕ) (payload : List ℕ) (value : Written) → (s ≡ true → one ≡ true → size ≡ 40)
    → (if s then (if one then string_value dtype payload else whole_value dtype count size payload) else whole_value dtype count size payload) ≡ Ok value → length value.bytes ≡ size
chosen-sized true true dtype count size payload value single h = length-string_value dtype payload value h ∙ sym (single refl refl)
chosen-sized true false dtype count size payload value single h = length-whole_value dtype count size payload value h
chosen-sized false one dtype count size payload value single h = length-whole_value dtype count size payload value h

chosen-fits : (s one : Bool) (dtype count size : ℕ) (payload : List ℕ) (value : Written)
    → (if s then (if one then string_value dtype payload else whole_value dtype count size payload) else whole_value dtype count size payload) ≡ Ok value
    → length payload ≤ MAX_PAYLOAD → length value.bytes ≤ MAX_PAYLOAD
chosen-fits true true dtype count size payload value h within = omega (arith, length-string_value dtype payload value h)
chosen-fits true false dtype count size payload value h within = omega (arith, length-whole_value dtype count size payload value h, (whole_value-parts dtype count size payload value h).0)
chosen-fits false one dtype count size payload value h within = omega (arith, length-whole_value dtype count size payload value h, (whole_value-parts dtype count size payload value h).0)

chosen-padded : (s one : Bool) (dtype count size : ℕ) (payload : List ℕ) (value : Written)
    → (if s then (if one then string_value dtype payload else whole_value dtype count size payload) else whole_value dtype count size payload) ≡ Ok value
    → (if s then (if one then string_value dtype (padded value.bytes) else whole_value dtype count size (padded value.bytes)) else whole_value dtype count size (padded value.bytes)) ≡ Ok value
chosen-padded true true dtype count size payload value h = string_value-padded dtype payload value h
chosen-padded true false dtype count size payload value h = whole_value-padded dtype count size payload value h
chosen-padded false one dtype count size payload value h = whole_value-padded dtype count size payload value h

-- any value

pub counted_value-sized : (dbr : Dbr) (dtype count native : ℕ) (payload : List ℕ) (value : Written) → counted_value (Some dbr) dtype count native payload ≡ Ok value → length value.bytes ≡ count * element_size dbr.base
counted_value-sized dbr dtype count native payload value h =
    let chosen = (tested (count == 0 || nat_lt native count) BadCount (value_of dbr.base dtype count payload) value h).1 in
    chosen-sized (is_string dbr.base) (count == 1) dtype count (count * element_size dbr.base) payload value
    (λ s one. let size = element_size-string dbr.base s in let single : count ≡ 1 = grind (arith, nat_tests, one) in rw (single, size) refl)
    chosen

pub counted_value-fits : (type : Option Dbr) (dtype count native : ℕ) (payload : List ℕ) (value : Written) → counted_value type dtype count native payload ≡ Ok value → length payload ≤ MAX_PAYLOAD → length value.bytes ≤ MAX_PAYLOAD
counted_value-fits None dtype count native payload value h = absurd (cc)
counted_value-fits (Some dbr) dtype count native payload value h =
    chosen-fits (is_string dbr.base) (count == 1) dtype count (count * element_size dbr.base) payload value
    (tested (count == 0 || nat_lt native count) BadCount (value_of dbr.base dtype count payload) value h).1

pub counted_value-padded : (type : Option Dbr) (dtype count native : ℕ) (payload : List ℕ) (value : Written) → counted_value type dtype count native payload ≡ Ok value → counted_value type dtype count native (padded value.bytes) ≡ Ok value
counted_value-padded None dtype count native payload value h = absurd (cc)
counted_value-padded (Some dbr) dtype count native payload value h =
    let parts = tested (count == 0 || nat_lt native count) BadCount (value_of dbr.base dtype count payload) value h in
    rw parts.0 (chosen-padded (is_string dbr.base) (count == 1) dtype count (count * element_size dbr.base) payload value parts.1)
