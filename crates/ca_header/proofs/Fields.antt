-- The fields of a header, written and read.
use Rattle.std.proofs.Common.{◌≡◌, ℕ, ◌+◌, ◌^◌, ◌<◌, ◌≤◌, List, [], ◌∷◌, ◌++◌, length, take, drop, refl, sym, ap, subst, ◌∙◌, arith, inl, inr, lit<}
use Rattle.std.specs.Int.{w16, w32, to_be_bytes}
use Rattle.std.proofs.Math.Seq.{take-add}
use Rattle.std.proofs.lemmas.Bool.{cases_lt}
use Rattle.std.proofs.lemmas.List.{length-drop, length-take, get_or-drop, get_or-take, get_or_past}
use Rattle.std.proofs.lemmas.Nat.{be_bytes_2, be_bytes_4}
use Rattle.byteorder.specs.Endian.{big_number}
use Rattle.byteorder.specs.Numbers.{big_number-reads_back}
use Rattle.ca_header.specs.declared.header.Header.{Header}
use Rattle.ca_header.specs.declared.header.TheConstants.{EXTENDED_MARK}
use Rattle.ca_header.specs.Header.{extended_header, leading_fields}
use Rattle.ca_header.specs.Reading.{extended_at, number_at, plain_at}
use Rattle.ca_header.specs.Spelling.{IsBytes, IsHeader}

pub IsBytes-drop : (n : ℕ) (bytes : List ℕ) → IsBytes bytes → IsBytes (drop n bytes)
IsBytes-drop n bytes fits i = rw get_or-drop (fits (n + i))

pub IsBytes-take : (n : ℕ) (bytes : List ℕ) → IsBytes bytes → IsBytes (take n bytes)
IsBytes-take n bytes fits i =
    elim (cases_lt i n) [
      | inl lt ↦ rw (get_or-take n bytes i 0 lt) (fits i)
      | inr le ↦ rw (get_or_past (take n bytes) i 0 (omega (arith, length-take n bytes))) (omega arith)
    ]

-- a number that is read is written as the bytes that it was read from
two_bytes : (bytes : List ℕ) → IsBytes bytes → 2 ≤ length bytes → to_be_bytes w16 (big_number 2 bytes) ≡ take 2 bytes
two_bytes [] fits long = absurd (omega arith)
two_bytes (a ∷ []) fits long = absurd (omega arith)
two_bytes (a ∷ b ∷ rest) fits long =
    be_bytes_2 (a ∷ b ∷ []) (big_number 2 (a ∷ b ∷ rest)) refl (IsBytes-take 2 (a ∷ b ∷ rest) fits) (omega arith)

four_bytes : (bytes : List ℕ) → IsBytes bytes → 4 ≤ length bytes → to_be_bytes w32 (big_number 4 bytes) ≡ take 4 bytes
four_bytes [] fits long = absurd (omega arith)
four_bytes (a ∷ []) fits long = absurd (omega arith)
four_bytes (a ∷ b ∷ []) fits long = absurd (omega arith)
four_bytes (a ∷ b ∷ c ∷ []) fits long = absurd (omega arith)
four_bytes (a ∷ b ∷ c ∷ d ∷ rest) fits long =
    be_bytes_4 (a ∷ b ∷ c ∷ d ∷ []) (big_number 4 (a ∷ b ∷ c ∷ d ∷ rest)) refl (IsBytes-take 4 (a ∷ b ∷ c ∷ d ∷ rest) fits) (omega arith)

two_at : (i : ℕ) (bytes : List ℕ) → IsBytes bytes → i + 2 ≤ length bytes → to_be_bytes w16 (number_at 2 i bytes) ≡ take 2 (drop i bytes)
two_at i bytes fits long = two_bytes (drop i bytes) (IsBytes-drop i bytes fits) (omega (arith, length-drop i bytes))

four_at : (i : ℕ) (bytes : List ℕ) → IsBytes bytes → i + 4 ≤ length bytes → to_be_bytes w32 (number_at 4 i bytes) ≡ take 4 (drop i bytes)
four_at i bytes fits long = four_bytes (drop i bytes) (IsBytes-drop i bytes fits) (omega (arith, length-drop i bytes))

joined : {a b c d e f a' b' c' d' e' f' : List ℕ} → a ≡ a' → b ≡ b' → c ≡ c' → d ≡ d' → e ≡ e' → f ≡ f' → a ++ b ++ c ++ d ++ e ++ f ≡ a' ++ b' ++ c' ++ d' ++ e' ++ f'
joined p q r s t u = cc

joined3 : {a b c a' b' c' : List ℕ} → a ≡ a' → b ≡ b' → c ≡ c' → a ++ b ++ c ≡ a' ++ b' ++ c'
joined3 p q r = cc

-- the leading fields that are read are the sixteen bytes that they were read from
pub leading-read : (bytes : List ℕ) → IsBytes bytes → 16 ≤ length bytes → leading_fields (plain_at bytes) (number_at 2 2 bytes) (number_at 2 6 bytes) ≡ take 16 bytes
leading-read bytes fits long =
    joined (two_at 0 bytes fits (omega arith)) (two_at 2 bytes fits (omega arith)) (two_at 4 bytes fits (omega arith))
    (two_at 6 bytes fits (omega arith)) (four_at 8 bytes fits (omega arith)) (four_at 12 bytes fits (omega arith))
    ∙ sym (rw (take-add 12 4 bytes, take-add 8 4 bytes, take-add 6 2 bytes, take-add 4 2 bytes, take-add 2 2 bytes) refl)

abbrev header_of : ℕ → ℕ → ℕ → ℕ → ℕ → ℕ → Header
header_of command dtype p1 p2 count size = record { command = command; dtype = dtype; p1 = p1; p2 = p2; count = count; size = size }

fields_are : {command dtype p1 p2 count size : ℕ} (h : Header) → command ≡ h.command → dtype ≡ h.dtype → p1 ≡ h.p1 → p2 ≡ h.p2 → count ≡ h.count → size ≡ h.size
    → header_of command dtype p1 p2 count size ≡ h
fields_are {dtype = dtype} {p1 = p1} {p2 = p2} {count = count} {size = size} h a b c d e f =
    ap (λ (x : ℕ). header_of x dtype p1 p2 count size) a
    ∙ ap (λ (x : ℕ). header_of h.command x p1 p2 count size) b
    ∙ ap (λ (x : ℕ). header_of h.command h.dtype x p2 count size) c
    ∙ ap (λ (x : ℕ). header_of h.command h.dtype h.p1 x count size) d
    ∙ ap (λ (x : ℕ). header_of h.command h.dtype h.p1 h.p2 x size) e
    ∙ ap (λ (x : ℕ). header_of h.command h.dtype h.p1 h.p2 h.count x) f

-- the fields that are read are those that were written
pub plain_at-leading : (h : Header) (size count : ℕ) (rest : List ℕ) → IsHeader h → size < 2 ^ 16 → count < 2 ^ 16
    → plain_at (leading_fields h size count ++ rest) ≡ record h { size = size; count = count }
plain_at-leading h size count rest fits narrow few =
    fields_are (record h { size = size; count = count })
    (big_number-reads_back 2 h.command (drop 2 (leading_fields h size count ++ rest)) fits.command)
    (big_number-reads_back 2 h.dtype (drop 6 (leading_fields h size count ++ rest)) fits.dtype)
    (big_number-reads_back 4 h.p1 (drop 12 (leading_fields h size count ++ rest)) fits.p1)
    (big_number-reads_back 4 h.p2 (drop 16 (leading_fields h size count ++ rest)) fits.p2)
    (big_number-reads_back 2 count (drop 8 (leading_fields h size count ++ rest)) few)
    (big_number-reads_back 2 size (drop 4 (leading_fields h size count ++ rest)) narrow)

pub extended_at-extended : (h : Header) (rest : List ℕ) → IsHeader h → extended_at (extended_header h ++ rest) ≡ h
extended_at-extended h rest fits =
    let leading = plain_at-leading h EXTENDED_MARK 0 (to_be_bytes w32 h.size ++ to_be_bytes w32 h.count ++ rest) fits (lit< tt) (lit< tt) in
    fields_are h (ap (λ (g : Header). g.command) leading) (ap (λ (g : Header). g.dtype) leading) (ap (λ (g : Header). g.p1) leading) (ap (λ (g : Header). g.p2) leading)
    (big_number-reads_back 4 h.count rest fits.count)
    (big_number-reads_back 4 h.size (to_be_bytes w32 h.count ++ rest) fits.size)

-- the extended header that is read is the twenty-four bytes that it was read from
pub extended-read : (bytes : List ℕ) → IsBytes bytes → 24 ≤ length bytes → number_at 2 2 bytes ≡ EXTENDED_MARK → number_at 2 6 bytes ≡ 0
    → extended_header (extended_at bytes) ≡ take 24 bytes
extended-read bytes fits long mark zero_count =
    let leading : leading_fields (plain_at bytes) EXTENDED_MARK 0 ≡ take 16 bytes = subst (λ (size : ℕ). leading_fields (plain_at bytes) size 0 ≡ take 16 bytes) mark (subst (λ (count : ℕ). leading_fields (plain_at bytes) (number_at 2 2 bytes) count ≡ take 16 bytes) zero_count (leading-read bytes fits (omega arith))) in
    joined3 leading (four_at 16 bytes fits (omega arith)) (four_at 20 bytes fits (omega arith))
    ∙ sym (rw (take-add 20 4 bytes, take-add 16 4 bytes) refl)
