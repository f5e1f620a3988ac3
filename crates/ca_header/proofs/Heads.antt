-- What `header_at` finds is what the bytes spell.
use Rattle.std.proofs.Common.{◌≡◌, ℕ, zero, suc, ◌-◌, ◌^◌, ◌<◌, ◌≤◌, Bool, true, false, ◌&&◌, ◌||◌, ◌==◌, leb, List, ◌++◌, length, take, drop, Option, Some, None, refl, sym, ap, subst, ◌∙◌, append_assoc, arith, inl, inr, lit<}
use Rattle.std.proofs.lemmas.Bool.{and_from, and_parts, cases_Bool, cases_lt, eq-eqb, eqb-true, false≢true, le-ltb, leb-false, lt-ltb}
use Rattle.std.proofs.lemmas.List.{length-append, length-drop, length-replicate, length-take-le, take-append-drop, take-append-le}
use Rattle.std.proofs.Math.ListN.{get_or-append, replicate}
use Rattle.std.proofs.Math.Seq.{get_or-append_right, take-append_seam}
use Rattle.std.specs.Int.{w32, to_be_bytes}
use Rattle.byteorder.specs.Numbers.{big_from-lt}
use Rattle.ca_header.specs.declared.header.Header.{Header}
use Rattle.ca_header.specs.declared.header.TheConstants.{EXTENDED_MARK}
use Rattle.ca_header.specs.Framing.{IsPartHead}
use Rattle.ca_header.specs.Header.{canonical_header, extended_header, plain_header}
use Rattle.ca_header.specs.Reading.{extended_at, header_at, is_extended, number_at, plain_at}
use Rattle.ca_header.specs.Spelling.{BeginsWith, HasPlainForm, IsBytes, IsHeader, IsProperPrefix, IsSpelling}
use Rattle.ca_header.proofs.Fields.{IsBytes-drop, extended-read, extended_at-extended, leading-read, plain_at-leading}

or_parts : (x y : Bool) → (x || y) ≡ false → (x ≡ false) × (y ≡ false)
or_parts true y e = absurd cc
or_parts false y e = (refl, e)

-- ---- where the tests lead

header_at-plain : (bytes : List ℕ) → 16 ≤ length bytes → is_extended bytes ≡ false → header_at bytes ≡ Some (plain_at bytes, 16)
unfolding header_at
header_at-plain bytes long unmarked = rw (le-ltb (length bytes) 16 long, unmarked) refl

header_at-extended : (bytes : List ℕ) → 24 ≤ length bytes → is_extended bytes ≡ true → header_at bytes ≡ Some (extended_at bytes, 24)
unfolding header_at
header_at-extended bytes long marked =
    let first : 16 ≤ length bytes = omega arith in
    rw (le-ltb (length bytes) 16 first, marked, le-ltb (length bytes) 24 long) refl

header_at-short : (bytes : List ℕ) → length bytes < 16 → header_at bytes ≡ None
unfolding header_at
header_at-short bytes short = rw (lt-ltb (length bytes) 16 short) refl

header_at-cut : (bytes : List ℕ) → 16 ≤ length bytes → length bytes < 24 → is_extended bytes ≡ true → header_at bytes ≡ None
unfolding header_at
header_at-cut bytes long short marked = rw (le-ltb (length bytes) 16 long, marked, lt-ltb (length bytes) 24 short) refl

-- ---- a spelling is read

unmarked : (size count : ℕ) → ¬ ((size ≡ EXTENDED_MARK) × (count ≡ 0)) → ((size == EXTENDED_MARK) && (count == 0)) ≡ false
unmarked size count apart =
    elim (cases_Bool ((size == EXTENDED_MARK) && (count == 0))) [
      | inl marked ↦ let both = and_parts (size == EXTENDED_MARK) (count == 0) marked in
          absurd (apart (eqb-true size EXTENDED_MARK both.0, eqb-true count 0 both.1))
      | inr is ↦ is
    ]

header_at-plain_header : (h : Header) (rest : List ℕ) → IsHeader h → HasPlainForm h → header_at (plain_header h ++ rest) ≡ Some (h, 16)
header_at-plain_header h rest fits form =
    let fields : plain_at (plain_header h ++ rest) ≡ h = plain_at-leading h h.size h.count rest fits form.size form.count in
    let test : is_extended (plain_header h ++ rest) ≡ ((h.size == EXTENDED_MARK) && (h.count == 0)) = ap (λ (g : Header). (g.size == EXTENDED_MARK) && (g.count == 0)) fields in
    let long : 16 ≤ length (plain_header h ++ rest) = omega (arith, length-append (plain_header h) rest) in
    header_at-plain (plain_header h ++ rest) long (test ∙ unmarked h.size h.count form.unmarked) ∙ ap (λ (g : Header). Some (g, 16)) fields

header_at-extended_header : (h : Header) (rest : List ℕ) → IsHeader h → header_at (extended_header h ++ rest) ≡ Some (h, 24)
header_at-extended_header h rest fits =
    let behind = to_be_bytes w32 h.size ++ to_be_bytes w32 h.count in
    let leading : plain_at (extended_header h ++ rest) ≡ record h { size = EXTENDED_MARK; count = 0 } = plain_at-leading h EXTENDED_MARK 0 (behind ++ rest) fits (lit< tt) (lit< tt) in
    let test : is_extended (extended_header h ++ rest) ≡ true = ap (λ (g : Header). (g.size == EXTENDED_MARK) && (g.count == 0)) leading in
    let long : 24 ≤ length (extended_header h ++ rest) = omega (arith, length-append (extended_header h) rest) in
    header_at-extended (extended_header h ++ rest) long test ∙ ap (λ (g : Header). Some (g, 24)) (extended_at-extended h rest fits)

pub header_at-spelling : (h : Header) (head rest : List ℕ) → IsSpelling h head → header_at (head ++ rest) ≡ Some (h, length head)
header_at-spelling h head rest spelling =
    elim spelling.1 as (λ _. header_at (head ++ rest) ≡ Some (h, length head)) [
      | inl plain ↦ let P : List ℕ → Type 0 = λ bytes. header_at (bytes ++ rest) ≡ Some (h, length bytes) in
          subst P (sym plain.1) (header_at-plain_header h rest spelling.0 plain.0)
      | inr extended ↦ let P : List ℕ → Type 0 = λ bytes. header_at (bytes ++ rest) ≡ Some (h, length bytes) in
          subst P (sym extended) (header_at-extended_header h rest spelling.0)
    ]

pub header_at-begins : (bytes : List ℕ) (h : Header) (n : ℕ) → BeginsWith bytes h n → header_at bytes ≡ Some (h, n)
header_at-begins bytes h n begins =
    ap header_at begins.parts ∙ header_at-spelling h begins.head begins.rest begins.spelling ∙ ap (λ (k : ℕ). Some (h, k)) begins.len

-- the canonical form is a spelling
pub IsSpelling-canonical : (h : Header) → IsHeader h → IsSpelling h (canonical_header h)
IsSpelling-canonical h fits =
    elim (cases_Bool (leb EXTENDED_MARK h.size || leb EXTENDED_MARK h.count)) [
      | inl large ↦ (fits, inr (rw large refl))
      | inr small ↦ let both = or_parts (leb EXTENDED_MARK h.size) (leb EXTENDED_MARK h.count) small in
          let size = leb-false EXTENDED_MARK h.size both.0 in
          let count = leb-false EXTENDED_MARK h.count both.1 in
          (fits, inl (record { size = omega arith; count = omega arith; unmarked = λ marked. omega (arith, marked.0) }, rw small refl))
    ]

-- ---- what is read is a spelling

number_fits : (n i : ℕ) (bytes : List ℕ) → IsBytes bytes → number_at n i bytes < 256 ^ n
number_fits n i bytes fits = big_from-lt 0 n (drop i bytes) (IsBytes-drop i bytes fits)

IsHeader-plain_at : (bytes : List ℕ) → IsBytes bytes → IsHeader (plain_at bytes)
IsHeader-plain_at bytes fits =
    let narrow : number_at 2 2 bytes < 2 ^ 16 = number_fits 2 2 bytes fits in
    let few : number_at 2 6 bytes < 2 ^ 16 = number_fits 2 6 bytes fits in
    record {
      command = number_fits 2 0 bytes fits;
      dtype = number_fits 2 4 bytes fits;
      p1 = number_fits 4 8 bytes fits;
      p2 = number_fits 4 12 bytes fits;
      count = omega arith;
      size = omega arith;
    }

IsSpelling-plain_at : (bytes : List ℕ) → IsBytes bytes → 16 ≤ length bytes → is_extended bytes ≡ false → IsSpelling (plain_at bytes) (take 16 bytes)
IsSpelling-plain_at bytes fits long unmarked =
    let form : HasPlainForm (plain_at bytes) = record {
      size = number_fits 2 2 bytes fits;
      count = number_fits 2 6 bytes fits;
      unmarked = λ marked. absurd (false≢true (sym unmarked ∙ and_from (number_at 2 2 bytes == EXTENDED_MARK) (number_at 2 6 bytes == 0) (eq-eqb (number_at 2 2 bytes) EXTENDED_MARK marked.0) (eq-eqb (number_at 2 6 bytes) 0 marked.1)));
    } in
    (IsHeader-plain_at bytes fits, inl (form, sym (leading-read bytes fits long)))

IsSpelling-extended_at : (bytes : List ℕ) → IsBytes bytes → 24 ≤ length bytes → is_extended bytes ≡ true → IsSpelling (extended_at bytes) (take 24 bytes)
IsSpelling-extended_at bytes fits long marked =
    let both = and_parts (number_at 2 2 bytes == EXTENDED_MARK) (number_at 2 6 bytes == 0) marked in
    let mark = eqb-true (number_at 2 2 bytes) EXTENDED_MARK both.0 in
    let none = eqb-true (number_at 2 6 bytes) 0 both.1 in
    let plain = IsHeader-plain_at bytes fits in (
      record { command = plain.command; dtype = plain.dtype; p1 = plain.p1; p2 = plain.p2; count = number_fits 4 20 bytes fits; size = number_fits 4 16 bytes fits },
      inr (sym (extended-read bytes fits long mark none)),
    )

begins_at : (bytes : List ℕ) (h : Header) (n : ℕ) → n ≤ length bytes → IsSpelling h (take n bytes) → BeginsWith bytes h n
begins_at bytes h n long spelling =
    record { head = take n bytes; rest = drop n bytes; spelling = spelling; len = length-take-le n bytes long; parts = sym (take-append-drop n bytes) }

-- the three ways of `header_at`
pub data IsRead (bytes : List ℕ) : Option (Header × ℕ) → Type 0 where
  begins : (h : Header) (n : ℕ) → BeginsWith bytes h n → n ≤ length bytes → IsRead bytes (Some (h, n))
  short : length bytes < 16 → IsRead bytes None
  cut : 16 ≤ length bytes → length bytes < 24 → is_extended bytes ≡ true → IsRead bytes None

pub IsRead-header_at : (bytes : List ℕ) → IsBytes bytes → IsRead bytes (header_at bytes)
IsRead-header_at bytes fits =
    elim (cases_lt (length bytes) 16) [
      | inl few ↦ rw (header_at-short bytes few) (short few)
      | inr long ↦ elim (cases_Bool (is_extended bytes)) [
        | inr unmarked ↦ rw (header_at-plain bytes long unmarked) (begins (plain_at bytes) 16 (begins_at bytes (plain_at bytes) 16 long (IsSpelling-plain_at bytes fits long unmarked)) long)
        | inl marked ↦ elim (cases_lt (length bytes) 24) [
          | inl few ↦ rw (header_at-cut bytes long few marked) (cut long few marked)
          | inr all ↦ rw (header_at-extended bytes all marked) (begins (extended_at bytes) 24 (begins_at bytes (extended_at bytes) 24 all (IsSpelling-extended_at bytes fits all marked)) all)
        ]
      ]
    ]

-- ---- less than a header is the beginning of one

IsBytes-append : (xs ys : List ℕ) → IsBytes xs → IsBytes ys → IsBytes (xs ++ ys)
IsBytes-append xs ys first second i =
    elim (cases_lt i (length xs)) [
      | inl within ↦ rw (get_or-append xs ys 0 i within) (first i)
      | inr past ↦ rw (get_or-append_right xs ys i 0 past) (second (i - length xs))
    ]

IsBytes-zeros : (n : ℕ) → IsBytes (replicate n 0)
IsBytes-zeros zero i = lit< tt
IsBytes-zeros (suc n) zero = lit< tt
IsBytes-zeros (suc n) (suc i) = IsBytes-zeros n i

-- of two cuts of the same bytes, the one that comes first lies in the front of the other
pub front-cut : (xs ys head rest : List ℕ) → xs ++ ys ≡ head ++ rest → length head ≤ length xs → xs ≡ head ++ drop (length head) xs
front-cut xs ys head rest e le =
    let front : take (length head) xs ≡ head = sym (take-append-le (length head) xs ys le) ∙ ap (take (length head)) e ∙ take-append_seam head rest in
    sym (take-append-drop (length head) xs) ∙ ap (λ (t : List ℕ). t ++ drop (length head) xs) front

IsProperPrefix-cut : (xs ys head rest : List ℕ) → xs ++ ys ≡ head ++ rest → length xs < length head → IsProperPrefix xs head
IsProperPrefix-cut xs ys head rest e lt =
    record {
      missing = drop (length xs) head;
      some_missing = omega (arith, length-drop (length xs) head);
      parts = sym (front-cut head rest xs ys (sym e) (omega arith));
    }

-- a header stays where more follows
pub BeginsWith-append : (bytes more : List ℕ) (h : Header) (n : ℕ) → BeginsWith bytes h n → BeginsWith (bytes ++ more) h n
BeginsWith-append bytes more h n b =
    record { head = b.head; rest = b.rest ++ more; spelling = b.spelling; len = b.len; parts = ap (λ (t : List ℕ). t ++ more) b.parts ∙ append_assoc b.head b.rest more }

part_of : (bytes zeros : List ℕ) (found : Option (Header × ℕ)) → header_at bytes ≡ None → 24 ≤ length zeros → IsRead (bytes ++ zeros) found → IsPartHead bytes
part_of bytes zeros _ none long (begins h n b within) =
    elim (cases_lt (length bytes) (length b.head)) [
      | inl less ↦ (h, b.head, b.spelling, IsProperPrefix-cut bytes zeros b.head b.rest b.parts less)
      | inr all ↦ let front : BeginsWith bytes h n = record { head = b.head; rest = drop (length b.head) bytes; spelling = b.spelling; len = b.len; parts = front-cut bytes zeros b.head b.rest b.parts all } in
          let found = header_at-begins bytes h n front in
          absurd (cc)
    ]
part_of bytes zeros _ none long (short few) = absurd (omega (arith, length-append bytes zeros))
part_of bytes zeros _ none long (cut all few marked) = absurd (omega (arith, length-append bytes zeros))

pub IsPartHead-none : (bytes : List ℕ) → IsBytes bytes → header_at bytes ≡ None → IsPartHead bytes
IsPartHead-none bytes fits none =
    let zeros : List ℕ = replicate 24 0 in
    part_of bytes zeros (header_at (bytes ++ zeros)) none (omega (arith, length-replicate {A = ℕ} 24 0)) (IsRead-header_at (bytes ++ zeros) (IsBytes-append bytes zeros fits (IsBytes-zeros 24)))
