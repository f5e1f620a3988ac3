-- Facts on the numbers that digits write.
use Rattle.std.proofs.Common.{◌≡◌, ℕ, ◌<◌, ◌^◌, Bool, true, false, List, [], ◌∷◌, length, Some, None, refl, arith}
use Rattle.std.specs.Prelude.{nat_lt, ◌==◌, ◌&&◌, if◌then◌else◌, option_and_then, Result, Ok, Err}
use Rattle.std.proofs.lemmas.Bool.Decides.{nat_tests}
use Rattle.std.proofs.lemmas.Bool.{lt-ltb, ltb-true}
use Rattle.std.proofs.lemmas.Fmt.{IsAscii-from_digits}
use Rattle.std.proofs.lemmas.Str.{IsUtf8-from_ascii}
use Rattle.std.specs.Char.{digit_value, is_digit}
use Rattle.std.specs.List.{list_all, starts_with}
use Rattle.std.specs.Result.{result_ok}
use Rattle.std.specs.Str.{IsUtf8}
use Rattle.std.specs.Str.Parse.{AllDigits, IsNumeral, ParsesUnsigned, digits_value, without_leading_plus}
use Rattle.decimal_text.specs.Numbers.{fitting, number_of}

and-parts : (a b : Bool) → (a && b) ≡ true → (a ≡ true) × (b ≡ true)
and-parts true b h = (refl, h)
and-parts false b h = cc

and-both : (a b : Bool) → a ≡ true → b ≡ true → (a && b) ≡ true
and-both true b h k = k
and-both false b h k = cc

-- the digits pass the test exactly where they are digits
AllDigits-passes : (digits : List ℕ) → AllDigits 10 digits → list_all (λ digit. is_digit digit 10) digits ≡ true
AllDigits-passes [] all = refl
AllDigits-passes (digit ∷ digits) all = and-both _ _ (lt-ltb (digit_value digit) 10 all.0) (AllDigits-passes digits all.1)

AllDigits-passed : (digits : List ℕ) → list_all (λ digit. is_digit digit 10) digits ≡ true → AllDigits 10 digits
AllDigits-passed [] passes = tt
AllDigits-passed (digit ∷ digits) passes =
    let parts = and-parts _ _ passes in (ltb-true (digit_value digit) 10 parts.0, AllDigits-passed digits parts.1)

not-true : (b : Bool) → (b ≡ true → ⊥) → b ≡ false
not-true true h = absurd (h refl)
not-true false h = refl

fitting-some : (bits n : ℕ) → n < 2 ^ bits → Some n ≡ fitting bits n
fitting-some bits n h = rw (lt-ltb n (2 ^ bits) h) refl

read-some : (b : Bool) (bits n : ℕ) → b ≡ true → n < 2 ^ bits → Some n ≡ option_and_then (fitting bits) (if b then Some n else None)
read-some true bits n passes fits = fitting-some bits n fits
read-some false bits n passes fits = cc

read-none : (b : Bool) (bits n : ℕ) → (b ≡ true → n < 2 ^ bits → ⊥) → None ≡ option_and_then (fitting bits) (if b then Some n else None)
read-none true bits n never = rw (not-true (nat_lt n (2 ^ bits)) (λ passes. never refl (ltb-true n (2 ^ bits) passes))) refl
read-none false bits n never = refl

-- a numeral that fits is read as its number
number_of-some : (bits : ℕ) (word : List ℕ) → IsNumeral 10 word → digits_value 10 word < 2 ^ bits → Some (digits_value 10 word) ≡ number_of bits word
number_of-some bits word is fits =
    read-some _ bits (digits_value 10 word) (and-both _ _ (lt-ltb 0 (length word) is.0) (AllDigits-passes word is.1)) fits

-- and nothing else is read
number_of-none : (bits : ℕ) (word : List ℕ) → (IsNumeral 10 word → digits_value 10 word < 2 ^ bits → ⊥) → None ≡ number_of bits word
number_of-none bits word never =
    read-none _ bits (digits_value 10 word) (λ passes.
    let parts = and-parts _ _ passes in
    never (ltb-true 0 (length word) parts.0, AllDigits-passed word parts.1))

-- what is no text is no number
pub number_of-no_text : (bits : ℕ) (word : List ℕ) → ¬ IsUtf8 word → None ≡ number_of bits word
number_of-no_text bits word binary =
    number_of-none bits word (λ is fits. binary (IsUtf8-from_ascii word (IsAscii-from_digits word is.1)))

no-plus : (word : List ℕ) → starts_with (λ a b. a == b) word (43 ∷ []) ≡ false → without_leading_plus word ≡ word
no-plus [] h = refl
no-plus (c ∷ word) h = grind (arith, nat_tests)

parsed : {E : Type 0} (bits : ℕ) (word : List ℕ) (r : Result ℕ E) → without_leading_plus word ≡ word → ParsesUnsigned bits 10 word r
    → result_ok r ≡ number_of bits word
parsed bits word (Ok n) plain is =
    let found : IsNumeral 10 word × (digits_value 10 word < 2 ^ bits) = rw plain at is.0 in
    rw (rw plain at is.1) (number_of-some bits word found.0 found.1)
parsed bits word (Err e) plain is =
    let none : ¬ (IsNumeral 10 word × (digits_value 10 word < 2 ^ bits)) = rw plain at is in
    number_of-none bits word (λ found fits. none (found, fits))

-- the library reads a word without a plus as its number
pub number_of-parsed : {E : Type 0} (bits : ℕ) (word : List ℕ) (r : Result ℕ E) → starts_with (λ a b. a == b) word (43 ∷ []) ≡ false
    → ParsesUnsigned bits 10 word r → result_ok r ≡ number_of bits word
number_of-parsed bits word r h is = parsed bits word r (no-plus word h) is
