-- Facts on words.
use Rattle.std.proofs.Common.{◌≡◌, ℕ, ◌+◌, ◌<◌, ◌≤◌, ◌==◌, Bool, true, false, not, cond, ◌&&◌, List, [], ◌∷◌, length, Some, None, Ok, Err, IsUtf8, refl, ap, arith}
use Rattle.std.specs.Prelude.{nat_lt, position}
use Rattle.std.specs.Bool.{Decides}
use Rattle.std.specs.Char.{is_ascii_graphic}
use Rattle.std.specs.List.{AllPass, list_all}
use Rattle.std.proofs.lemmas.Bool.{and_parts, ltb-true, leb-true}
use Rattle.std.proofs.lemmas.Bool.Decides.{nat_tests, Decides-by_and}
use Rattle.std.proofs.lemmas.List.Elements.{All-weaker}
use Rattle.std.proofs.lemmas.Str.{IsUtf8-from_ascii}
use Rattle.std.proofs.lemmas.Str.Ascii.{IsAscii-from_all}
use Rattle.pv_name.specs.Word.{IsWord, is_word, is_bad, first_bad_place, fault_of, reading}
use Rattle.pv_name.specs.declared.fault.NameFault.TheVariants.{BadByte}

Decides-list_all : (bytes : List ℕ) → Decides (list_all is_ascii_graphic bytes) (AllPass is_ascii_graphic bytes)
Decides-list_all bytes =
    Decides-by_and is_ascii_graphic (λ b. is_ascii_graphic b ≡ true) (list_all is_ascii_graphic) (λ b. (λ h. h, λ h. h)) refl (λ _ _. refl) bytes

-- the test says whether bytes are a word
pub Decides-is_word : (limit : ℕ) (bytes : List ℕ) → Decides (is_word limit bytes) (IsWord limit bytes)
Decides-is_word limit bytes = (
  λ h. let parts = and_parts _ _ h in
      let sizes = and_parts _ _ parts.0 in
      record { some = ltb-true _ _ sizes.0; short = leb-true _ _ sizes.1; printable = (Decides-list_all bytes).0 parts.1 },
  λ word. let all = (Decides-list_all bytes).1 word.printable in grind (arith, nat_tests),
)

pub IsUtf8-from_word : (limit : ℕ) (bytes : List ℕ) → IsWord limit bytes → IsUtf8 bytes
IsUtf8-from_word limit bytes word =
    IsUtf8-from_ascii bytes (IsAscii-from_all bytes (All-weaker (λ b. is_ascii_graphic b ≡ true) (λ b. b < 128) (λ b t. grind (arith, nat_tests)) bytes word.printable))

-- all bytes pass where there is no first bad one
pub list_all-first_bad_place : (bytes : List ℕ) → list_all is_ascii_graphic bytes ≡ not (nat_lt (first_bad_place bytes) (length bytes))
list_all-first_bad_place [] = refl
list_all-first_bad_place (b ∷ bytes) = by (is_ascii_graphic b) (list_all-first_bad_place bytes)
  where
    by : (good : Bool) → list_all is_ascii_graphic bytes ≡ not (nat_lt (first_bad_place bytes) (length bytes))
        → (good && list_all is_ascii_graphic bytes) ≡ not (nat_lt (cond (not (not good)) (1 + first_bad_place bytes) 0) (length (b ∷ bytes)))
    by true h = grind (arith, nat_tests)
    by false h = grind (arith, nat_tests)

pub IsWord-from_no_bad : (limit : ℕ) (bytes : List ℕ) → (length bytes == 0) ≡ false → length bytes ≤ limit → position is_bad bytes ≡ None → IsWord limit bytes
IsWord-from_no_bad limit bytes some short none =
    let all = list_all-first_bad_place bytes in
    (Decides-is_word limit bytes).0 (grind (arith, nat_tests))

pub no_word-from_bad : (limit : ℕ) (bytes : List ℕ) (place : ℕ) → position is_bad bytes ≡ Some place → IsWord limit bytes → ⊥
no_word-from_bad limit bytes place bad word =
    let all = list_all-first_bad_place bytes in
    let good = (Decides-list_all bytes).1 word.printable in
    grind (arith, nat_tests)

-- a word is read as it stands
pub reading-word : (limit : ℕ) (bytes : List ℕ) → IsWord limit bytes → reading limit bytes ≡ Ok bytes
reading-word limit bytes word =
    ap (λ b. cond b (Ok bytes) (Err (fault_of limit bytes))) ((Decides-is_word limit bytes).1 word)

-- the first bad byte is told where neither fault before it applies
pub reading-bad_byte : (limit : ℕ) (bytes : List ℕ) (place : ℕ) → (length bytes == 0) ≡ false → length bytes ≤ limit → position is_bad bytes ≡ Some place → reading limit bytes ≡ Err (BadByte place)
reading-bad_byte limit bytes place some short bad =
    let all = list_all-first_bad_place bytes in grind (arith, nat_tests)
