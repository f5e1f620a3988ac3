-- A text is found in the payload that it was written to.
use Rattle.std.proofs.Common.{◌≡◌, ℕ, true, false, List, [], ◌∷◌, ◌++◌, length, replicate, Ok, refl, ap, arith, append_assoc, length-append}
use Rattle.std.specs.Prelude.{nat_lt}
use Rattle.std.specs.Char.{is_ascii_graphic}
use Rattle.std.specs.List.{list_all, position_or_len}
use Rattle.std.proofs.lemmas.Bool.{and_parts}
use Rattle.std.proofs.lemmas.Bool.Decides.{nat_tests}
use Rattle.std.proofs.lemmas.List.{take_at}
use Rattle.std.proofs.lemmas.List.Sums.{list_all-from_AllPass}
use Rattle.pv_name.specs.Word.{IsWord, is_word}
use Rattle.ca_message.specs.Padding.{missing_bytes, nul_ended}
use Rattle.ca_message.specs.Text.{is_nul, text_in, tested_text}

-- the first NUL is the one behind the text
first_nul : (text rest : List ℕ) → list_all is_ascii_graphic text ≡ true → position_or_len is_nul (text ++ 0 ∷ rest) ≡ length text
first_nul [] rest h = refl
first_nul (b ∷ text) rest h =
    let parts = and_parts (is_ascii_graphic b) (list_all is_ascii_graphic text) h in
    let behind = first_nul text rest parts.1 in
    let no_nul : is_nul b ≡ false = grind (arith, nat_tests, parts.0) in
    grind (arith, nat_tests)

-- a word is found in a payload that it ends
text_in-nul_ended : (text : List ℕ) → list_all is_ascii_graphic text ≡ true → text_in (nul_ended text) ≡ Ok text
text_in-nul_ended text h =
    let zeros = replicate (missing_bytes (length (text ++ 0 ∷ []))) 0 in
    let parts : nul_ended text ≡ text ++ 0 ∷ zeros = append_assoc text (0 ∷ []) zeros in
    let place : position_or_len is_nul (text ++ 0 ∷ zeros) ≡ length text = first_nul text zeros h in
    let inside : nat_lt (length text) (length (text ++ 0 ∷ zeros)) ≡ true = grind (arith, nat_tests, length-append) in
    rw (parts, place, inside) (ap (λ found. Ok found) (take_at text (0 ∷ zeros) (length text) refl))

is_word-from_IsWord : (limit : ℕ) (text : List ℕ) → IsWord limit text → is_word limit text ≡ true
is_word-from_IsWord limit text word =
    let all = list_all-from_AllPass is_ascii_graphic text word.printable in
    grind (arith, nat_tests)

pub word_read_back : (limit : ℕ) (text : List ℕ) → IsWord limit text → tested_text (is_word limit) (text_in (nul_ended text)) ≡ Ok text
word_read_back limit text word =
    let found = text_in-nul_ended text (list_all-from_AllPass is_ascii_graphic text word.printable) in
    let good = is_word-from_IsWord limit text word in
    rw found (rw good refl)
