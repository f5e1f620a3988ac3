-- Facts on what is printed, one write after another.
use Rattle.std.proofs.Common.{◌≡◌, ℕ, suc, ◌+◌, ◌/◌, ◌%◌, ◌==◌, ◌<◌, ◌≤◌, true, List, [], ◌∷◌, ◌++◌, length, take, drop, Option, Some, None, slice_index, get_or, drop-cons, add-one, refl, ap, sym, subst, ◌∙◌, arith}
use Rattle.std.specs.Prelude.{flat_map}
use Rattle.std.proofs.lemmas.List.{append_assoc, append-nil, drop_all, take-append-drop}
use Rattle.std.proofs.lemmas.Bool.Decides.{nat_tests}
use Rattle.std.specs.Io.KnownBytes.{Appends}
use Rattle.hex.specs.Hex.{encode_with, encode_lower, lower_digits}
use Rattle.replay_text.specs.Output.{dest_text, message_line, after_blank}
use Rattle.gateway_state.specs.declared.event.Dest.{Dest}

-- the text of bytes that stand one after another
pub encode_with-append : (t xs ys : List ℕ) → encode_with t (xs ++ ys) ≡ encode_with t xs ++ encode_with t ys
unfolding encode_with
encode_with-append t [] ys = refl
encode_with-append t (x ∷ xs) ys =
    ap (λ (text : List ℕ). slice_index t (x / 16) ∷ slice_index t (x % 16) ∷ text) (encode_with-append t xs ys)

-- one write and then another
pub Appends-append : (a b c : Option (List ℕ)) (xs ys : List ℕ) → Appends a b xs → Appends b c ys → Appends a c (xs ++ ys)
Appends-append None b c xs ys h k = tt
Appends-append (Some a) None c xs ys h k = absurd h
Appends-append (Some a) (Some b) None xs ys h k = absurd k
Appends-append (Some a) (Some b) (Some c) xs ys h k = k ∙ ap (λ (l : List ℕ). l ++ ys) h ∙ append_assoc a xs ys

-- no bytes have no text, and writing it changes nothing
pub Appends-encode_lower-empty : (a : Option (List ℕ)) (xs : List ℕ) → (length xs == 0) ≡ true → Appends a a (encode_lower xs)
unfolding encode_with
Appends-encode_lower-empty None [] h = tt
Appends-encode_lower-empty (Some a) [] h = sym (append-nil a)
Appends-encode_lower-empty a (x ∷ xs) h = absurd (grind (arith, nat_tests))

-- a piece is written, and then the rest
pub Appends-encode_lower : (a b c : Option (List ℕ)) (xs : List ℕ) (n : ℕ) → Appends a b (encode_lower (take n xs)) → Appends b c (encode_lower (drop n xs)) → Appends a c (encode_lower xs)
Appends-encode_lower a b c xs n h k =
    let P : List ℕ → Type 0 = λ text. Appends a c text in
    subst P (sym (encode_with-append lower_digits (take n xs) (drop n xs)) ∙ ap encode_lower (take-append-drop n xs)) (Appends-append a b c _ _ h k)

-- a connection, a blank, the two parts of a message and the line's end are written one after another
pub Appends-message_line : (dest : Dest) (head payload : List ℕ) (a b c d e f : Option (List ℕ))
    → Appends a b (dest_text dest) → Appends b c (32 ∷ []) → Appends c d (encode_lower head) → Appends d e (encode_lower payload) → Appends e f (10 ∷ [])
    → Appends a f (message_line dest (head ++ payload))
Appends-message_line dest head payload a b c d e f to blank first second end =
    let front = Appends-append a b c _ _ to blank in
    let bytes = Appends-append c d e _ _ first second in
    let P : List ℕ → Type 0 = λ text. Appends a f (text ++ 10 ∷ []) in
    subst P
    (append_assoc (dest_text dest) (32 ∷ []) (encode_lower head ++ encode_lower payload)
    ∙ ap (λ (text : List ℕ). dest_text dest ++ (32 ∷ text)) (sym (encode_with-append lower_digits head payload)))
    (Appends-append a e f _ _ (Appends-append a c e _ _ front bytes) end)

-- nothing is written
pub Appends-nil : (a : Option (List ℕ)) → Appends a a []
Appends-nil None = tt
Appends-nil (Some a) = sym (append-nil a)

drop-name : (names : List (List ℕ)) (i : ℕ) (name : List ℕ) → i < length names → name ≡ get_or names i name
    → drop i names ≡ name ∷ drop (i + 1) names
drop-name names i name h is =
    drop-cons names i name h
    ∙ ap (λ (first : List ℕ). first ∷ drop (suc i) names) (sym is)
    ∙ ap (λ (k : ℕ). name ∷ drop k names) (sym (add-one i))

-- a name is written after a blank, and then the names after it
pub Appends-name : (names : List (List ℕ)) (i : ℕ) (name : List ℕ) (a b c d : Option (List ℕ))
    → i < length names → name ≡ get_or names i name
    → Appends a b (32 ∷ []) → Appends b c name → Appends c d (flat_map after_blank (drop (i + 1) names))
    → Appends a d (flat_map after_blank (drop i names))
Appends-name names i name a b c d h is blank text more =
    let P : List (List ℕ) → Type 0 = λ left. Appends a d (flat_map after_blank left) in
    let left = Appends-append a c d (32 ∷ name) _ (Appends-append a b c (32 ∷ []) name blank text) more in
    subst P (sym (drop-name names i name h is)) left

-- all names are written
pub Appends-names_end : (names : List (List ℕ)) (i : ℕ) (a : Option (List ℕ)) → length names ≤ i → Appends a a (flat_map after_blank (drop i names))
Appends-names_end names i a h =
    let P : List (List ℕ) → Type 0 = λ left. Appends a a (flat_map after_blank left) in
    subst P (sym (drop_all i names h)) (Appends-nil a)
