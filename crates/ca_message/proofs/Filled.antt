-- How a payload is written whose value ends in zero bytes.
use Rattle.std.proofs.Common.{◌≡◌, ℕ, ◌+◌, ◌-◌, ◌≤◌, List, ◌++◌, length, take, drop, replicate, ap, sym, ◌∙◌, arith, append_assoc, length-append}
use Rattle.std.proofs.Math.Seq.{take-append_seam}
use Rattle.std.proofs.lemmas.List.{take_all, take-append-drop, length-drop, length-take, length-take-le, length-replicate, replicate-append-replicate}
use Rattle.dbr_layout.specs.Layout.{filled_to}
use Rattle.ca_message.specs.Padding.{missing_bytes, padded}

-- the value's zero bytes and the padding are zero bytes alike
pub padded-filled : (len : ℕ) (xs : List ℕ) → length xs ≤ len → padded (filled_to len xs) ≡ xs ++ replicate ((len - length xs) + missing_bytes len) 0
padded-filled len xs within =
    let whole : length (filled_to len xs) ≡ len = simp (length-append, length-replicate) (omega arith) in
    rw whole (append_assoc xs (replicate (len - length xs) 0) (replicate (missing_bytes len) 0)
    ∙ ap (λ zeros. xs ++ zeros) (replicate-append-replicate (len - length xs) (missing_bytes len) 0))

-- filling up with zero bytes to the padded length
pub filled_up : (xs : List ℕ) (len n : ℕ) → length xs ≤ len → n ≡ len + missing_bytes len → take n xs ++ replicate (n - length xs) 0 ≡ padded (filled_to len xs)
filled_up xs len n within e =
    let longer : length xs ≤ n = omega arith in
    let rest : n - length xs ≡ (len - length xs) + missing_bytes len = omega arith in
    rw (take_all n xs longer, rest) (sym (padded-filled len xs within))

-- a payload whose bytes behind its front are zero, and as many as fill the value up and pad it
handed_on_whole : (size len : ℕ) (payload : List ℕ) → len ≤ size → len ≤ length payload → length payload ≡ size + missing_bytes size
    → drop len payload ≡ replicate (length (drop len payload)) 0 → payload ≡ padded (filled_to size (take len payload))
handed_on_whole size len payload within there whole zeros =
    let front : length (take len payload) ≡ len = length-take-le len payload there in
    let behind : length (drop len payload) ≡ (size - length (take len payload)) + missing_bytes size = rw (length-drop len payload, front, whole) (omega arith) in
    let short : length (take len payload) ≤ size = rw front within in
    sym (take-append-drop len payload) ∙ ap (λ rest. take len payload ++ rest) (zeros ∙ ap (λ n. replicate n 0) behind)
    ∙ sym (padded-filled size (take len payload) short)

-- the same, of what stands behind the front as code cuts it off
pub handed_on_cut : (size len : ℕ) (payload : List ℕ) → len ≤ size → len ≤ length payload → length payload ≡ size + missing_bytes size
    → take (length payload - len) (drop len payload) ≡ replicate (length (take (length payload - len) (drop len payload))) 0
    → payload ≡ padded (filled_to size (take len payload))
handed_on_cut size len payload within there whole zeros =
    let all : take (length payload - len) (drop len payload) ≡ drop len payload = take_all (length payload - len) (drop len payload) (omega (arith, length-drop len payload)) in
    handed_on_whole size len payload within there whole (sym all ∙ zeros ∙ ap (λ rest. replicate (length rest) 0) all)

-- the front of a payload's front is the payload's front
pub front-of-front : (k n : ℕ) (payload : List ℕ) → take (length (take k (take n payload))) payload ≡ take k (take n payload)
front-of-front k n payload =
    let text : List ℕ = take k (take n payload) in
    let rest : List ℕ = drop k (take n payload) ++ drop n payload in
    let parts : text ++ rest ≡ payload =
    sym (append_assoc text (drop k (take n payload)) (drop n payload)) ∙ ap (λ xs. xs ++ drop n payload) (take-append-drop k (take n payload)) ∙ take-append-drop n payload in
    ap (λ xs. take (length text) xs) (sym parts) ∙ take-append_seam text rest

pub length-front-of-front : (k n : ℕ) (payload : List ℕ) → length (take k (take n payload)) ≤ length payload
length-front-of-front k n payload = omega (arith, length-take k (take n payload), length-take n payload)
