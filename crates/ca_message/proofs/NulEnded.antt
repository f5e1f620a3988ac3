-- How a payload that ends in a text is written.
use Rattle.std.proofs.Common.{◌≡◌, ℕ, ◌+◌, ◌-◌, ◌≤◌, List, [], ◌∷◌, ◌++◌, length, take, replicate, ap, sym, ◌∙◌, arith, append_assoc, length-append}
use Rattle.std.proofs.lemmas.List.{take_all, length-replicate, replicate-append-replicate}
use Rattle.ca_message.specs.Padding.{missing_bytes, nul_ended}

-- the NUL and the padding are zero bytes alike
pub nul_ended-replicate : (xs : List ℕ) → nul_ended xs ≡ xs ++ replicate (1 + missing_bytes (length (xs ++ 0 ∷ []))) 0
nul_ended-replicate xs =
    append_assoc xs (0 ∷ []) _ ∙ ap (λ zeros. xs ++ zeros) (replicate-append-replicate 1 (missing_bytes (length (xs ++ 0 ∷ []))) 0)

-- filling up with zero bytes to its length
pub filled_up : (xs : List ℕ) (n : ℕ) → n ≡ length (nul_ended xs) → take n xs ++ replicate (n - length xs) 0 ≡ nul_ended xs
filled_up xs n e =
    let zeros = 1 + missing_bytes (length (xs ++ 0 ∷ [])) in
    let whole : n ≡ length xs + zeros = e ∙ ap length (nul_ended-replicate xs) ∙ simp (length-append, length-replicate) in
    let longer : length xs ≤ n = omega arith in
    let rest : n - length xs ≡ zeros = omega arith in
    rw (take_all n xs longer, rest) (sym (nul_ended-replicate xs))
