-- Facts on the words of a line.
use Rattle.std.proofs.Common.{◌≡◌, ℕ, ◌+◌, ◌-◌, ◌<◌, ◌≤◌, Bool, true, false, not, cond, List, [], ◌∷◌, length, get_or, take, drop, Some, None, refl, ap, arith}
use Rattle.std.specs.Prelude.{position}
use Rattle.std.specs.List.{slice_split}
use Rattle.std.proofs.lemmas.List.{take_all, length-drop}
use Rattle.std.proofs.lemmas.List.Splits.{slice_split_first, slice_split_none, length-slice_split}
use Rattle.std.proofs.lemmas.List.Sums.{prefix_len_passes}
use Rattle.std.proofs.lemmas.Bool.{ltb-true, ltb-false}
use Rattle.replay_text.specs.Words.{is_blank, no_word}

chosen-Some : (b : Bool) (n i : ℕ) → cond b (Some n) None ≡ Some i → (b ≡ true) × (n ≡ i)
chosen-Some true n i h = (refl, cc)
chosen-Some false n i h = cc

chosen-None : (b : Bool) (n : ℕ) → cond b (Some n) None ≡ None → b ≡ false
chosen-None true n h = cc
chosen-None false n h = refl

passed-false : (b : Bool) → not b ≡ true → b ≡ false
passed-false true h = cc
passed-false false h = refl

-- a line has a word, though it may be empty
pub slice_split-some : (line : List ℕ) → slice_split is_blank line ≡ [] → ⊥
slice_split-some line h = omega (arith, length-slice_split is_blank line, ap length h)

-- the first word ends at the first blank
pub slice_split-blank : (line : List ℕ) (i : ℕ) → position is_blank line ≡ Some i
    → slice_split is_blank line ≡ take i line ∷ slice_split is_blank (take (length line - (i + 1)) (drop (i + 1) line))
slice_split-blank line i h =
    let at = chosen-Some _ _ i h in
    let first = rw at.1 at (slice_split_first is_blank line 0 (ltb-true _ _ at.0)) in
    let whole = take_all (length line - (i + 1)) (drop (i + 1) line) (omega (arith, length-drop (i + 1) line)) in
    rw whole first

-- without a blank the line is one word
pub slice_split-no_blank : (line : List ℕ) → position is_blank line ≡ None → slice_split is_blank line ≡ line ∷ []
slice_split-no_blank line h =
    let none = chosen-None _ _ h in
    slice_split_none is_blank line (λ k d lt. passed-false _ (prefix_len_passes (λ b. not (is_blank b)) line k d (omega (arith, ltb-false _ _ none))))

no_word-none : (words : List (List ℕ)) → (words ≡ [] → ⊥) → None ≡ no_word words
no_word-none [] some = absurd (some refl)
no_word-none (word ∷ words) some = refl

-- so it isn't at its end
pub no_word-slice_split : (line : List ℕ) → None ≡ no_word (slice_split is_blank line)
no_word-slice_split line = no_word-none _ (slice_split-some line)
