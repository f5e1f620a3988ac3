-- Facts on the lines of a script.
use Rattle.std.proofs.Common.{◌≡◌, ℕ, zero, suc, ◌+◌, ◌-◌, Bool, true, false, List, [], ◌∷◌, length, take, drop, Option, Some, None, refl, sym, ap, ◌∙◌, arith}
use Rattle.std.specs.Prelude.{◌==◌, if◌then◌else◌, slice_index, option_map}
use Rattle.std.specs.Io.BufRead.{strip_last, take_through, drop_through}
use Rattle.std.proofs.lemmas.Bool.{lt-ltb}
use Rattle.replay.specs.Reading.{TakesBytes, TakesLine}
use Rattle.replay.specs.Script.{first_bad, lines_of, longer}

if-cons : (t : Bool) (b : ℕ) (xs ys : List ℕ) → (if t then b ∷ xs else b ∷ ys) ≡ b ∷ (if t then xs else ys)
if-cons true b xs ys = refl
if-cons false b xs ys = refl

strip-at : (n m b c : ℕ) (line : List ℕ) → n ≡ suc m
    → (if slice_index (b ∷ c ∷ line) n == 10 then take n (b ∷ c ∷ line) else b ∷ c ∷ line)
    ≡ b ∷ (if slice_index (c ∷ line) m == 10 then take m (c ∷ line) else c ∷ line)
strip-at n m b c line is = rw is (if-cons (slice_index (c ∷ line) m == 10) b (take m (c ∷ line)) (c ∷ line))

strip_last-cons : (b c : ℕ) (line : List ℕ) → strip_last 10 (b ∷ c ∷ line) ≡ b ∷ strip_last 10 (c ∷ line)
strip_last-cons b c line =
    rw (lt-ltb 0 (length (b ∷ c ∷ line)) (omega arith), lt-ltb 0 (length (c ∷ line)) (omega arith))
    (strip-at (length (b ∷ c ∷ line) - 1) (length (c ∷ line) - 1) b c line (omega arith))

take_through-cons : (c : ℕ) (bytes : List ℕ) → (line : List ℕ) × (take_through 10 (c ∷ bytes) ≡ c ∷ line)
take_through-cons c bytes =
    elim (c == 10) as (λ t. (line : List ℕ) × ((if t then c ∷ [] else c ∷ take_through 10 bytes) ≡ c ∷ line))
    [ true ↦ ([], refl) | false ↦ (take_through 10 bytes, refl) ]

strip_last-longer : (b c : ℕ) (bytes : List ℕ)
    → strip_last 10 (b ∷ take_through 10 (c ∷ bytes)) ≡ b ∷ strip_last 10 (take_through 10 (c ∷ bytes))
strip_last-longer b c bytes = let is = take_through-cons c bytes in rw is.1 (strip_last-cons b c is.0)

lines_of-at : (b : ℕ) (bytes : List ℕ) (t : Bool) → (b == 10) ≡ t
    → lines_of (b ∷ bytes) ≡ strip_last 10 (take_through 10 (b ∷ bytes)) ∷ lines_of (drop_through 10 (b ∷ bytes))
unfolding lines_of
lines_of-at b bytes true is = rw (is, is) refl
lines_of-at b [] false is = rw (is, is) refl
lines_of-at b (c ∷ bytes) false is =
    rw is (ap (longer b) (lines_of-at c bytes _ refl) ∙ ap (λ (line : List ℕ). line ∷ lines_of (drop_through 10 (c ∷ bytes))) (sym (strip_last-longer b c bytes)))

-- the first line of a text that isn't empty, and those after it
pub lines_of-first : (b : ℕ) (bytes : List ℕ)
    → lines_of (b ∷ bytes) ≡ strip_last 10 (take_through 10 (b ∷ bytes)) ∷ lines_of (drop_through 10 (b ∷ bytes))
lines_of-first b bytes = lines_of-at b bytes _ refl

-- a line whose end is dropped is the first of the lines
pub TakesLine-bytes : (old new : Option (List ℕ)) (whole line : List ℕ) → TakesBytes old new whole true → line ≡ strip_last 10 whole
    → TakesLine (option_map lines_of old) (option_map lines_of new) line true
unfolding lines_of
TakesLine-bytes None new whole line takes is = tt
TakesLine-bytes (Some []) new whole line takes is = absurd (cc)
TakesLine-bytes (Some (b ∷ left)) new whole line takes is =
    rw (lines_of-first b left) (refl, is ∙ ap (strip_last 10) takes.1, ap (option_map lines_of) takes.2)

-- no bytes, no lines
pub TakesLine-end : (old new : Option (List ℕ)) (whole line : List ℕ) → TakesBytes old new whole false
    → TakesLine (option_map lines_of old) (option_map lines_of new) line false
unfolding lines_of
TakesLine-end None new whole line takes = tt
TakesLine-end (Some []) new whole line takes = takes
TakesLine-end (Some (b ∷ left)) new whole line takes = absurd (cc)

-- lines that are an edit's own are passed over, and have numbers
pub first_bad-pending : (number pending : ℕ) (lines : List (List ℕ)) → first_bad number pending lines ≡ first_bad (number + pending) 0 (drop pending lines)
unfolding first_bad
first_bad-pending number zero lines = let e : number ≡ number + 0 = omega arith in ap (λ (n : ℕ). first_bad n 0 lines) e
first_bad-pending number (suc pending) [] = refl
first_bad-pending number (suc pending) (line ∷ lines) =
    first_bad-pending (number + 1) pending lines ∙ ap (λ (n : ℕ). first_bad n 0 (drop pending lines)) (omega arith)
