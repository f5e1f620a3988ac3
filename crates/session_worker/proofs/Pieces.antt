-- A piece that is read.
use Rattle.std.proofs.Common.{◌≡◌, ℕ, zero, suc, ◌+◌, ◌-◌, ◌≤◌, List, [], ◌∷◌, ◌++◌, length, min, take, drop, sym, ap, ◌∙◌, arith}
use Rattle.std.proofs.lemmas.List.{drop_all, length-append, length-drop, length-take, take-append-drop, take_all}
use Rattle.std.proofs.Math.Seq.{drop-nil, take-append_seam}

drop_further : (n m : ℕ) (xs : List ℕ) → drop m (drop n xs) ≡ drop (n + m) xs
drop_further zero m xs = ap (λ (k : ℕ). drop k xs) (omega arith)
drop_further (suc n) m [] = drop-nil m ∙ sym (drop-nil (suc n + m))
drop_further (suc n) m (x ∷ xs) =
    let one_more : suc (n + m) ≡ suc n + m = omega arith in
    drop_further n m xs ∙ ap (λ (k : ℕ). drop k (x ∷ xs)) one_more

-- the bytes that stand at the front of the buffer, and what is left, are what was unread
pub piece_and_rest : (items slice copied buffer : List ℕ) (at most n : ℕ) → slice ≡ items → copied ≡ take n (take (length slice - at) (drop at slice))
    → n ≡ min most (length (take (length slice - at) (drop at slice)))
    → drop at items ≡ take n (copied ++ drop n buffer) ++ drop (at + n) items
piece_and_rest items slice copied buffer at most n same is count =
    let whole : take (length slice - at) (drop at slice) ≡ drop at items = take_all (length slice - at) (drop at slice) (omega (arith, length-drop at slice)) ∙ ap (λ (xs : List ℕ). drop at xs) same in
    let front : copied ≡ take n (drop at items) = is ∙ ap (λ (xs : List ℕ). take n xs) whole in
    let enough : n ≤ length (drop at items) = omega (arith, count, ap length whole) in
    let len : length copied ≡ n = omega (arith, ap length front, length-take n (drop at items), enough) in
    sym (take-append-drop n (drop at items))
    ∙ ap (λ (xs : List ℕ). xs ++ drop n (drop at items)) (sym front ∙ sym (ap (λ (k : ℕ). take k (copied ++ drop n buffer)) (sym len) ∙ take-append_seam copied (drop n buffer)))
    ∙ ap (λ (xs : List ℕ). take n (copied ++ drop n buffer) ++ xs) (drop_further at n items)

-- where no byte came though one had room, none was left
pub none_left : (items slice copied buffer : List ℕ) (at piece most n : ℕ) → slice ≡ items → copied ≡ take n (take (length slice - at) (drop at slice))
    → n ≡ min most (length (take (length slice - at) (drop at slice))) → most ≡ min piece (length buffer) → 1 ≤ piece → n ≡ 0 → 1 ≤ length (copied ++ drop n buffer)
    → drop (at + n) items ≡ []
none_left items slice copied buffer at piece most n same is count least some none room =
    let whole : take (length slice - at) (drop at slice) ≡ drop at items = take_all (length slice - at) (drop at slice) (omega (arith, length-drop at slice)) ∙ ap (λ (xs : List ℕ). drop at xs) same in
    let len : length copied ≤ n = omega (arith, ap length is, length-take n (take (length slice - at) (drop at slice))) in
    drop_all (at + n) items
    (omega (arith, count, least, some, none, room, len, length-append copied (drop n buffer), length-drop n buffer, ap length whole, length-drop at items))
