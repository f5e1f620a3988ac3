-- Keys in pieces, as one of them goes.
use Rattle.std.proofs.Common.{◌≡◌, ◌≤◌, ◌<◌, ◌+◌, ◌-◌, ◌||◌, ◌==◌, length, drop, arith, ℕ, zero, suc, List, [], ◌∷◌, ◌++◌, get_or, set, slice_get, Some, Bool, true, false, cond, filter, refl, sym, ap, subst, true≢false, ◌∙◌, length-append}
use Rattle.std.specs.List.{list_any, remove}
use Rattle.std.proofs.lemmas.List.{append_assoc, append-nil}
use Rattle.std.proofs.lemmas.List.Elements.{filter-append}
use Rattle.std.proofs.lemmas.List.Filters.{length-filter_both}
use Rattle.std.proofs.lemmas.List.Folds.{list_any-append}
use Rattle.row_index.specs.declared.key.Key.{Key}
use Rattle.row_index.specs.Lists.{is_key, is_not_key}
use Rattle.row_index.specs.Pieces.{joined, has_at, HasNoEmptyPiece}
use Rattle.row_index.proofs.Keys.{same_key_itself}
use Rattle.row_index.proofs.Once.{all_fail, none_pass}

module _ {X : Type 0} where
  -- the nth of two lists
  pub first_of : (xs ys : List X) (n : ℕ) → n < length xs → slice_get (xs ++ ys) n ≡ slice_get xs n
  first_of [] ys n within = absurd (omega (arith, within))
  first_of (x ∷ xs) ys zero within = refl
  first_of (x ∷ xs) ys (suc n) within = first_of xs ys n (omega (arith, within))

  pub second_of : (xs ys : List X) (n : ℕ) → length xs ≤ n → slice_get (xs ++ ys) n ≡ slice_get ys (n - length xs)
  second_of [] ys n past = let same : n - 0 ≡ n = omega arith in ap (slice_get ys) (sym same)
  second_of (x ∷ xs) ys zero past = absurd (omega (arith, past))
  second_of (x ∷ xs) ys (suc n) past =
      let same : n - length xs ≡ suc n - length (x ∷ xs) = omega arith in
      second_of xs ys n (omega (arith, past)) ∙ ap (slice_get ys) same

  -- the piece at a place begins what is left from there
  from_piece : (pieces : List (List X)) (n : ℕ) (d : List X) → n < length pieces → joined (drop n pieces) ≡ get_or pieces n d ++ joined (drop (suc n) pieces)
  from_piece [] n d within = absurd (omega (arith, within))
  from_piece (piece ∷ pieces) zero d within = refl
  from_piece (piece ∷ pieces) (suc n) d within = from_piece pieces n d (omega (arith, within))

  pub piece_first : (pieces : List (List X)) (n : ℕ) (d : List X) → n < length pieces → joined (drop n pieces) ≡ get_or pieces n d ++ joined (drop (n + 1) pieces)
  piece_first pieces n d within =
      let next : suc n ≡ n + 1 = omega arith in
      from_piece pieces n d within ∙ ap (λ m. get_or pieces n d ++ joined (drop m pieces)) next

  piece_before : (pieces : List (List X)) (last : List X) (i : ℕ) (piece : List X) → piece ≡ get_or pieces i piece → i < length pieces → joined (drop i pieces) ++ last ≡ piece ++ (joined (drop (i + 1) pieces) ++ last)
  piece_before pieces last i piece is within =
      ap (λ xs. xs ++ last) (piece_first pieces i piece within ∙ ap (λ p. p ++ joined (drop (i + 1) pieces)) (sym is))
      ∙ append_assoc piece (joined (drop (i + 1) pieces)) last

  -- the nth of what is left stands in the first piece of it
  pub nth_here : (pieces : List (List X)) (last : List X) (i : ℕ) (piece : List X) (n : ℕ) → piece ≡ get_or pieces i piece → i < length pieces → n < length piece → slice_get (joined (drop i pieces) ++ last) n ≡ slice_get piece n
  nth_here pieces last i piece n is within few =
      ap (λ xs. slice_get xs n) (piece_before pieces last i piece is within) ∙ first_of piece (joined (drop (i + 1) pieces) ++ last) n few

  -- or behind it
  pub nth_later : (pieces : List (List X)) (last : List X) (i : ℕ) (piece : List X) (n : ℕ) → piece ≡ get_or pieces i piece → i < length pieces → length piece ≤ n → slice_get (joined (drop i pieces) ++ last) n ≡ slice_get (joined (drop (i + 1) pieces) ++ last) (n - length piece)
  nth_later pieces last i piece n is within many =
      ap (λ xs. slice_get xs n) (piece_before pieces last i piece is within) ∙ second_of piece (joined (drop (i + 1) pieces) ++ last) n many

  -- one more piece
  pub joined_more : (pieces : List (List X)) (piece : List X) → joined (pieces ++ piece ∷ []) ≡ joined pieces ++ piece
  joined_more [] piece = append-nil piece
  joined_more (first ∷ pieces) piece = ap (λ rest. first ++ rest) (joined_more pieces piece) ∙ sym (append_assoc first (joined pieces) piece)

  empty_one : (xs : List X) → 0 ≡ length xs → xs ≡ []
  empty_one [] none = refl
  empty_one (x ∷ xs) none = absurd (omega (arith, none))

  -- what isn't empty has one at least
  pub some_one : (xs : List X) → false ≡ (length xs == 0) → 1 ≤ length xs
  some_one [] some = absurd (true≢false (sym some))
  some_one (x ∷ xs) some = omega arith

  -- without an empty piece
  pub joined_fewer : (pieces : List (List X)) (n : ℕ) (piece : List X) → piece ≡ get_or pieces n piece → n < length pieces → length piece ≡ 0 → joined (remove pieces n) ≡ joined pieces
  joined_fewer [] n piece is within none = absurd (omega (arith, within))
  joined_fewer (first ∷ pieces) zero piece is within none =
      let no : first ≡ [] = sym is ∙ empty_one piece (sym none) in rw no refl
  joined_fewer (first ∷ pieces) (suc n) piece is within none = ap (λ rest. first ++ rest) (joined_fewer pieces n piece is (omega (arith, within)) none)

  -- two pieces next to each other are joined
  pub joined_two : (pieces : List (List X)) (n : ℕ) (some more both : List X) → some ≡ get_or pieces n some → more ≡ get_or pieces (suc n) more → suc n < length pieces → both ≡ some ++ more
      → joined (remove (set (set pieces (suc n) []) n both) (suc n)) ≡ joined pieces
  joined_two [] n some more both first second within made = absurd (omega (arith, within))
  joined_two (x ∷ []) n some more both first second within made = absurd (omega (arith, within))
  joined_two (x ∷ y ∷ pieces) zero some more both first second within made =
      rw (made, first, second) (append_assoc x y (joined pieces))
  joined_two (x ∷ y ∷ pieces) (suc n) some more both first second within made =
      ap (λ rest. x ++ rest) (joined_two (y ∷ pieces) n some more both first second (omega (arith, within)) made)

  -- or put back as they were
  pub as_before : (pieces : List (List X)) (n : ℕ) (some more : List X) → some ≡ get_or pieces n some → more ≡ get_or pieces (suc n) more → suc n < length pieces
      → set (set (set pieces (suc n) []) n some) (suc n) more ≡ pieces
  as_before [] n some more first second within = absurd (omega (arith, within))
  as_before (x ∷ []) n some more first second within = absurd (omega (arith, within))
  as_before (x ∷ y ∷ pieces) zero some more first second within = rw (first, second) refl
  as_before (x ∷ y ∷ pieces) (suc n) some more first second within =
      ap (λ rest. x ∷ rest) (as_before (y ∷ pieces) n some more first second (omega (arith, within)))

  -- where no piece is empty, the one at a place isn't
  pub filled_at : (pieces : List (List X)) (n : ℕ) (piece : List X) → piece ≡ get_or pieces n piece → n < length pieces → HasNoEmptyPiece pieces → 1 ≤ length piece
  filled_at [] n piece is within filled = absurd (omega (arith, within))
  filled_at (first ∷ pieces) zero piece is within filled = rw is filled.0
  filled_at (first ∷ pieces) (suc n) piece is within filled = filled_at pieces n piece is (omega (arith, within)) filled.1

  -- none is empty where none is but the one at a place, and that one isn't
  pub none_empty : (pieces : List (List X)) (n : ℕ) (piece : List X) → piece ≡ get_or pieces n piece → n < length pieces → 1 ≤ length piece → HasNoEmptyPiece (remove pieces n) → HasNoEmptyPiece pieces
  none_empty [] n piece is within some others = absurd (omega (arith, within))
  none_empty (first ∷ pieces) zero piece is within some others = (subst (λ p. 1 ≤ length p) is some, others)
  none_empty (first ∷ pieces) (suc n) piece is within some others = (others.0, none_empty pieces n piece is (omega (arith, within)) some others.1)

  -- without a piece that may be empty now the others are as they were
  pub others_filled : (pieces : List (List X)) (n : ℕ) (piece : List X) → n < length pieces → HasNoEmptyPiece pieces → HasNoEmptyPiece (remove (set pieces n piece) n)
  others_filled [] n piece within filled = absurd (omega (arith, within))
  others_filled (first ∷ pieces) zero piece within filled = filled.1
  others_filled (first ∷ pieces) (suc n) piece within filled = (filled.0, others_filled pieces n piece (omega (arith, within)) filled.1)

  -- two pieces next to each other become one that isn't empty
  pub filled_two : (pieces : List (List X)) (n : ℕ) (both : List X) → suc n < length pieces → 1 ≤ length both → HasNoEmptyPiece pieces
      → HasNoEmptyPiece (remove (set (set pieces (suc n) []) n both) (suc n))
  filled_two [] n both within some filled = absurd (omega (arith, within))
  filled_two (x ∷ []) n both within some filled = absurd (omega (arith, within))
  filled_two (x ∷ y ∷ pieces) zero both within some filled = (some, filled.1.1)
  filled_two (x ∷ y ∷ pieces) (suc n) both within some filled = (filled.0, filled_two (y ∷ pieces) n both (omega (arith, within)) some filled.1)

  -- one more piece that isn't empty
  pub filled_more : (pieces : List (List X)) (piece : List X) → 1 ≤ length piece → HasNoEmptyPiece pieces → HasNoEmptyPiece (pieces ++ piece ∷ [])
  filled_more [] piece some filled = (some, tt)
  filled_more (first ∷ pieces) piece some filled = (filled.0, filled_more pieces piece some filled.1)

  -- a piece is as it was where another changed
  pub other_piece : (pieces : List (List X)) (n : ℕ) (d e : List X) → get_or (set pieces (suc n) e) n d ≡ get_or pieces n d
  other_piece [] n d e = refl
  other_piece (x ∷ pieces) zero d e = refl
  other_piece (x ∷ pieces) (suc n) d e = other_piece pieces n d e

  -- of two lists as many pass as of both
  pub passing_both : (p : X → Bool) (xs ys : List X) → length (filter p (xs ++ ys)) ≡ length (filter p xs) + length (filter p ys)
  passing_both p xs ys = ap length (filter-append p xs ys) ∙ length-append (filter p xs) (filter p ys)

  pub any_passes : (p : X → Bool) (xs : List X) → list_any p xs ≡ true → 1 ≤ length (filter p xs)
  any_passes p [] any = absurd (true≢false (sym any))
  any_passes p (x ∷ xs) any =
      elim (p x) as (λ t. (t || list_any p xs) ≡ true → 1 ≤ length (cond t (x ∷ filter p xs) (filter p xs)))
      [ true ↦ λ h. omega arith | false ↦ λ h. any_passes p xs h ] any

module _ (key : Key) where
  pub has_there : (n : ℕ) (pieces : List (List Key)) (piece : List Key) → piece ≡ get_or pieces n piece → n < length pieces → list_any (is_key key) piece ≡ has_at key n pieces
  has_there n [] piece is within = absurd (omega (arith, within))
  has_there zero (first ∷ pieces) piece is within = ap (list_any (is_key key)) is
  has_there (suc n) (first ∷ pieces) piece is within = has_there n pieces piece is (omega (arith, within))

  pub has_past : (n : ℕ) (pieces : List (List Key)) → length pieces ≤ n → false ≡ has_at key n pieces
  has_past n [] past = refl
  has_past zero (first ∷ pieces) past = absurd (omega (arith, past))
  has_past (suc n) (first ∷ pieces) past = has_past n pieces (omega (arith, past))

  pub has_within : (n : ℕ) (pieces : List (List Key)) → has_at key n pieces ≡ true → n < length pieces
  has_within n [] there = absurd (true≢false (sym there))
  has_within zero (first ∷ pieces) there = omega arith
  has_within (suc n) (first ∷ pieces) there = let rest = has_within n pieces there in omega (arith, rest)

  -- a piece that lacks the key
  lacks_here : (n : ℕ) (pieces : List (List Key)) → n < length pieces → has_at key n pieces ≡ false → list_any (is_key key) (joined (drop (suc n) pieces)) ≡ list_any (is_key key) (joined (drop n pieces))
  lacks_here n [] within lacks = absurd (omega (arith, within))
  lacks_here zero (first ∷ pieces) within lacks =
      sym (list_any-append (is_key key) first (joined pieces) ∙ ap (λ t. t || list_any (is_key key) (joined pieces)) lacks)
  lacks_here (suc n) (first ∷ pieces) within lacks = lacks_here n pieces (omega (arith, within)) lacks

  pub walked_on : (n : ℕ) (pieces : List (List Key)) → n < length pieces → has_at key n pieces ≡ false → list_any (is_key key) (joined (drop (n + 1) pieces)) ≡ list_any (is_key key) (joined (drop n pieces))
  walked_on n pieces within lacks =
      let next : n + 1 ≡ suc n = omega arith in
      ap (λ m. list_any (is_key key) (joined (drop m pieces))) next ∙ lacks_here n pieces within lacks

  -- neither the pieces nor the last ones have it
  pub in_neither : (pieces : List (List Key)) (last : List Key) → list_any (is_key key) (joined pieces) ≡ false → list_any (is_key key) last ≡ false → list_any (is_key key) (joined pieces ++ last) ≡ false
  in_neither pieces last first second =
      list_any-append (is_key key) (joined pieces) last ∙ ap (λ t. t || list_any (is_key key) last) first ∙ second

  -- a key that stands somewhere is there
  pub any_at : (keys : List Key) (i : ℕ) → slice_get keys i ≡ Some key → list_any (is_key key) keys ≡ true
  any_at [] i at = cc
  any_at (k ∷ keys) zero at =
      let same : k ≡ key = cc in ap (λ t. t || list_any (is_key key) keys) (ap (is_key key) same ∙ same_key_itself key)
  any_at (k ∷ keys) (suc i) at =
      let rest = any_at keys i at in
      elim (is_key key k) as (λ t. (t || list_any (is_key key) keys) ≡ true) [ true ↦ refl | false ↦ rest ]

  pub at_passes : (n : ℕ) (pieces : List (List Key)) → has_at key n pieces ≡ true → 1 ≤ length (filter (is_key key) (joined pieces))
  at_passes n [] there = absurd (true≢false (sym there))
  at_passes zero (first ∷ pieces) there =
      let all = passing_both (is_key key) first (joined pieces) in
      let some = any_passes (is_key key) first there in omega (arith, all, some)
  at_passes (suc n) (first ∷ pieces) there =
      let all = passing_both (is_key key) first (joined pieces) in
      let some = at_passes n pieces there in omega (arith, all, some)

  -- where the key stands in the first of two lists, the second lacks it
  pub first_loses : (xs ys less : List Key) → 1 ≤ length (filter (is_key key) xs) → length (filter (is_key key) (xs ++ ys)) ≤ 1 → less ≡ filter (is_not_key key) xs
      → less ++ ys ≡ filter (is_not_key key) (xs ++ ys)
  first_loses xs ys less some once made =
      let all = passing_both (is_key key) xs ys in
      let none : length (filter (is_key key) ys) ≤ 0 = omega (arith, all, some, once) in
      ap (λ l. l ++ ys) made ∙ ap (λ l. filter (is_not_key key) xs ++ l) (all_fail (is_key key) ys none) ∙ sym (filter-append (is_not_key key) xs ys)

  -- and the other way round
  pub second_loses : (xs ys less : List Key) → 1 ≤ length (filter (is_key key) ys) → length (filter (is_key key) (xs ++ ys)) ≤ 1 → less ≡ filter (is_not_key key) ys
      → xs ++ less ≡ filter (is_not_key key) (xs ++ ys)
  second_loses xs ys less some once made =
      let all = passing_both (is_key key) xs ys in
      let none : length (filter (is_key key) xs) ≤ 0 = omega (arith, all, some, once) in
      ap (λ l. xs ++ l) made ∙ ap (λ l. l ++ filter (is_not_key key) ys) (all_fail (is_key key) xs none) ∙ sym (filter-append (is_not_key key) xs ys)

  -- a key among the last ones is one of all
  pub some_in_last : (xs ys : List Key) → list_any (is_key key) ys ≡ true → 1 ≤ length (filter (is_key key) (xs ++ ys))
  some_in_last xs ys any =
      let all = passing_both (is_key key) xs ys in
      let some = any_passes (is_key key) ys any in omega (arith, all, some)

  -- so is one of a piece
  pub some_in_pieces : (pieces : List (List Key)) (last : List Key) (n : ℕ) → has_at key n pieces ≡ true → 1 ≤ length (filter (is_key key) (joined pieces ++ last))
  some_in_pieces pieces last n there =
      let all = passing_both (is_key key) (joined pieces) last in
      let some = at_passes n pieces there in omega (arith, all, some)

  -- a list that lacks it loses nothing
  pub none_loses : (keys : List Key) → list_any (is_key key) keys ≡ false → keys ≡ filter (is_not_key key) keys
  none_loses keys none = let no = none_pass (is_key key) keys none in all_fail (is_key key) keys (omega (arith, no))

  -- a piece has it no more often than all
  pub piece_once : (n : ℕ) (pieces : List (List Key)) (piece : List Key) → piece ≡ get_or pieces n piece → n < length pieces → length (filter (is_key key) (joined pieces)) ≤ 1 → length (filter (is_key key) piece) ≤ 1
  piece_once n [] piece is within once = absurd (omega (arith, within))
  piece_once zero (first ∷ pieces) piece is within once =
      let all = passing_both (is_key key) first (joined pieces) in
      rw is (omega (arith, all, once))
  piece_once (suc n) (first ∷ pieces) piece is within once =
      let all = passing_both (is_key key) first (joined pieces) in
      piece_once n pieces piece is (omega (arith, within)) (omega (arith, all, once))

  -- the piece that has the key loses it
  pub piece_loses : (n : ℕ) (pieces : List (List Key)) (old new : List Key) → has_at key n pieces ≡ true → length (filter (is_key key) (joined pieces)) ≤ 1
      → old ≡ get_or pieces n old → new ≡ filter (is_not_key key) old → joined (set pieces n new) ≡ filter (is_not_key key) (joined pieces)
  piece_loses n [] old new there once is made = absurd (true≢false (sym there))
  piece_loses zero (first ∷ pieces) old new there once is made =
      first_loses first (joined pieces) new (any_passes (is_key key) first there) once (made ∙ ap (filter (is_not_key key)) is)
  piece_loses (suc n) (first ∷ pieces) old new there once is made =
      let all = passing_both (is_key key) first (joined pieces) in
      let some = at_passes n pieces there in
      let rest = piece_loses n pieces old new there (omega (arith, all, some, once)) is made in
      second_loses first (joined pieces) (joined (set pieces n new)) some once rest

  -- one key less
  pub one_less : (keys : List Key) → 1 ≤ length (filter (is_key key) keys) → length (filter (is_key key) keys) ≤ 1 → length (filter (is_not_key key) keys) + 1 ≡ length keys
  one_less keys some once =
      let all = length-filter_both (is_key key) (is_not_key key) (λ k. refl) keys in omega (arith, all, some, once)
