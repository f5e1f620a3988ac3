-- What is wanted together, by the bits of its events and by its greatest count.
use Rattle.std.proofs.Common.{◌≡◌, ℕ, ◌≤◌, ◌<◌, List, [], ◌∷◌, ◌++◌, Bool, true, false, cond, length, get_or, map, fold, min, max, bit_and, bit_or, Some, IfSome, All, Contains, refl, ap, ap₂, ◌∙◌, subst, le_antisymm, length-append, arith, rules}
use Rattle.std.specs.Int.{bit_at}
use Rattle.std.proofs.lemmas.List.Elements.{Contains-get_or}
use Rattle.std.proofs.lemmas.List.Recursion.{max_bounds, max_least, max_push}
use Rattle.std.proofs.lemmas.Nat.Bits.{bit_at_and, bit_at_or, bit_at-zero, same_from_bits}
use Rattle.rows.specs.Rows.{remove_first}
use Rattle.mask_merge.specs.declared.want.TheConstants.{KNOWN_EVENTS, ALWAYS_ASKED}
use Rattle.mask_merge.specs.declared.want.Want.{Want}
use Rattle.mask_merge.specs.Laws.{AsksAlways, HasSame, Meets}
use Rattle.mask_merge.specs.Merged.{is_want, mask_of, count_of, events, greatest, asked_for, merged}

-- the greatest of what came so far and the rest
max-fold : (a : ℕ) (xs : List ℕ) → fold max a xs ≡ max a (fold max 0 xs)
max-fold a [] = omega arith
max-fold a (x ∷ xs) = omega (arith, max-fold (max a x) xs, max-fold (max 0 x) xs)

pub greatest-step : (x : Want) (xs : List Want) → greatest (x ∷ xs) ≡ max (count_of x) (greatest xs)
greatest-step x xs = omega (arith, max-fold (max 0 x.count) (map count_of xs))

-- the same for each event
bit-fold : (i a : ℕ) (xs : List ℕ) → bit_at (fold bit_or a xs) i ≡ max (bit_at a i) (bit_at (fold bit_or 0 xs) i)
bit-fold i a [] = omega (arith, bit_at-zero i)
bit-fold i a (x ∷ xs) = omega (arith, bit-fold i (bit_or a x) xs, bit-fold i x xs, bit_at_or a x i)

pub event-step : (i : ℕ) (x : Want) (xs : List Want) → bit_at (events (x ∷ xs)) i ≡ max (bit_at x.mask i) (bit_at (events xs) i)
event-step i x xs = bit-fold i x.mask (map mask_of xs)

-- any greatest number of wants: of their counts, or of one bit of their masks
module _ (F : List Want → ℕ) (f : Want → ℕ) (none : F [] ≡ 0) (step : (x : Want) (xs : List Want) → F (x ∷ xs) ≡ max (f x) (F xs)) where
  bounds-member : (xs : List Want) (want : Want) → Contains xs want → f want ≤ F xs
  bounds-member xs want there = subst (λ y. f y ≤ F xs) there.2 (max_bounds F f none step xs there.0 want there.1)

  -- it rises with the list
  rises : (xs ys : List Want) → ((want : Want) → Contains xs want → Contains ys want) → F xs ≤ F ys
  rises [] ys within = omega (arith, none)
  rises (x ∷ xs) ys within =
      max_least F f none step (x ∷ xs) x (F ys) (λ i below. bounds-member ys (get_or (x ∷ xs) i x) (within _ (Contains-get_or (x ∷ xs) i x below)))

  -- one more, and the first that is alike removed
  left : (p : Want → Bool) (want : Want) → p want ≡ true → ((x : Want) → p x ≡ true → f x ≡ f want) → (xs : List Want) → F (remove_first p (xs ++ want ∷ [])) ≡ F xs
  left p want here alike [] = rw here refl
  left p want here alike (x ∷ xs) =
      elim (p x) as (λ t. p x ≡ t → F (cond t (xs ++ want ∷ []) (x ∷ remove_first p (xs ++ want ∷ []))) ≡ F (x ∷ xs)) [
        | true ↦ λ h. omega (arith, max_push F f none step xs want, step x xs, alike x h)
        | false ↦ λ h. omega (arith, step x (remove_first p (xs ++ want ∷ [])), step x xs, left p want here alike xs)
      ] refl

bit-rises : (i : ℕ) (xs ys : List Want) → ((want : Want) → Contains xs want → Contains ys want) → bit_at (events xs) i ≤ bit_at (events ys) i
bit-rises i = rises (λ wants. bit_at (events wants) i) (λ want. bit_at want.mask i) (bit_at-zero i) (event-step i)

greatest-rises : (xs ys : List Want) → ((want : Want) → Contains xs want → Contains ys want) → greatest xs ≤ greatest ys
greatest-rises = rises greatest count_of refl greatest-step

none_there : (want : Want) → Contains [] want → ⊥
none_there want there = let below : there.0 < 0 = there.1 in absurd (omega arith)

-- the same wants are merged to the same
pub merged-same : (xs ys : List Want) → HasSame xs ys → merged xs ≡ merged ys
merged-same [] [] same = refl
merged-same [] (y ∷ ys) same = absurd (none_there y ((same y).1 (Contains-get_or (y ∷ ys) 0 y (omega arith))))
merged-same (x ∷ xs) [] same = absurd (none_there x ((same x).0 (Contains-get_or (x ∷ xs) 0 x (omega arith))))
merged-same (x ∷ xs) (y ∷ ys) same =
    let there : (want : Want) → Contains (x ∷ xs) want → Contains (y ∷ ys) want = λ want. (same want).0 in
    let back : (want : Want) → Contains (y ∷ ys) want → Contains (x ∷ xs) want = λ want. (same want).1 in
    let bits : events (x ∷ xs) ≡ events (y ∷ ys) = same_from_bits _ _ (λ i. le_antisymm (bit-rises i (x ∷ xs) (y ∷ ys) there) (bit-rises i (y ∷ ys) (x ∷ xs) back)) in
    let counts : greatest (x ∷ xs) ≡ greatest (y ∷ ys) = le_antisymm (greatest-rises (x ∷ xs) (y ∷ ys) there) (greatest-rises (y ∷ ys) (x ∷ xs) back) in
    ap₂ (λ mask count. Some (asked_for mask count)) bits counts

-- what is in all events is asked for where it is known
met-events : (mask all : ℕ) → ((i : ℕ) → bit_at mask i ≤ bit_at all i) → bit_and (bit_and mask KNOWN_EVENTS) (bit_or (bit_and all KNOWN_EVENTS) ALWAYS_ASKED) ≡ bit_and mask KNOWN_EVENTS
met-events mask all within =
    same_from_bits _ _ (λ i. omega (arith, within i, bit_at_and (bit_and mask KNOWN_EVENTS) (bit_or (bit_and all KNOWN_EVENTS) ALWAYS_ASKED) i, bit_at_and mask KNOWN_EVENTS i, bit_at_or (bit_and all KNOWN_EVENTS) ALWAYS_ASKED i, bit_at_and all KNOWN_EVENTS i))

-- each want is met by what is asked for
pub met : (wants : List Want) → IfSome (merged wants) (λ asked. All (Meets asked) wants)
met [] = search rules
met (x ∷ xs) =
    λ k d below. (
      met-events (get_or (x ∷ xs) k d).mask (events (x ∷ xs)) (λ i. max_bounds (λ wants. bit_at (events wants) i) (λ want. bit_at want.mask i) (bit_at-zero i) (event-step i) (x ∷ xs) k d below),
      max_bounds greatest count_of refl greatest-step (x ∷ xs) k d below,
    )

-- the known events of all are within what each one's are within
known-within : (i : ℕ) (enough : Want) (x : Want) (xs : List Want) → All (Meets enough) (x ∷ xs) → min (bit_at (events (x ∷ xs)) i) (bit_at KNOWN_EVENTS i) ≤ bit_at enough.mask i
known-within i enough x xs meets =
    max_least (λ wants. min (bit_at (events wants) i) (bit_at KNOWN_EVENTS i)) (λ want. min (bit_at want.mask i) (bit_at KNOWN_EVENTS i))
    (omega (arith, bit_at-zero i)) (λ y ys. omega (arith, event-step i y ys)) (x ∷ xs) x (bit_at enough.mask i)
    (λ k below. let one = get_or (x ∷ xs) k x in omega (arith, ap (λ n. bit_at n i) (meets k x below).0, bit_at_and (bit_and one.mask KNOWN_EVENTS) enough.mask i, bit_at_and one.mask KNOWN_EVENTS i))

-- nothing is asked for beyond what meets them all and has what is always asked for
pub no_more : (wants : List Want) (enough : Want) → All (Meets enough) wants → AsksAlways enough → IfSome (merged wants) (Meets enough)
no_more [] enough meets always = search rules
no_more (x ∷ xs) enough meets always =
    let all = events (x ∷ xs) in
    let asked = bit_or (bit_and all KNOWN_EVENTS) ALWAYS_ASKED in (
      same_from_bits _ _ (λ i. omega (arith, known-within i enough x xs meets, ap (λ n. bit_at n i) always, bit_at_and ALWAYS_ASKED enough.mask i, bit_at_and (bit_and asked KNOWN_EVENTS) enough.mask i, bit_at_and asked KNOWN_EVENTS i, bit_at_or (bit_and all KNOWN_EVENTS) ALWAYS_ASKED i, bit_at_and all KNOWN_EVENTS i)),
      max_least greatest count_of refl greatest-step (x ∷ xs) x enough.count (λ k below. (meets k x below).1),
    )

merged-some : (wants : List Want) → 0 < length wants → merged wants ≡ Some (asked_for (events wants) (greatest wants))
merged-some [] some = absurd (omega arith)
merged-some (x ∷ xs) some = refl

still-some : (t : Bool) (x want : Want) (xs rest : List Want) → 0 < length (cond t (xs ++ want ∷ []) (x ∷ rest))
still-some true x want xs rest = omega (arith, length-append xs (want ∷ []))
still-some false x want xs rest = omega arith

is_want-same : (mask count : ℕ) → is_want mask count (record { mask = mask; count = count }) ≡ true
is_want-same mask count = search rules

mask-alike : (mask count : ℕ) (x : Want) → is_want mask count x ≡ true → x.mask ≡ mask
mask-alike mask count x h = search rules

count-alike : (mask count : ℕ) (x : Want) → is_want mask count x ≡ true → x.count ≡ count
count-alike mask count x h = search rules

-- a want that was added and removed leaves what was merged before
pub merged-left : (wants : List Want) (mask count : ℕ) → merged (remove_first (is_want mask count) (wants ++ record { mask = mask; count = count } ∷ [])) ≡ merged wants
merged-left [] mask count = rw (is_want-same mask count) refl
merged-left (x ∷ xs) mask count =
    let want : Want = record { mask = mask; count = count } in
    let p = is_want mask count in
    let here = is_want-same mask count in
    let bits : events (remove_first p (x ∷ xs ++ want ∷ [])) ≡ events (x ∷ xs) =
    same_from_bits _ _ (λ i. left (λ wants. bit_at (events wants) i) (λ w. bit_at w.mask i) (bit_at-zero i) (event-step i) p want here (λ y h. ap (λ n. bit_at n i) (mask-alike mask count y h)) (x ∷ xs)) in
    let counts : greatest (remove_first p (x ∷ xs ++ want ∷ [])) ≡ greatest (x ∷ xs) =
    left greatest count_of refl greatest-step p want here (count-alike mask count) (x ∷ xs) in
    merged-some (remove_first p (x ∷ xs ++ want ∷ [])) (still-some (p x) x want xs (remove_first p (xs ++ want ∷ [])))
    ∙ ap₂ (λ m n. Some (asked_for m n)) bits counts
