-- Lists of rows: what tests find in them, and which rows they keep.
use Rattle.std.proofs.Common.{ℕ, ◌-◌, zero, suc, get_or, inl, inr, is_some, nat_lt, ◌≡◌, ◌<◌, ◌≤◌, List, [], ◌∷◌, ◌++◌, Bool, true, false, cond, not, ◌&&◌, ◌||◌, Option, Some, None, map, length, refl, sym, ap, ◌∙◌, arith, true≢false}
use Rattle.std.proofs.lemmas.Bool.{lt-ltb}
use Rattle.std.proofs.lemmas.List.Elements.{filter_passes}
use Rattle.std.proofs.lemmas.List.Sums.{length-filter}
use Rattle.std.proofs.lemmas.Option.{slice_get_cases, slice_get_within, get_or_from_slice_get}
use Rattle.std.specs.List.{count_by, filter, find, list_all, list_any, slice_get}
use Rattle.rows.specs.Rows.{change_first, remove_first}

module _ {A : Type 0} where
  -- the row that is found passes
  pub found_passes : (p : A → Bool) (xs : List A) (x : A) → find p xs ≡ Some x → p x ≡ true
  found_passes p [] x e = cc
  found_passes p (y ∷ ys) x e =
      elim (p y) as (λ t. p y ≡ t → cond t (Some y) (find p ys) ≡ Some x → p x ≡ true)
      [ true ↦ λ here h. let same : y ≡ x = cc in ap p (sym same) ∙ here | false ↦ λ _ h. found_passes p ys x h ] refl e

  -- some row passes where one is found
  pub found_is_there : (p : A → Bool) (xs : List A) (x : A) → find p xs ≡ Some x → list_any p xs ≡ true
  found_is_there p [] x e = cc
  found_is_there p (y ∷ ys) x e =
      elim (p y) as (λ t. cond t (Some y) (find p ys) ≡ Some x → (t || list_any p ys) ≡ true)
      [ true ↦ λ h. refl | false ↦ λ h. found_is_there p ys x h ] e

  -- none passes where none is found
  pub unfound_is_absent : (p : A → Bool) (xs : List A) → find p xs ≡ None → list_any p xs ≡ false
  unfound_is_absent p [] e = refl
  unfound_is_absent p (y ∷ ys) e =
      elim (p y) as (λ t. cond t (Some y) (find p ys) ≡ None → (t || list_any p ys) ≡ false)
      [ true ↦ λ h. cc | false ↦ λ h. unfound_is_absent p ys h ] e

  -- none is found where none passes
  pub absent_is_unfound : (p : A → Bool) (xs : List A) → list_any p xs ≡ false → find p xs ≡ None
  absent_is_unfound p [] e = refl
  absent_is_unfound p (y ∷ ys) e =
      elim (p y) as (λ t. (t || list_any p ys) ≡ false → cond t (Some y) (find p ys) ≡ None)
      [ true ↦ λ h. cc | false ↦ λ h. absent_is_unfound p ys h ] e

  -- some row passes exactly where those that do are not none
  pub any_where_some : (p : A → Bool) (xs : List A) → nat_lt 0 (length (filter p xs)) ≡ list_any p xs
  any_where_some p [] = refl
  any_where_some p (x ∷ xs) =
      elim (p x) as (λ t. nat_lt 0 (length (cond t (x ∷ filter p xs) (filter p xs))) ≡ (t || list_any p xs))
      [ true ↦ lt-ltb 0 (length (x ∷ filter p xs)) (omega arith) | false ↦ any_where_some p xs ]

  -- a row at a place of a list is in it
  there_at : (q : A → Bool) (xs : List A) (n : ℕ) (d : A) → n < length xs → q (get_or xs n d) ≡ true → list_any q xs ≡ true
  there_at q [] n d within here = absurd (omega arith)
  there_at q (x ∷ xs) zero d within here = rw here refl
  there_at q (x ∷ xs) (suc n) d within here =
      elim (q x) as (λ t. (t || list_any q xs) ≡ true) [ true ↦ refl | false ↦ there_at q xs n d (omega arith) here ]

  there_unfiltered : (p q : A → Bool) (xs : List A) → list_any q (filter p xs) ≡ true → list_any q xs ≡ true
  there_unfiltered p q [] e = e
  there_unfiltered p q (x ∷ xs) e =
      elim (p x) as (λ t. list_any q (cond t (x ∷ filter p xs) (filter p xs)) ≡ true → (q x || list_any q xs) ≡ true) [
        | true ↦ λ h. elim (q x) as (λ t. (t || list_any q (filter p xs)) ≡ true → (t || list_any q xs) ≡ true) [ true ↦ λ _. refl | false ↦ λ g. there_unfiltered p q xs g ] h
        | false ↦ λ h. elim (q x) as (λ t. (t || list_any q xs) ≡ true) [ true ↦ refl | false ↦ there_unfiltered p q xs h ]
      ] e

  -- a row at a place among those that pass stands there for another test that it passes
  pub nth_is_there : (p q : A → Bool) (xs : List A) (n : ℕ) (x : A) → slice_get (filter p xs) n ≡ Some x → q x ≡ true → list_any q xs ≡ true
  nth_is_there p q xs n x e passes =
      there_unfiltered p q xs (there_at q (filter p xs) n x (slice_get_within (filter p xs) n x e) (ap q (get_or_from_slice_get (filter p xs) n x x e) ∙ passes))

  -- and it passes
  pub nth_passes : (p : A → Bool) (xs : List A) (n : ℕ) (x : A) → slice_get (filter p xs) n ≡ Some x → p x ≡ true
  nth_passes p xs n x e =
      ap p (sym (get_or_from_slice_get (filter p xs) n x x e)) ∙ filter_passes p xs n x (slice_get_within (filter p xs) n x e)

  -- where the last of those that pass isn't there, none passes
  pub no_last : (p : A → Bool) (xs : List A) → slice_get (filter p xs) (count_by p xs - 1) ≡ None → list_any p xs ≡ false
  no_last p xs e =
      let count = length-filter p xs in
      elim (slice_get_cases (filter p xs) (count_by p xs - 1)).1 [
        | inl found ↦ absurd (let wrong : None ≡ Some found.0 = sym e ∙ found.2 in cc)
        | inr past ↦ (let none : length (filter p xs) ≡ 0 = omega (arith, count, past.0) in sym (any_where_some p xs) ∙ ap (nat_lt 0) none)
      ]

  -- a row is found exactly where some passes
  pub found_where_any : (p : A → Bool) (xs : List A) → is_some (find p xs) ≡ list_any p xs
  found_where_any p [] = refl
  found_where_any p (x ∷ xs) =
      elim (p x) as (λ t. is_some (cond t (Some x) (find p xs)) ≡ (t || list_any p xs)) [ true ↦ refl | false ↦ found_where_any p xs ]

  -- a row behind one that passes is not the first
  pub found_before : (p : A → Bool) (xs ys : List A) → list_any p xs ≡ true → find p (xs ++ ys) ≡ find p xs
  found_before p [] ys e = cc
  found_before p (x ∷ xs) ys e =
      elim (p x) as (λ t. (t || list_any p xs) ≡ true → cond t (Some x) (find p (xs ++ ys)) ≡ cond t (Some x) (find p xs))
      [ true ↦ λ h. refl | false ↦ λ h. found_before p xs ys h ] e

  -- and none gets lost by a row behind
  pub there_before : (p : A → Bool) (xs ys : List A) → list_any p xs ≡ true → list_any p (xs ++ ys) ≡ true
  there_before p [] ys e = cc
  there_before p (x ∷ xs) ys e =
      elim (p x) as (λ t. (t || list_any p xs) ≡ true → (t || list_any p (xs ++ ys)) ≡ true)
      [ true ↦ λ h. refl | false ↦ λ h. there_before p xs ys h ] e

  -- where all that pass p pass q, the first that passes p stays so among those that pass q
  pub find_among : (p q : A → Bool) → ((x : A) → p x ≡ true → q x ≡ true) → (xs : List A) → find p (filter q xs) ≡ find p xs
  find_among p q within [] = refl
  find_among p q within (x ∷ xs) =
      elim (q x) as (λ t. q x ≡ t → find p (cond t (x ∷ filter q xs) (filter q xs)) ≡ find p (x ∷ xs)) [
        | true ↦ λ _. elim (p x) as (λ t. cond t (Some x) (find p (filter q xs)) ≡ cond t (Some x) (find p xs)) [ true ↦ refl | false ↦ find_among p q within xs ]
        | false ↦ λ out.
            elim (p x) as (λ t. p x ≡ t → find p (filter q xs) ≡ cond t (Some x) (find p xs))
            [ true ↦ λ here. absurd (true≢false (sym (within x here) ∙ out)) | false ↦ λ _. find_among p q within xs ] refl
      ] refl

  -- and some row passes p among them exactly where some does
  pub any_among : (p q : A → Bool) → ((x : A) → p x ≡ true → q x ≡ true) → (xs : List A) → list_any p (filter q xs) ≡ list_any p xs
  any_among p q within [] = refl
  any_among p q within (x ∷ xs) =
      elim (q x) as (λ t. q x ≡ t → list_any p (cond t (x ∷ filter q xs) (filter q xs)) ≡ list_any p (x ∷ xs)) [
        | true ↦ λ _. ap (λ t. p x || t) (any_among p q within xs)
        | false ↦ λ out.
            elim (p x) as (λ t. p x ≡ t → list_any p (filter q xs) ≡ (t || list_any p xs))
            [ true ↦ λ here. absurd (true≢false (sym (within x here) ∙ out)) | false ↦ λ _. any_among p q within xs ] refl
      ] refl

  -- where all that pass p pass q, those that pass p are kept by q
  pub filter_among : (p q : A → Bool) → ((x : A) → p x ≡ true → q x ≡ true) → (xs : List A) → filter p (filter q xs) ≡ filter p xs
  filter_among p q within [] = refl
  filter_among p q within (x ∷ xs) =
      elim (q x) as (λ t. q x ≡ t → filter p (cond t (x ∷ filter q xs) (filter q xs)) ≡ filter p (x ∷ xs)) [
        | true ↦ λ _. elim (p x) as (λ t. cond t (x ∷ filter p (filter q xs)) (filter p (filter q xs)) ≡ cond t (x ∷ filter p xs) (filter p xs)) [ true ↦ ap (λ rest. x ∷ rest) (filter_among p q within xs) | false ↦ filter_among p q within xs ]
        | false ↦ λ out.
            elim (p x) as (λ t. p x ≡ t → filter p (filter q xs) ≡ cond t (x ∷ filter p xs) (filter p xs))
            [ true ↦ λ here. absurd (true≢false (sym (within x here) ∙ out)) | false ↦ λ _. filter_among p q within xs ] refl
      ] refl

  -- it doesn't matter which of two tests comes first
  pub filters_swap : (p q : A → Bool) (xs : List A) → filter p (filter q xs) ≡ filter q (filter p xs)
  filters_swap p q [] = refl
  filters_swap p q (x ∷ xs) =
      elim (p x) as (λ s. p x ≡ s → filter p (filter q (x ∷ xs)) ≡ filter q (cond s (x ∷ filter p xs) (filter p xs))) [
        | true ↦ λ e. elim (q x) as (λ t. filter p (cond t (x ∷ filter q xs) (filter q xs)) ≡ cond t (x ∷ filter q (filter p xs)) (filter q (filter p xs)))
            [ true ↦ rw e (ap (λ rest. x ∷ rest) (filters_swap p q xs)) | false ↦ filters_swap p q xs ]
        | false ↦ λ e. elim (q x) as (λ t. filter p (cond t (x ∷ filter q xs) (filter q xs)) ≡ filter q (filter p xs))
            [ true ↦ rw e (filters_swap p q xs) | false ↦ filters_swap p q xs ]
      ] refl

  -- rows that don't pass are all others' others: none is dropped
  pub none_dropped : (p : A → Bool) (xs : List A) → list_any p xs ≡ false → filter (λ x. not (p x)) xs ≡ xs
  none_dropped p [] e = refl
  none_dropped p (x ∷ xs) e =
      elim (p x) as (λ t. (t || list_any p xs) ≡ false → cond (not t) (x ∷ filter (λ y. not (p y)) xs) (filter (λ y. not (p y)) xs) ≡ x ∷ xs)
      [ true ↦ λ h. cc | false ↦ λ h. ap (λ rest. x ∷ rest) (none_dropped p xs h) ] e

  -- a list gets shorter where one that is found is dropped
  pub fewer_left : (p : A → Bool) (xs : List A) → length (filter p xs) ≤ length xs
  fewer_left p [] = omega arith
  fewer_left p (x ∷ xs) =
      let rest = fewer_left p xs in
      elim (p x) as (λ t. length (cond t (x ∷ filter p xs) (filter p xs)) ≤ length (x ∷ xs)) [ true ↦ omega arith | false ↦ omega arith ]

  pub one_fewer_left : (p : A → Bool) (xs : List A) → list_any p xs ≡ true → length (filter (λ x. not (p x)) xs) < length xs
  one_fewer_left p [] e = cc
  one_fewer_left p (x ∷ xs) e =
      elim (p x) as (λ t. (t || list_any p xs) ≡ true → length (cond (not t) (x ∷ filter (λ y. not (p y)) xs) (filter (λ y. not (p y)) xs)) < length (x ∷ xs))
      [ true ↦ λ h. (let rest = fewer_left (λ y. not (p y)) xs in omega arith) | false ↦ λ h. (let rest = one_fewer_left p xs h in omega arith) ] e

  -- none passes among those that don't
  pub none_among_others : (p : A → Bool) (xs : List A) → list_any p (filter (λ x. not (p x)) xs) ≡ false
  none_among_others p [] = refl
  none_among_others p (x ∷ xs) =
      elim (p x) as (λ t. p x ≡ t → list_any p (cond (not t) (x ∷ filter (λ y. not (p y)) xs) (filter (λ y. not (p y)) xs)) ≡ false)
      [ true ↦ λ _. none_among_others p xs | false ↦ λ e. rw e (none_among_others p xs) ] refl

  -- the row that is found is one that passes what it passes
  pub there_where_found : (p q : A → Bool) (xs : List A) (x : A) → find p xs ≡ Some x → q x ≡ true → list_any q xs ≡ true
  there_where_found p q [] x e passes = cc
  there_where_found p q (y ∷ ys) x e passes =
      elim (p y) as (λ t. cond t (Some y) (find p ys) ≡ Some x → (q y || list_any q ys) ≡ true) [
        | true ↦ λ h. let same : y ≡ x = cc in rw (ap q same ∙ passes) refl
        | false ↦ λ h. elim (q y) as (λ t. (t || list_any q ys) ≡ true) [ true ↦ refl | false ↦ there_where_found p q ys x h passes ]
      ] e

  -- with no row that passes none is the first
  pub none_is_first : (p : A → Bool) (xs : List A) → list_any p xs ≡ false → remove_first p xs ≡ xs
  none_is_first p [] e = refl
  none_is_first p (x ∷ xs) e =
      elim (p x) as (λ t. (t || list_any p xs) ≡ false → cond t xs (x ∷ remove_first p xs) ≡ x ∷ xs) [ true ↦ λ h. cc | false ↦ λ h. ap (λ rest. x ∷ rest) (none_is_first p xs h) ] e

  -- without the first that passes there are fewer
  pub fewer_without_first : (p : A → Bool) (xs : List A) → list_any p xs ≡ true → length (remove_first p xs) < length xs
  fewer_without_first p [] e = cc
  fewer_without_first p (x ∷ xs) e =
      elim (p x) as (λ t. (t || list_any p xs) ≡ true → length (cond t xs (x ∷ remove_first p xs)) < length (x ∷ xs))
      [ true ↦ λ h. omega arith | false ↦ λ h. (let rest = fewer_without_first p xs h in omega arith) ] e

  -- and a test that fails for it keeps the same
  pub kept_without_first : (p q : A → Bool) → ((x : A) → p x ≡ true → q x ≡ false) → (xs : List A) → filter q (remove_first p xs) ≡ filter q xs
  kept_without_first p q fails [] = refl
  kept_without_first p q fails (x ∷ xs) =
      elim (p x) as (λ t. p x ≡ t → filter q (cond t xs (x ∷ remove_first p xs)) ≡ filter q (x ∷ xs))
      [ true ↦ λ e. rw (fails x e) refl | false ↦ λ _. ap (λ rest. cond (q x) (x ∷ rest) rest) (kept_without_first p q fails xs) ] refl

  -- tests that agree on each row that passes s keep the same of such rows
  pub filter_agree_where : (s p q : A → Bool) → ((x : A) → s x ≡ true → p x ≡ q x) → (xs : List A) → list_all s xs ≡ true → filter p xs ≡ filter q xs
  filter_agree_where s p q agree [] e = refl
  filter_agree_where s p q agree (x ∷ xs) e =
      elim (s x) as (λ t. s x ≡ t → (t && list_all s xs) ≡ true → filter p (x ∷ xs) ≡ filter q (x ∷ xs))
      [ true ↦ λ here h. rw (agree x here) (ap (λ rest. cond (q x) (x ∷ rest) rest) (filter_agree_where s p q agree xs h)) | false ↦ λ _ h. cc ] refl e

  -- what holds of all rows holds of some of them
  pub all_kept : (s q : A → Bool) (xs : List A) → list_all s xs ≡ true → list_all s (filter q xs) ≡ true
  all_kept s q [] e = refl
  all_kept s q (x ∷ xs) e =
      elim (s x) as (λ t. s x ≡ t → (t && list_all s xs) ≡ true → list_all s (filter q (x ∷ xs)) ≡ true) [
        | true ↦ λ here h. elim (q x) as (λ t. list_all s (cond t (x ∷ filter q xs) (filter q xs)) ≡ true) [ true ↦ rw here (all_kept s q xs h) | false ↦ all_kept s q xs h ]
        | false ↦ λ _ h. cc
      ] refl e

  -- of the one that is found
  pub all_found : (s p : A → Bool) (xs : List A) (x : A) → list_all s xs ≡ true → find p xs ≡ Some x → s x ≡ true
  all_found s p [] x e found = cc
  all_found s p (y ∷ ys) x e found =
      elim (s y) as (λ t. s y ≡ t → (t && list_all s ys) ≡ true → s x ≡ true) [
        | true ↦ λ here h.
            elim (p y) as (λ t. cond t (Some y) (find p ys) ≡ Some x → s x ≡ true) [ true ↦ λ f. let same : y ≡ x = cc in ap s (sym same) ∙ here | false ↦ λ f. all_found s p ys x h f ] found
        | false ↦ λ _ h. cc
      ] refl e

  -- of all rows, and of one more
  pub all_with_more : (s : A → Bool) (xs : List A) (x : A) → list_all s xs ≡ true → s x ≡ true → list_all s (xs ++ x ∷ []) ≡ true
  all_with_more s [] x e last = rw last refl
  all_with_more s (y ∷ ys) x e last =
      elim (s y) as (λ t. (t && list_all s ys) ≡ true → (t && list_all s (ys ++ x ∷ [])) ≡ true) [ true ↦ λ h. all_with_more s ys x h last | false ↦ λ h. cc ] e

  -- of all rows, and so what follows from it
  pub all_so : (s t : A → Bool) → ((x : A) → s x ≡ true → t x ≡ true) → (xs : List A) → list_all s xs ≡ true → list_all t xs ≡ true
  all_so s t so [] e = refl
  all_so s t so (x ∷ xs) e =
      elim (s x) as (λ b. s x ≡ b → (b && list_all s xs) ≡ true → (t x && list_all t xs) ≡ true)
      [ true ↦ λ here h. rw (so x here) (all_so s t so xs h) | false ↦ λ _ h. cc ] refl e

  -- of all rows, and so what follows from it and another such thing
  pub all_so_where : (s u t : A → Bool) → ((x : A) → s x ≡ true → u x ≡ true → t x ≡ true) → (xs : List A) → list_all s xs ≡ true → list_all u xs ≡ true → list_all t xs ≡ true
  all_so_where s u t so [] e g = refl
  all_so_where s u t so (x ∷ xs) e g =
      elim (s x) as (λ b. s x ≡ b → (b && list_all s xs) ≡ true → (t x && list_all t xs) ≡ true) [
        | true ↦ λ here h.
            elim (u x) as (λ b. u x ≡ b → (b && list_all u xs) ≡ true → (t x && list_all t xs) ≡ true)
            [ true ↦ λ there k. rw (so x here there) (all_so_where s u t so xs h k) | false ↦ λ _ k. cc ] refl g
        | false ↦ λ _ h. cc
      ] refl e

  -- where none passes, all don't
  pub none_is_all : (p : A → Bool) (xs : List A) → list_any p xs ≡ false → list_all (λ x. not (p x)) xs ≡ true
  none_is_all p [] e = refl
  none_is_all p (x ∷ xs) e =
      elim (p x) as (λ t. (t || list_any p xs) ≡ false → (not t && list_all (λ y. not (p y)) xs) ≡ true) [ true ↦ λ h. cc | false ↦ λ h. none_is_all p xs h ] e

  -- some row passes what follows from what one passes
  pub any_so : (p q : A → Bool) → ((x : A) → p x ≡ true → q x ≡ true) → (xs : List A) → list_any p xs ≡ true → list_any q xs ≡ true
  any_so p q so [] e = cc
  any_so p q so (x ∷ xs) e =
      elim (p x) as (λ t. p x ≡ t → (t || list_any p xs) ≡ true → (q x || list_any q xs) ≡ true) [
        | true ↦ λ here _. rw (so x here) refl
        | false ↦ λ _ h. elim (q x) as (λ t. (t || list_any q xs) ≡ true) [ true ↦ refl | false ↦ any_so p q so xs h ]
      ] refl e

  -- where what all pass rules out p, none passes p
  pub all_pass_so : (s p : A → Bool) → ((x : A) → s x ≡ true → p x ≡ false) → (xs : List A) → list_all s xs ≡ true → list_any p xs ≡ false
  all_pass_so s p so [] e = refl
  all_pass_so s p so (x ∷ xs) e =
      elim (s x) as (λ b. s x ≡ b → (b && list_all s xs) ≡ true → (p x || list_any p xs) ≡ false)
      [ true ↦ λ here h. rw (so x here) (all_pass_so s p so xs h) | false ↦ λ _ h. cc ] refl e

-- One row changed.
module _ {A : Type 0} (p : A → Bool) (f : A → A) where
  -- a test that the change keeps passes for some row as before
  pub any_changed : (q : A → Bool) → ((x : A) → q (f x) ≡ q x) → (xs : List A) → list_any q (change_first p f xs) ≡ list_any q xs
  any_changed q same [] = refl
  any_changed q same (x ∷ xs) =
      elim (p x) as (λ t. list_any q (cond t (f x ∷ xs) (x ∷ change_first p f xs)) ≡ list_any q (x ∷ xs))
      [ true ↦ rw (same x) refl | false ↦ ap (λ t. q x || t) (any_changed q same xs) ]

  -- and for all rows
  pub all_changed : (q : A → Bool) → ((x : A) → q (f x) ≡ q x) → (xs : List A) → list_all q (change_first p f xs) ≡ list_all q xs
  all_changed q same [] = refl
  all_changed q same (x ∷ xs) =
      elim (p x) as (λ t. list_all q (cond t (f x ∷ xs) (x ∷ change_first p f xs)) ≡ list_all q (x ∷ xs))
      [ true ↦ rw (same x) refl | false ↦ ap (λ t. q x && t) (all_changed q same xs) ]

  -- what the change keeps of a row is the same of the row that is found
  pub found_changed : {B : Type 0} (q : A → Bool) (w : Option A → B) → ((x : A) → q (f x) ≡ q x) → ((x : A) → w (Some (f x)) ≡ w (Some x)) → (xs : List A) → w (find q (change_first p f xs)) ≡ w (find q xs)
  found_changed q w same kept [] = refl
  found_changed q w same kept (x ∷ xs) =
      elim (p x) as (λ t. w (find q (cond t (f x ∷ xs) (x ∷ change_first p f xs))) ≡ w (find q (x ∷ xs))) [
        | true ↦ rw (same x) (elim (q x) as (λ t. w (cond t (Some (f x)) (find q xs)) ≡ w (cond t (Some x) (find q xs))) [ true ↦ kept x | false ↦ refl ])
        | false ↦ elim (q x) as (λ t. w (cond t (Some x) (find q (change_first p f xs))) ≡ w (cond t (Some x) (find q xs))) [ true ↦ refl | false ↦ found_changed q w same kept xs ]
      ]

  -- and of the rows that a test keeps
  pub kept_changed : {B : Type 0} (q : A → Bool) (k : A → B) → ((x : A) → q (f x) ≡ q x) → ((x : A) → k (f x) ≡ k x) → (xs : List A) → map k (filter q (change_first p f xs)) ≡ map k (filter q xs)
  kept_changed q k same kept [] = refl
  kept_changed q k same kept (x ∷ xs) =
      elim (p x) as (λ t. map k (filter q (cond t (f x ∷ xs) (x ∷ change_first p f xs))) ≡ map k (filter q (x ∷ xs))) [
        | true ↦ rw (same x) (elim (q x) as (λ t. map k (cond t (f x ∷ filter q xs) (filter q xs)) ≡ map k (cond t (x ∷ filter q xs) (filter q xs))) [ true ↦ ap (λ y. y ∷ map k (filter q xs)) (kept x) | false ↦ refl ])
        | false ↦ elim (q x) as (λ t. map k (cond t (x ∷ filter q (change_first p f xs)) (filter q (change_first p f xs))) ≡ map k (cond t (x ∷ filter q xs) (filter q xs)))
            [ true ↦ ap (λ rest. k x ∷ rest) (kept_changed q k same kept xs) | false ↦ kept_changed q k same kept xs ]
      ]
