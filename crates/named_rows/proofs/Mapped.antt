-- Rows seen through what they hold.
use Rattle.std.proofs.Common.{◌≡◌, List, [], ◌∷◌, Bool, true, false, cond, ◌||◌, map, length, refl, sym, ap, ◌∙◌}
use Rattle.std.specs.List.{count_by, filter, list_any}
use Rattle.std.proofs.lemmas.List.{length-map}
use Rattle.std.proofs.lemmas.List.Sums.{length-filter}
use Rattle.rows.specs.Rows.{remove_first}

-- what is seen through f and then through g
pub map_twice : {A B C : Type 0} (g : B → C) (f : A → B) (xs : List A) → map (λ x. g (f x)) xs ≡ map g (map f xs)
map_twice g f [] = refl
map_twice g f (x ∷ xs) = ap (λ rest. g (f x) ∷ rest) (map_twice g f xs)

module _ {A B : Type 0} (f : A → B) where
  pub filter_mapped : (q : B → Bool) (xs : List A) → filter q (map f xs) ≡ map f (filter (λ x. q (f x)) xs)
  filter_mapped q [] = refl
  filter_mapped q (x ∷ xs) =
      elim (q (f x)) as (λ t. cond t (f x ∷ filter q (map f xs)) (filter q (map f xs)) ≡ map f (cond t (x ∷ filter (λ y. q (f y)) xs) (filter (λ y. q (f y)) xs)))
      [ true ↦ ap (λ rest. f x ∷ rest) (filter_mapped q xs) | false ↦ filter_mapped q xs ]

  pub count_mapped : (q : B → Bool) (xs : List A) → count_by q (map f xs) ≡ count_by (λ x. q (f x)) xs
  count_mapped q xs =
      sym (length-filter q (map f xs)) ∙ ap length (filter_mapped q xs) ∙ length-map (filter (λ x. q (f x)) xs) f ∙ length-filter (λ x. q (f x)) xs

  pub any_mapped : (q : B → Bool) (xs : List A) → list_any q (map f xs) ≡ list_any (λ x. q (f x)) xs
  any_mapped q [] = refl
  any_mapped q (x ∷ xs) = ap (λ t. q (f x) || t) (any_mapped q xs)

  pub remove_first_mapped : (q : B → Bool) (xs : List A) → remove_first q (map f xs) ≡ map f (remove_first (λ x. q (f x)) xs)
  remove_first_mapped q [] = refl
  remove_first_mapped q (x ∷ xs) =
      elim (q (f x)) as (λ t. cond t (map f xs) (f x ∷ remove_first q (map f xs)) ≡ map f (cond t xs (x ∷ remove_first (λ y. q (f y)) xs)))
      [ true ↦ refl | false ↦ ap (λ rest. f x ∷ rest) (remove_first_mapped q xs) ]
