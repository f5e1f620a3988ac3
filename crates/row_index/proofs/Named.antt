-- Lists under names, as a map holds them.
use Rattle.std.proofs.Common.{◌≡◌, ◌≤◌, ◌+◌, ◌*◌, max, ℕ, List, [], ◌∷◌, Bool, true, false, cond, Option, Some, None, refl, sym, ap, ◌∙◌, ◌++◌, ◌==◌, true≢false, bytes_eq, length, arith}
use Rattle.std.specs.Cmp.Lexicographic.{bytes_decides}
use Rattle.std.specs.Map.{lookup}
use Rattle.std.specs.Option.{unwrap_or}
use Rattle.row_index.specs.Lists.{listed, HasNoEmptyList, IsKept}

module _ {K X : Type 0} (eq : K → K → Bool) (same : (a b : K) → eq a b ≡ true → a ≡ b) where
  -- the list that the map has under a name
  pub of_there : (name : K) (entries : List (K × List X)) (keys : List X) → Some keys ≡ lookup (eq name) entries → keys ≡ listed eq entries name
  of_there name entries keys at = ap (λ found. unwrap_or found []) at

  -- under a name that it lacks there is no key
  pub of_nowhere : (name : K) (entries : List (K × List X)) → None ≡ lookup (eq name) entries → [] ≡ listed eq entries name
  of_nowhere name entries at = ap (λ found. unwrap_or found []) at

  -- what a list becomes, said of the name that is asked for
  same_name : (lists : List (K × List X)) (f : List X → List X) (name n : K) → cond (eq name n) (f (listed eq lists name)) (listed eq lists n) ≡ cond (eq name n) (f (listed eq lists n)) (listed eq lists n)
  same_name lists f name n =
      elim (eq name n) as (λ t. eq name n ≡ t → cond t (f (listed eq lists name)) (listed eq lists n) ≡ cond t (f (listed eq lists n)) (listed eq lists n))
      [ true ↦ λ e. ap (λ k. f (listed eq lists k)) (same name n e) | false ↦ λ e. refl ] refl

  updated : (name : K) (old new : List (K × List X)) (w : Option (List X)) (n : K) → lookup (eq n) new ≡ cond (eq name n) w (lookup (eq n) old)
      → listed eq new n ≡ cond (eq name n) (unwrap_or w []) (listed eq old n)
  updated name old new w n e =
      ap (λ found. unwrap_or found []) e
      ∙ elim (eq name n) as (λ t. unwrap_or (cond t w (lookup (eq n) old)) [] ≡ cond t (unwrap_or w []) (listed eq old n)) [ true ↦ refl | false ↦ refl ]

  -- a map that has another list under the name
  pub of_updated : (f : List X → List X) (name : K) (old new : List (K × List X)) (w : Option (List X))
      → ((n : K) → lookup (eq n) new ≡ cond (eq name n) w (lookup (eq n) old))
      → unwrap_or w [] ≡ f (listed eq old name)
      → (n : K) → listed eq new n ≡ cond (eq name n) (f (listed eq old n)) (listed eq old n)
  of_updated f name old new w updates keys n =
      updated name old new w n (updates n) ∙ ap (λ k. cond (eq name n) k (listed eq old n)) keys ∙ same_name old f name n

  -- with the same list under it, every name has what it had
  pub of_kept : (name : K) (old new : List (K × List X)) (w : Option (List X))
      → ((n : K) → lookup (eq n) new ≡ cond (eq name n) w (lookup (eq n) old))
      → unwrap_or w [] ≡ listed eq old name
      → (n : K) → listed eq new n ≡ listed eq old n
  of_kept name old new w updates keys n =
      of_updated (λ k. k) name old new w updates keys n
      ∙ elim (eq name n) as (λ t. cond t (listed eq old n) (listed eq old n) ≡ listed eq old n) [ true ↦ refl | false ↦ refl ]

  -- a list that changed, and then went since it is empty
  pub taken_out : (name : K) (old mid new : List (K × List X)) (w : Option (List X)) → ((n : K) → lookup (eq n) mid ≡ cond (eq name n) w (lookup (eq n) old)) → ((n : K) → lookup (eq n) new ≡ cond (eq name n) None (lookup (eq n) mid))
      → (n : K) → lookup (eq n) new ≡ cond (eq name n) None (lookup (eq n) old)
  taken_out name old mid new w first second n =
      second n ∙ ap (cond (eq name n) None) (first n)
      ∙ elim (eq name n) as (λ t. let none : Option (List X) = None in cond t none (cond t w (lookup (eq n) old)) ≡ cond t none (lookup (eq n) old)) [ true ↦ refl | false ↦ refl ]

  -- a change that leaves no key where there was none changes nothing under a name that the map lacks
  pub of_without : (f : List X → List X) (name : K) (entries : List (K × List X)) → None ≡ lookup (eq name) entries → f [] ≡ []
      → (n : K) → listed eq entries n ≡ cond (eq name n) (f (listed eq entries n)) (listed eq entries n)
  of_without f name entries at none n =
      elim (eq name n) as (λ t. eq name n ≡ t → listed eq entries n ≡ cond t (f (listed eq entries n)) (listed eq entries n)) [
        | true ↦ λ e. let here : [] ≡ listed eq entries n = of_nowhere name entries at ∙ ap (listed eq entries) (same name n e) in sym here ∙ sym none ∙ ap f here
        | false ↦ λ e. refl
      ] refl

  -- a map that has another list under the name, and no empty one, has no empty list at all
  pub no_empty_updated : (name : K) (old new : List (K × List X)) (w : Option (List X))
      → ((n : K) → lookup (eq n) new ≡ cond (eq name n) w (lookup (eq n) old))
      → (unwrap_or w [] ≡ [] → w ≡ None)
      → HasNoEmptyList eq old → HasNoEmptyList eq new
  no_empty_updated name old new w updates filled lean n =
      let there = elim (eq name n) as (λ t. unwrap_or (cond t w (lookup (eq n) old)) [] ≡ [] → cond t w (lookup (eq n) old) ≡ None) [ true ↦ filled | false ↦ lean n ] in
      λ none. updates n ∙ there (sym (ap (λ found. unwrap_or found []) (updates n)) ∙ none)

  -- the list that the map has under a name isn't empty
  pub none_there : (name : K) (entries : List (K × List X)) (keys : List X) → Some keys ≡ lookup (eq name) entries → HasNoEmptyList eq entries → keys ≡ [] → Some keys ≡ None
  none_there name entries keys at lean none = at ∙ lean name (sym (of_there name entries keys at) ∙ none)

-- a list with a last one isn't empty
pub last_there : {X : Type 0} (x : X) (xs ys : List X) → ys ≡ xs ++ x ∷ [] → ys ≡ [] → Some ys ≡ None
last_there x [] ys is none = let clash : x ∷ [] ≡ [] = sym is ∙ none in cc
last_there x (y ∷ xs) ys is none = let clash : y ∷ (xs ++ x ∷ []) ≡ [] = sym is ∙ none in cc

pub some_items : {X : Type 0} (xs : List X) → length xs == 0 ≡ false → xs ≡ [] → Some xs ≡ None
some_items [] some none = absurd (true≢false some)
some_items (x ∷ xs) some none = cc

pub no_items : {A : Type 0} (xs : List A) → length xs ≡ 0 → xs ≡ []
no_items [] e = refl
no_items (x ∷ xs) e = absurd (omega arith)

pub same_bytes : (a b : List ℕ) → bytes_eq a b ≡ true → a ≡ b
same_bytes a b e = (bytes_decides a b).0 e

-- with as many lists there may be as many spots for hints
pub kept_as_long : {K X : Type 0} (eq : K → K → Bool) (old new : List (K × List X)) (spots : ℕ) → IsKept eq old spots → HasNoEmptyList eq new → length new ≡ length old → IsKept eq new spots
kept_as_long eq old new spots kept filled same = let spare = kept.spare in record { filled = filled; spare = omega (arith, same, spare) }

-- and with more lists more
pub kept_longer : {K X : Type 0} (eq : K → K → Bool) (old new : List (K × List X)) (spots more more_spots : ℕ) → IsKept eq old spots → HasNoEmptyList eq new → length new ≡ length old + more → more_spots ≤ max spots (4 * length new + 16) → IsKept eq new more_spots
kept_longer eq old new spots more more_spots kept filled longer room = let spare = kept.spare in record { filled = filled; spare = omega (arith, longer, room, spare) }
