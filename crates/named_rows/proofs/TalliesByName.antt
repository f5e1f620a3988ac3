-- Tallies under names, as a map holds them.
use Rattle.std.proofs.Common.{◌≡◌, ℕ, List, true, false, cond, Option, Some, None, refl, sym, ap, ◌∙◌, bytes_eq}
use Rattle.std.specs.Map.{lookup}
use Rattle.std.specs.Option.{unwrap_or}
use Rattle.mask_merge.specs.declared.want.Ask.{Ask}
use Rattle.mask_merge.specs.Counts.{Counts, counted_with, counted_without, nothing_counted}
use Rattle.row_index.proofs.Named.{same_bytes}
use Rattle.named_rows.specs.Demand.{AreCounts, ChangesDemand, SameDemand, demand_of}
use Rattle.named_rows.proofs.Counting.{with_undone}

-- what the map has under a name
pub demand_there : (name : List ℕ) (entries : List (List ℕ × Counts)) (counts : Counts) → Some counts ≡ lookup (bytes_eq name) entries → counts ≡ demand_of entries name
demand_there name entries counts at = ap (λ found. unwrap_or found nothing_counted) at

-- where it has something else under a name
pub demand_updated : (f : Counts → Counts) (name : List ℕ) (old new : List (List ℕ × Counts)) (counts : Counts) → ((n : List ℕ) → lookup (bytes_eq n) new ≡ cond (bytes_eq name n) (Some counts) (lookup (bytes_eq n) old)) → counts ≡ f (demand_of old name) → ChangesDemand name f old new
demand_updated f name old new counts updates is n =
    ap (λ found. unwrap_or found nothing_counted) (updates n)
    ∙ elim (bytes_eq name n) as (λ t. bytes_eq name n ≡ t → unwrap_or (cond t (Some counts) (lookup (bytes_eq n) old)) nothing_counted ≡ cond t (f (demand_of old n)) (demand_of old n))
    [ true ↦ λ e. is ∙ ap (λ k. f (demand_of old k)) (same_bytes name n e) | false ↦ λ _. refl ] refl

-- where it has nothing under a name, what changes nothing of nothing changes nothing
pub demand_without : (f : Counts → Counts) (name : List ℕ) (entries : List (List ℕ × Counts)) → None ≡ lookup (bytes_eq name) entries → f nothing_counted ≡ nothing_counted → ChangesDemand name f entries entries
demand_without f name entries at none n =
    elim (bytes_eq name n) as (λ t. bytes_eq name n ≡ t → demand_of entries n ≡ cond t (f (demand_of entries n)) (demand_of entries n)) [
      | true ↦ λ e.
          let here : nothing_counted ≡ demand_of entries n = ap (λ found. unwrap_or found nothing_counted) at ∙ ap (demand_of entries) (same_bytes name n e) in
          sym here ∙ sym none ∙ ap f here
      | false ↦ λ _. refl
    ] refl

-- where what is kept under a name counts nobody any longer, and goes
pub demand_gone : (f : Counts → Counts) (name : List ℕ) (old mid new : List (List ℕ × Counts)) (counts : Counts)
    → ((n : List ℕ) → lookup (bytes_eq n) mid ≡ cond (bytes_eq name n) (Some counts) (lookup (bytes_eq n) old)) → ((n : List ℕ) → lookup (bytes_eq n) new ≡ cond (bytes_eq name n) None (lookup (bytes_eq n) mid))
    → counts ≡ f (demand_of old name) → counts ≡ nothing_counted → ChangesDemand name f old new
demand_gone f name old mid new counts updates goes is none n =
    ap (λ found. unwrap_or found nothing_counted) (goes n)
    ∙ elim (bytes_eq name n) as (λ t. bytes_eq name n ≡ t → unwrap_or (cond t None (lookup (bytes_eq n) mid)) nothing_counted ≡ cond t (f (demand_of old n)) (demand_of old n)) [
      | true ↦ λ e. sym none ∙ is ∙ ap (λ k. f (demand_of old k)) (same_bytes name n e)
      | false ↦ λ e. ap (λ found. unwrap_or found nothing_counted) (updates n ∙ ap (λ t. cond t (Some counts) (lookup (bytes_eq n) old)) e)
    ] refl

-- an ask that is counted and then counted no longer
pub demand_back : (name : List ℕ) (ask : Option Ask) (old mid new : List (List ℕ × Counts)) → ChangesDemand name (counted_with ask) old mid → ChangesDemand name (counted_without ask) mid new → AreCounts old → SameDemand old new
demand_back name ask old mid new first second counts n =
    second n ∙ ap (λ c. cond (bytes_eq name n) (counted_without ask c) c) (first n)
    ∙ elim (bytes_eq name n) as (λ t. cond t (counted_without ask (cond t (counted_with ask (demand_of old n)) (demand_of old n))) (cond t (counted_with ask (demand_of old n)) (demand_of old n)) ≡ demand_of old n)
    [ true ↦ with_undone ask (demand_of old n) (counts n) | false ↦ refl ]
