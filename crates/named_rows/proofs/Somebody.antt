-- Under each name that is kept somebody is counted.
use Rattle.std.proofs.Common.{◌≡◌, ℕ, List, [], ◌∷◌, Bool, true, false, cond, ◌==◌, ◌≤◌, ◌+◌, ◌*◌, max, length, Option, Some, None, IfSome, bytes_eq, nat_lt, arith, refl, sym, ap, subst, ◌∙◌}
use Rattle.std.specs.Map.{lookup}
use Rattle.std.proofs.Math.Dec.{eqb-suc-zero}
use Rattle.std.proofs.lemmas.Bool.{and_left, and_right}
use Rattle.std.proofs.lemmas.Bool.Decides.{nat_tests}
use Rattle.mask_merge.specs.declared.want.Ask.{Ask}
use Rattle.mask_merge.specs.Counts.{Counts, counted_with, counted_without, exchanged, holds, is_nothing, put_rising}
use Rattle.named_rows.specs.declared.subs.ClientSub.{ClientSub}
use Rattle.named_rows.specs.Demand.{CountSomebody, IsKept, all_exchanged, ask_of_sub, exchanged_on}
use Rattle.named_rows.specs.Subs.{is_sub_on}

-- one reader more is somebody
some_count : (count : ℕ) (counts : List ℕ) → (length (put_rising count counts) == 0) ≡ false
some_count count [] = refl
some_count count (other ∷ counts) =
    elim (nat_lt other count) as (λ t. (length (cond t (other ∷ put_rising count counts) (count ∷ other ∷ counts)) == 0) ≡ false)
    [ true ↦ eqb-suc-zero (length (put_rising count counts)) | false ↦ eqb-suc-zero (length (other ∷ counts)) ]

silent_more : (n : ℕ) → (n + 1 == 0) ≡ false
silent_more n = grind (arith, nat_tests)

pub somebody_with : (ask : Option Ask) (c : Counts) → is_nothing (counted_with ask c) ≡ false
somebody_with None c = and_right (length c.counts == 0) (c.silent + 1 == 0) (silent_more c.silent)
somebody_with (Some ask) c = and_left (length (put_rising ask.want.count c.counts) == 0) (c.silent == 0) (some_count ask.want.count c.counts)

-- who asks for something else stays
pub somebody_exchanged : (old new : Option Ask) (c : Counts) → is_nothing c ≡ false → is_nothing (exchanged old new c) ≡ false
somebody_exchanged old new c some =
    elim (holds old c) as (λ t. is_nothing (cond t (counted_with new (counted_without old c)) c) ≡ false) [ true ↦ somebody_with new (counted_without old c) | false ↦ some ]

somebody_exchanged_on : (before after : Bool) (session sid : ℕ) (sub : ClientSub) (c : Counts) → is_nothing c ≡ false → is_nothing (exchanged_on before after session sid sub c) ≡ false
somebody_exchanged_on before after session sid sub c some =
    elim (is_sub_on session sid sub) as (λ t. is_nothing (cond t (exchanged (ask_of_sub before sub) (ask_of_sub after sub) c) c) ≡ false)
    [ true ↦ somebody_exchanged (ask_of_sub before sub) (ask_of_sub after sub) c some | false ↦ some ]

pub somebody_all_exchanged : (before after : Bool) (session sid : ℕ) (subs : List ClientSub) (c : Counts) → is_nothing c ≡ false → is_nothing (all_exchanged before after session sid subs c) ≡ false
somebody_all_exchanged before after session sid [] c some = some
somebody_all_exchanged before after session sid (sub ∷ subs) c some =
    somebody_all_exchanged before after session sid subs (exchanged_on before after session sid sub c) (somebody_exchanged_on before after session sid sub c some)

-- somebody is counted under a name that is kept
pub somebody_there : (name : List ℕ) (tallies : List (List ℕ × Counts)) (counts : Counts) → Some counts ≡ lookup (bytes_eq name) tallies → CountSomebody tallies → is_nothing counts ≡ false
somebody_there name tallies counts at before = subst (λ (o : Option Counts). IfSome o (λ c. is_nothing c ≡ false)) (sym at) (before name)

-- where something else is kept under one name
pub somebody_updated : (name : List ℕ) (old new : List (List ℕ × Counts)) (counts : Counts) → ((n : List ℕ) → lookup (bytes_eq n) new ≡ cond (bytes_eq name n) (Some counts) (lookup (bytes_eq n) old)) → is_nothing counts ≡ false → CountSomebody old → CountSomebody new
somebody_updated name old new counts updates some before n =
    subst (λ (o : Option Counts). IfSome o (λ c. is_nothing c ≡ false)) (sym (updates n))
    (elim (bytes_eq name n) as (λ t. IfSome (cond t (Some counts) (lookup (bytes_eq n) old)) (λ c. is_nothing c ≡ false)) [ true ↦ some | false ↦ before n ])

-- where nothing is kept under one name any longer
pub somebody_less : (name : List ℕ) (old mid new : List (List ℕ × Counts)) (counts : Counts) → ((n : List ℕ) → lookup (bytes_eq n) mid ≡ cond (bytes_eq name n) (Some counts) (lookup (bytes_eq n) old)) → ((n : List ℕ) → lookup (bytes_eq n) new ≡ cond (bytes_eq name n) None (lookup (bytes_eq n) mid)) → CountSomebody old → CountSomebody new
somebody_less name old mid new counts updates goes before n =
    subst (λ (o : Option Counts). IfSome o (λ c. is_nothing c ≡ false)) (sym (goes n))
    (elim (bytes_eq name n) as (λ t. bytes_eq name n ≡ t → IfSome (cond t None (lookup (bytes_eq n) mid)) (λ c. is_nothing c ≡ false)) [
      | true ↦ λ _. tt
      | false ↦ λ other. subst (λ (o : Option Counts). IfSome o (λ c. is_nothing c ≡ false)) (sym (updates n ∙ ap (λ t. cond t (Some counts) (lookup (bytes_eq n) old)) other)) (before n)
    ] refl)

-- with as many names there may be as many spots for hints
pub kept_as_long : (old new : List (List ℕ × Counts)) (spots : ℕ) → IsKept old spots → CountSomebody new → length new ≡ length old → IsKept new spots
kept_as_long old new spots kept somebody same = let spare = kept.spare in record { somebody = somebody; spare = omega (arith, same, spare) }

-- and with more names more
pub kept_longer : (old new : List (List ℕ × Counts)) (spots more more_spots : ℕ) → IsKept old spots → CountSomebody new → length new ≡ length old + more → more_spots ≤ max spots (4 * length new + 16) → IsKept new more_spots
kept_longer old new spots more more_spots kept somebody longer room = let spare = kept.spare in record { somebody = somebody; spare = omega (arith, longer, room, spare) }
