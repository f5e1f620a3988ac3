-- Counts after changes are those of the readers that stand.
use Rattle.std.proofs.Common.{◌≡◌, ℕ, List, [], ◌∷◌, Bool, true, false, cond, ◌||◌, length, map, fold, Option, Some, None, refl, sym, ap, ◌∙◌, arith, rules}
use Rattle.std.specs.Prelude.{◌==◌}
use Rattle.std.specs.List.{list_any}
use Rattle.std.proofs.lemmas.Bool.Decides.{nat_tests}
use Rattle.rows.specs.Rows.{change_first, remove_first}
use Rattle.mask_merge.specs.declared.want.Ask.{Ask}
use Rattle.mask_merge.specs.Changes.{Change, Added, Removed, Exchanged, counts_after, after, is_flag, is_ask, readers_after, standing, IsFair, AreFairFrom, AreFair}
use Rattle.mask_merge.specs.Counts.{counted, counted_with, counted_without, exchanged, is_nothing, wanted_of, as_native, wants_in, asks_props, props_wanted}
use Rattle.mask_merge.specs.Merged.{merged}
use Rattle.mask_merge.proofs.CountLemmas.{with_twice, with_last, without_with, exchanged_with, within_counted, wanted_is_merged, props_are_asked, put_length}

same_flag : (t u : Bool) → is_flag t u ≡ true → u ≡ t
same_flag true u e = e
same_flag false true e = cc
same_flag false false e = refl

same_ask : (x y : Option Ask) → is_ask x y ≡ true → y ≡ x
same_ask None None e = refl
same_ask None (Some b) e = cc
same_ask (Some a) None e = cc
same_ask (Some a) (Some b) e = search rules

-- one that stands is counted beside the others
stands_first : (ask : Option Ask) (asks : List (Option Ask)) → list_any (is_ask ask) asks ≡ true → counted asks ≡ counted_with ask (counted (remove_first (is_ask ask) asks))
stands_first ask [] e = cc
stands_first ask (x ∷ asks) e =
    elim (is_ask ask x) as (λ t. is_ask ask x ≡ t → (t || list_any (is_ask ask) asks) ≡ true → counted_with x (counted asks) ≡ counted_with ask (counted (cond t asks (x ∷ remove_first (is_ask ask) asks)))) [
      | true ↦ λ same _. ap (λ y. counted_with y (counted asks)) (same_ask ask x same)
      | false ↦ λ _ there. ap (counted_with x) (stands_first ask asks there) ∙ with_twice x ask (counted (remove_first (is_ask ask) asks))
    ] refl e

-- one that changes is counted as what it becomes
becomes : (old new : Option Ask) (asks : List (Option Ask)) → list_any (is_ask old) asks ≡ true → counted (change_first (is_ask old) (λ _. new) asks) ≡ counted_with new (counted (remove_first (is_ask old) asks))
becomes old new [] e = cc
becomes old new (x ∷ asks) e =
    elim (is_ask old x) as (λ t. (t || list_any (is_ask old) asks) ≡ true → counted (cond t (new ∷ asks) (x ∷ change_first (is_ask old) (λ _. new) asks)) ≡ counted_with new (counted (cond t asks (x ∷ remove_first (is_ask old) asks)))) [
      | true ↦ λ _. refl
      | false ↦ λ there. ap (counted_with x) (becomes old new asks there) ∙ with_twice x new (counted (remove_first (is_ask old) asks))
    ] e

one_change : (asks : List (Option Ask)) (change : Change) → IsFair asks change → counts_after (counted asks) change ≡ counted (readers_after asks change)
one_change asks (Added ask) fair = sym (with_last asks ask)
one_change asks (Removed ask) fair =
    let left = remove_first (is_ask ask) asks in
    ap (counted_without ask) (stands_first ask asks fair) ∙ without_with ask (counted left) (within_counted left)
one_change asks (Exchanged old new) fair =
    let left = remove_first (is_ask old) asks in
    ap (exchanged old new) (stands_first old asks fair) ∙ exchanged_with old new (counted left) (within_counted left) ∙ sym (becomes old new asks fair)

all_changes : (asks : List (Option Ask)) (changes : List Change) → AreFairFrom asks changes → fold counts_after (counted asks) changes ≡ counted (fold readers_after asks changes)
all_changes asks [] fair = refl
all_changes asks (change ∷ changes) fair =
    ap (λ c. fold counts_after c changes) (one_change asks change fair.0) ∙ all_changes (readers_after asks change) changes fair.1

-- the counts are those of the readers that stand
pub counts_of_standing : (changes : List Change) → AreFair changes → after changes ≡ counted (standing changes)
counts_of_standing changes fair = all_changes [] changes fair

-- so they say what those want together
pub wanted_by_standing : (changes : List Change) → AreFair changes → (native : ℕ) → wanted_of native (after changes) ≡ merged (map (as_native native) (wants_in (standing changes)))
wanted_by_standing changes fair native =
    ap (wanted_of native) (counts_of_standing changes fair) ∙ wanted_is_merged native (standing changes)

pub props_by_standing : (changes : List Change) → AreFair changes → (states : Bool) → props_wanted states (after changes) ≡ list_any (asks_props states) (standing changes)
props_by_standing changes fair states =
    ap (props_wanted states) (counts_of_standing changes fair) ∙ props_are_asked states (standing changes)

none_or_more : (asks : List (Option Ask)) → is_nothing (counted asks) ≡ (length asks == 0)
none_or_more [] = refl
none_or_more (None ∷ asks) = grind (arith, nat_tests)
none_or_more (Some a ∷ asks) = grind (arith, nat_tests, put_length a.want.count (counted asks).counts)

-- and whether any stands
pub nobody_stands : (changes : List Change) → AreFair changes → is_nothing (after changes) ≡ (length (standing changes) == 0)
nobody_stands changes fair = ap is_nothing (counts_of_standing changes fair) ∙ none_or_more (standing changes)
