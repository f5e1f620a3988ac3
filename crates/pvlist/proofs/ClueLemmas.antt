-- From a match of a regular expression to the clues of the name.
use Rattle.std.proofs.Common.{◌≡◌, ℕ, zero, suc, ◌+◌, ◌-◌, ◌<◌, ◌≤◌, true, false, List, [], ◌∷◌, drop, take, length, nat_eq, All, Option, None, Some, IsSomeAnd, IfSome, is_some, refl, sym, ap, ◌∙◌, subst, arith, get_or-drop, slice_index, Result, Ok, Err, IfOk, Vec}
use Rattle.std.proofs.lemmas.Bool.{or_left, or_right}
use Rattle.std.proofs.lemmas.Cmp.{nat_list_eq_equiv}
use Rattle.std.proofs.lemmas.List.{ext_get_or, get_or-take, length-take-le, length-drop}
use Rattle.std.proofs.lemmas.List.Folds.{list_any_at}
use Rattle.std.specs.List.{starts_with, ends_with, list_any}
use Rattle.std.specs.declared.alloc.AllocError.{AllocError}
use Rattle.std.specs.declared.alloc.Global.{Global}
use lib.Pointwise.{pointwise}
use Rattle.regex.specs.Patterns.{Re, Matches, SameCaptures, find_str, default_config, Reads}
use Rattle.regex.specs.Strings.{regex_pattern, regex_source, regex_config, IsReadFromSource}
use Rattle.regex.specs.declared.string.regex.Regex.{Regex}
use Rattle.regex.proofs.ForCallers.{find_str_sound}
use Rattle.regex.proofs.OnLiterals.{IfSome-weaker}
use Rattle.regex.proofs.SearchLemmas.{leftmost_attempt}
use Rattle.regex_extract.specs.Bounds.{IsAnchored}
use Rattle.regex_extract.specs.Needles.{needles_of, AreFilled, StartsWithNeedle, EndsWithNeedle, ContainsNeedle}
use Rattle.regex_hir.proofs.OptionLemmas.{value_of_IsSome}
use Rattle.regex_hir.specs.declared.hir.Hir.{Hir}
use Rattle.regex_hir.specs.Meaning.{meaning}
use Rattle.regex_literal.specs.Find.{OccursAt, needle_at}
use Rattle.regex_syntax.proofs.CapturesLemmas as seen
use Rattle.regex_syntax.proofs.Written.{is_some-option_map}
use Rattle.regex_syntax.specs.Brackets.{Nested}
use Rattle.regex_syntax.specs.Grammar.{Names, group_count, read}
use Rattle.pvlist.specs.declared.clues.Clues.{Clues}
use Rattle.pvlist.specs.declared.clues.TextPlace.{TextPlace}
use Rattle.pvlist.specs.declared.clues.TextPlace.TheVariants.{Start, End, Anywhere}
use Rattle.pvlist.specs.Clues.{is_there, stands_in, has_one, AreClues, AreCluesOf}

-- ---- two trees that are read from one text

read_alike : (o : Option (Nested Re × Names)) (most : ℕ) (a b : Re) (m n : Names)
    → IsSomeAnd o (λ (re, found). (re.depth ≤ most) × SameCaptures a re.value × (m ≡ found) × (group_count a ≤ length m))
    → IsSomeAnd o (λ (re, found). (re.depth ≤ most) × SameCaptures b re.value × (n ≡ found) × (group_count b ≤ length n))
    → SameCaptures a b
read_alike None most a b m n p q = absurd p
read_alike (Some found) most a b m n p q = seen.◌also◌ p.1 (seen.alike_sym q.1)

-- the regular expression and a tree that is read from its text match alike
same_reading : (regex : Regex) (tree : Hir) (names : Names) → regex_config regex ≡ default_config → IsReadFromSource regex
    → Reads default_config (regex_source regex) tree names → SameCaptures (regex_pattern regex) (meaning tree)
unfolding Reads
same_reading regex tree names config read parsed =
    read_alike _ default_config.nest_limit _ _ _ names (rw config at read) parsed

-- a tree that matches alike has a match where the regular expression has one
matched : (a b : Re) → SameCaptures a b → (name : List ℕ) → All (λ b. b < 256) name → is_some (find_str a name 0) ≡ true
    → (i : ℕ) × (j : ℕ) × (i ≤ length name) × Matches name b i j
matched a b same name bytes h =
    let also_found : is_some (find_str b name 0) ≡ true =
    sym (is_some-option_map seen.spans _) ∙ ap is_some (sym (seen.find_str_alike a b same name bytes 0)) ∙ is_some-option_map seen.spans _ ∙ h in
    let found = value_of_IsSome _ also_found in
    let m = (find_str_sound b name 0 found.0 found.1).1 in
    (found.0.start, found.0.trace.end, (leftmost_attempt b name true 0 found.0 found.1).1, m)

-- the clues of a tree are those of a regular expression that matches alike
clues_alike : (regex : Regex) (re : Re) (clues : Clues) → SameCaptures (regex_pattern regex) re → AreCluesOf re clues → AreClues regex clues
clues_alike regex re clues same are name bytes h =
    let m = matched (regex_pattern regex) re same name bytes h in
    are name m.0 m.1 bytes m.2 m.3

-- ---- texts that stand in a name

starts_of_occurs : (name text : List ℕ) (k : ℕ) → OccursAt name text k → starts_with nat_eq (drop k name) text ≡ true
starts_of_occurs name text k o =
    let room : length text ≤ length (drop k name) = omega (arith, o.fits, length-drop k name) in
    let same : text ≡ take (length text) (drop k name) =
    ext_get_or 0 text _ (sym (length-take-le (length text) (drop k name) room))
    (λ i lt. sym (o.reads i lt) ∙ sym (get_or-drop k name i 0) ∙ sym (get_or-take (length text) (drop k name) i 0 lt)) in
    subst (λ front. pointwise nat_eq text front ≡ true) same (nat_list_eq_equiv.refl text)

-- a match from the start of the name begins with a text
begins_of_match : (re : Re) (texts : List (List ℕ)) → IsAnchored true re → StartsWithNeedle re texts
    → (name : List ℕ) (i j : ℕ) → All (λ b. b < 256) name → i ≤ length name → Matches name re i j
    → list_any (starts_with nat_eq name) texts ≡ true
begins_of_match re texts anchored needles name i j bytes le m =
    let first : i ≡ 0 = anchored.at name i j le m in
    let n = needles name bytes i j m in
    let there : starts_with nat_eq name (needle_at texts n.0) ≡ true = starts_of_occurs name _ 0 (subst (OccursAt name (needle_at texts n.0)) first n.1.occurs) in
    list_any_at (starts_with nat_eq name) texts n.0 [] n.1.numbered there

ends_of_occurs : (name text : List ℕ) (k : ℕ) → OccursAt name text k → k + length text ≡ length name → ends_with nat_eq name text ≡ true
ends_of_occurs name text k o e =
    let place : length name - length text ≡ k = omega (arith, e) in
    let whole : length text ≡ length (drop k name) = omega (arith, e, length-drop k name) in
    let same : text ≡ drop k name = ext_get_or 0 text _ whole (λ i lt. sym (o.reads i lt) ∙ sym (get_or-drop k name i 0)) in
    rw place (subst (λ back. pointwise nat_eq text back ≡ true) same (nat_list_eq_equiv.refl text))

-- a match to the end of the name ends with a text
ends_of_match : (re : Re) (texts : List (List ℕ)) → IsAnchored false re → EndsWithNeedle re texts
    → (name : List ℕ) (i j : ℕ) → All (λ b. b < 256) name → i ≤ length name → Matches name re i j
    → list_any (ends_with nat_eq name) texts ≡ true
ends_of_match re texts anchored needles name i j bytes le m =
    let last : j ≡ length name = anchored.at name i j le m in
    let n = needles name bytes i j m in
    list_any_at (ends_with nat_eq name) texts n.0 [] n.2.numbered (ends_of_occurs name _ n.1 n.2.occurs (n.3 ∙ last))

-- a text that occurs stands in the name
stands_of_occurs : (name text : List ℕ) (k : ℕ) → 0 < length text → OccursAt name text k → stands_in name text ≡ true
stands_of_occurs [] text k filled o = absurd (omega (arith, filled, o.fits))
stands_of_occurs (b ∷ rest) text zero filled o = or_left _ _ (starts_of_occurs (b ∷ rest) text 0 o)
stands_of_occurs (b ∷ rest) text (suc k) filled o =
    or_right _ _ (stands_of_occurs rest text k filled (record { fits = omega (arith, o.fits); reads = λ j lt. ap (slice_index (b ∷ rest)) (next j) ∙ o.reads j lt }))
  where
    next : (j : ℕ) → suc (k + j) ≡ suc k + j
    next j = omega arith

stands_of_match : (re : Re) (texts : List (List ℕ)) → AreFilled texts → ContainsNeedle re texts
    → (name : List ℕ) (i j : ℕ) → All (λ b. b < 256) name → Matches name re i j
    → list_any (stands_in name) texts ≡ true
stands_of_match re texts filled needles name i j bytes m =
    let n = needles name bytes i j m in
    list_any_at (stands_in name) texts n.0 [] n.2.numbered (stands_of_occurs name _ n.1 (filled n.0 [] n.2.numbered) n.2.occurs)

-- ---- the clues of a tree

has_known : (place : TextPlace) (texts : Option (Vec (Vec ℕ Global) Global)) (name : List ℕ)
    → IfSome texts (λ them. list_any (is_there place name) (needles_of them) ≡ true) → has_one place texts name ≡ true
has_known place None name h = refl
has_known place (Some them) name h = h

-- what holds of the texts holds of those that are kept
pub kept : {X : Type 0} (P : X → Type 0) (all few : Option X) → IfSome few (λ them. all ≡ Some them) → IfSome all P → IfSome few P
kept P all None same h = tt
kept P all (Some them) same h = subst (λ texts. IfSome texts P) same h

both_of : {X : Type 0} (P Q : X → Type 0) (o : Option X) → IfSome o P → IfSome o Q → IfSome o (λ x. P x × Q x)
both_of P Q None p q = tt
both_of P Q (Some x) p q = (p, q)

pub clues_of_tree : (re : Re) (clues : Clues) → IsAnchored true re → IsAnchored false re
    → IfSome clues.starts (λ them. StartsWithNeedle re (needles_of them))
    → IfSome clues.ends (λ them. EndsWithNeedle re (needles_of them))
    → IfSome clues.inside (λ them. AreFilled (needles_of them))
    → IfSome clues.inside (λ them. ContainsNeedle re (needles_of them)) → AreCluesOf re clues
clues_of_tree re clues first last starts ends filled inside name i j bytes le m =
    let start : has_one Start clues.starts name ≡ true = has_known Start clues.starts name
    (IfSome-weaker clues.starts _ _ (λ them h. begins_of_match re _ first h name i j bytes le m) starts) in
    let end : has_one End clues.ends name ≡ true = has_known End clues.ends name
    (IfSome-weaker clues.ends _ _ (λ them h. ends_of_match re _ last h name i j bytes le m) ends) in
    let anywhere : has_one Anywhere clues.inside name ≡ true = has_known Anywhere clues.inside name
    (IfSome-weaker clues.inside _ _ (λ them (h : AreFilled (needles_of them) × ContainsNeedle re (needles_of them)). stands_of_match re _ h.0 h.1 name i j bytes m)
    (both_of _ _ clues.inside filled inside)) in
    rw (start, end, anywhere) refl

-- the clues of the tree that was read from its text
pub of_parsed : (regex : Regex) (tree : Hir) (names : Names) (clues : Result Clues AllocError) → regex_config regex ≡ default_config
    → IsReadFromSource regex → Reads default_config (regex_source regex) tree names → IfOk clues (AreCluesOf (meaning tree))
    → IfOk clues (AreClues regex)
of_parsed regex tree names (Ok clues) config read parsed are = clues_alike regex _ clues (same_reading regex tree names config read parsed) are
of_parsed regex tree names (Err e) config read parsed are = tt
