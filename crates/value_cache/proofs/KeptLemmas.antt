-- What is kept of a message is what is answered from it.
use Rattle.std.proofs.Common.{◌≡◌, ℕ, Bool, ◌+◌, ◌-◌, List, [], ◌∷◌, ◌++◌, zero, suc, length, drop, filter, map, not, true, false, cond, ◌||◌, ◌==◌, Option, Some, None, is_some, Result, Ok, Err, refl, sym, ap, ◌∙◌, Bor}
use Rattle.std.specs.Prelude.{OnOk, OnErr, IfOk, IsSome, nat_lt}
use Rattle.std.specs.List.{count_by, find, list_any}
use Rattle.std.specs.Option.{option_copied}
use Rattle.std.proofs.lemmas.Bool.{and_parts, eqb-true}
use Rattle.std.proofs.lemmas.List.{drop-map, length-map, map-append}
use Rattle.std.proofs.lemmas.List.Sums.{sum_by-cons}
use Rattle.value_cache.specs.declared.cached.Described.{Described}
use Rattle.value_cache.specs.declared.cached.HeldMessage.{HeldMessage}
use Rattle.value_cache.specs.declared.encodings.Encoding.{Encoding}
use Rattle.value_cache.specs.Encodings.{AreAnswers, is_large_one, is_of, is_small_one, pair_of, thinned_list}
use Rattle.value_cache.specs.Held.{Held, answer}
use Rattle.value_cache.specs.Kept.{Keeping, is_large, is_large_answer, is_pair, is_small, keeping, last_eight, thinned}
use Rattle.value_cache.specs.Message.{held_in, keeping_in}

-- the one that is found is what is answered
pub found_is_answer : (held : Held) (dtype count : ℕ) (list : List Encoding) (e : Encoding) → AreAnswers held list → find (is_of dtype count) list ≡ Some e → answer dtype count held ≡ Some (e.given, e.payload)
found_is_answer held dtype count [] e answers found = cc
found_is_answer held dtype count (first ∷ later) e answers found =
    elim (is_of dtype count first) as (λ t. is_of dtype count first ≡ t → cond t (Some first) (find (is_of dtype count) later) ≡ Some e → answer dtype count held ≡ Some (e.given, e.payload)) [
      | true ↦ λ is h.
          let parts = and_parts (first.dtype == dtype) (first.count == count) is in
          let dtypes = eqb-true first.dtype dtype parts.0 in
          let counts = eqb-true first.count count parts.1 in
          let same : first ≡ e = cc in
          ap (λ d. answer d count held) (sym dtypes) ∙ ap (λ n. answer first.dtype n held) (sym counts) ∙ answers.0 ∙ ap (λ (x : Encoding). Some (x.given, x.payload)) same
      | false ↦ λ _ h. found_is_answer held dtype count later e answers.1 h
    ] refl found

-- a pair is kept where an encoding is found
pub any_kept : (dtype count : ℕ) (list : List Encoding) → list_any (is_pair dtype count) (map pair_of list) ≡ is_some (find (is_of dtype count) list)
any_kept dtype count [] = refl
any_kept dtype count (first ∷ later) =
    elim (is_of dtype count first) as (λ t. (t || list_any (is_pair dtype count) (map pair_of later)) ≡ is_some (cond t (Some first) (find (is_of dtype count) later)))
    [ true ↦ refl | false ↦ any_kept dtype count later ]

answers_dropped : (held : Held) (n : ℕ) (list : List Encoding) → AreAnswers held list → AreAnswers held (drop n list)
answers_dropped held zero list answers = answers
answers_dropped held (suc n) [] answers = tt
answers_dropped held (suc n) (first ∷ later) answers = answers_dropped held n later answers.1

answers_more : (held : Held) (list : List Encoding) (e : Encoding) → answer e.dtype e.count held ≡ Some (e.given, e.payload) → AreAnswers held list → AreAnswers held (list ++ e ∷ [])
answers_more held [] e is answers = (is, tt)
answers_more held (first ∷ later) e is answers = (answers.0, answers_more held later e is answers.1)

-- one that was kept, or that was refused memory
pub answers_either : {E : Type 0} (result : Result (Unit {0}) E) (held : Held) (old new : List Encoding) (e : Encoding) → OnOk result (new ≡ last_eight (old ++ e ∷ [])) → OnErr result (new ≡ old) → answer e.dtype e.count held ≡ Some (e.given, e.payload) → AreAnswers held old → AreAnswers held new
answers_either (Ok done) held old new e ok err is answers =
    rw ok (answers_dropped held (length (old ++ e ∷ []) - 8) (old ++ e ∷ []) (answers_more held old e is answers))
answers_either (Err refused) held old new e ok err is answers = rw err answers

-- nothing changes where the pair is kept
pub kept_already : (last : Option HeldMessage) (described : Option Described) (list : List Encoding) (dtype count : ℕ) → is_some (find (is_of dtype count) list) ≡ true → keeping_in last described list ≡ keeping dtype count (keeping_in last described list)
kept_already last described list dtype count found = rw (any_kept dtype count list ∙ found) refl

-- else it is the last one then
pub kept_more : (last : Option HeldMessage) (described : Option Described) (list : List Encoding) (e : Encoding) → is_some (find (is_of e.dtype e.count) list) ≡ false → is_some (answer e.dtype e.count (held_in last described)) ≡ true → keeping_in last described (last_eight (list ++ e ∷ [])) ≡ keeping e.dtype e.count (keeping_in last described list)
kept_more last described list e new is =
    let pairs : map pair_of (last_eight (list ++ e ∷ [])) ≡ last_eight (map pair_of list ++ pair_of e ∷ []) =
    sym (drop-map pair_of (length (list ++ e ∷ []) - 8) (list ++ e ∷ []))
    ∙ ap (λ n. drop (n - 8) (map pair_of (list ++ e ∷ []))) (sym (length-map (list ++ e ∷ []) pair_of))
    ∙ ap last_eight (map-append pair_of list (e ∷ []))
    in
    rw (any_kept e.dtype e.count list ∙ new, is) (ap (λ xs. record { held = held_in last described; kept = xs }) pairs)

-- what is given where it is given
pub given_either : {E : Type 0} (result : Result (Option (ℕ × List ℕ)) E) {given wanted : Option (ℕ × List ℕ)} → IfOk result (λ r. r ≡ given) → given ≡ wanted → IfOk result (λ r. r ≡ wanted)
given_either (Ok r) ok same = ok ∙ same
given_either (Err refused) ok same = tt

pub some_either : {E : Type 0} (result : Result (Option (ℕ × List ℕ)) E) {given : Option (ℕ × List ℕ)} {x : ℕ × List ℕ} → given ≡ Some x → OnErr result (IsSome given)
some_either (Ok r) same = tt
some_either (Err refused) same = ap is_some same

pub kept_either : {E : Type 0} (result : Result (Unit {0}) E) (last : Option HeldMessage) (described : Option Described) (old new : List Encoding) (e : Encoding) {k : Keeping} → OnOk result (new ≡ last_eight (old ++ e ∷ [])) → is_some (find (is_of e.dtype e.count) old) ≡ false → is_some (answer e.dtype e.count (held_in last described)) ≡ true → keeping_in last described old ≡ k → OnOk result (keeping_in last described new ≡ keeping e.dtype e.count k)
kept_either (Ok done) last described old new e ok none is seen =
    ap (keeping_in last described) ok ∙ kept_more last described old e none is ∙ ap (keeping e.dtype e.count) seen
kept_either (Err refused) last described old new e ok none is seen = tt

pub copied_some : {X : Type 0} (found : Option (Bor X)) → is_some (option_copied found) ≡ is_some found
copied_some None = refl
copied_some (Some x) = refl

-- ---- those that are large

-- an encoding is as large as its answer
large_as_answered : (held : Held) (e : Encoding) → answer e.dtype e.count held ≡ Some (e.given, e.payload) → is_large held (pair_of e) ≡ is_large_one e
large_as_answered held e is = ap is_large_answer is

larges : (held : Held) (list : List Encoding) → AreAnswers held list → count_by (is_large held) (map pair_of list) ≡ count_by is_large_one list
larges held [] answers = refl
larges held (e ∷ later) answers =
    sum_by-cons (λ pair. cond (is_large held pair) 1 0) (pair_of e) (map pair_of later)
    ∙ ap (λ (large : Bool). cond large 1 0 + count_by (is_large held) (map pair_of later)) (large_as_answered held e answers.0)
    ∙ ap (λ (n : ℕ). cond (is_large_one e) 1 0 + n) (larges held later answers.1)
    ∙ sym (sum_by-cons (λ (x : Encoding). cond (is_large_one x) 1 0) e later)

smalls : (held : Held) (list : List Encoding) → AreAnswers held list → map pair_of (filter is_small_one list) ≡ filter (is_small held) (map pair_of list)
smalls held [] answers = refl
smalls held (e ∷ later) answers =
    elim (is_large_one e) as (λ t. is_large held (pair_of e) ≡ t → map pair_of (cond (not t) (e ∷ filter is_small_one later) (filter is_small_one later)) ≡ cond (not (is_large held (pair_of e))) (pair_of e ∷ filter (is_small held) (map pair_of later)) (filter (is_small held) (map pair_of later)))
    [ true ↦ λ is. rw is (smalls held later answers.1) | false ↦ λ is. rw is (ap (λ xs. pair_of e ∷ xs) (smalls held later answers.1)) ] (large_as_answered held e answers.0)

small_answers : (held : Held) (list : List Encoding) → AreAnswers held list → AreAnswers held (filter is_small_one list)
small_answers held [] answers = tt
small_answers held (e ∷ later) answers =
    elim (is_small_one e) as (λ t. AreAnswers held (cond t (e ∷ filter is_small_one later) (filter is_small_one later))) [ true ↦ (answers.0, small_answers held later answers.1) | false ↦ small_answers held later answers.1 ]

pub thinned_answers : (held : Held) (list : List Encoding) → AreAnswers held list → AreAnswers held (thinned_list list)
thinned_answers held list answers =
    elim (nat_lt 1 (count_by is_large_one list)) as (λ t. AreAnswers held (cond t (filter is_small_one list) list)) [ true ↦ small_answers held list answers | false ↦ answers ]

pub thinned_as_pairs : (last : Option HeldMessage) (described : Option Described) (list : List Encoding) → AreAnswers (held_in last described) list → keeping_in last described (thinned_list list) ≡ thinned (keeping_in last described list)
thinned_as_pairs last described list answers =
    let held : Held = held_in last described in
    rw (larges held list answers)
    (elim (nat_lt 1 (count_by is_large_one list)) as (λ t. keeping_in last described (cond t (filter is_small_one list) list) ≡ record { held = held; kept = cond t (filter (is_small held) (map pair_of list)) (map pair_of list) })
    [ true ↦ ap (λ (pairs : List (ℕ × ℕ)). record { held = held; kept = pairs }) (smalls held list answers) | false ↦ refl ])
