-- The links for several names, found by the keys that these lead to.
use Rattle.std.proofs.Common.{◌≡◌, ℕ, List, [], ◌∷◌, Bool, true, false, cond, ◌||◌, Option, Some, None, map, refl, sym, ap, ◌∙◌}
use Rattle.std.specs.Prelude.{bytes_eq, filter_map}
use Rattle.std.specs.List.{cons_option, filter, find, list_any}
use Rattle.std.specs.Option.{option_and_then, option_map}
use Rattle.std.proofs.lemmas.Slice.Eq.{bytes_eq-Decides}
use Rattle.row_index.specs.declared.key.Key.{Key}
use Rattle.row_index.specs.Rows.{same_key, has_one_of, row_of, value_at, HasKeysApart}
use Rattle.row_index.proofs.Keys.{same_key_is_same, same_key_itself}
use Rattle.link_table.specs.declared.links.LinkRow.{LinkRow}
use Rattle.link_table.specs.LinkIndex.{first_of, name_of, told_at, LeadEachWay}
use Rattle.link_table.specs.Links.{is_named_any}

-- P holds of each entry
abbrev Each : {A : Type 0} → (A → Type 0) → List A → Type 0
Each P [] = Unit {0}
Each P (x ∷ xs) = P x × Each P xs

each_so : {A : Type 0} (P Q : A → Type 0) → ((x : A) → P x → Q x) → (xs : List A) → Each P xs → Each Q xs
each_so P Q so [] each = tt
each_so P Q so (x ∷ xs) each = (so x each.0, each_so P Q so xs each.1)

same_answer : (a b : Bool) → (a ≡ true → b ≡ true) → (b ≡ true → a ≡ true) → a ≡ b
same_answer true b there back = sym (there refl)
same_answer false true there back = back refl
same_answer false false there back = refl

-- the row of an entry is the one under its key
abbrev IsThere : List (Key × LinkRow) → Key × LinkRow → Type 0
IsThere links entry = value_at entry.0 links ≡ Some entry.1

there_later : (first : Key × LinkRow) (links : List (Key × LinkRow)) → value_at first.0 links ≡ None → (entry : Key × LinkRow) → IsThere links entry → IsThere (first ∷ links) entry
there_later first links new entry there = by (same_key first.0 entry.0) refl
  where
    by : (same : Bool) → same_key first.0 entry.0 ≡ same → option_map row_of (cond same (Some first) (find (λ e. same_key e.0 entry.0) links)) ≡ Some entry.1
    by true same =
        let wrong : None ≡ Some entry.1 = sym new ∙ ap (λ k. value_at k links) (same_key_is_same first.0 entry.0 same) ∙ there in
        absurd cc
    by false same = there

each_there : (links : List (Key × LinkRow)) → HasKeysApart links → Each (IsThere links) links
each_there [] apart = tt
each_there (entry ∷ links) apart = (
  rw (same_key_itself entry.0) refl,
  each_so (IsThere links) (IsThere (entry ∷ links)) (there_later entry links apart.0) links (each_there links apart.1),
)

-- tests that agree on each entry keep the same rows
rows_kept : (p : Key × LinkRow → Bool) (q : LinkRow → Bool) (links : List (Key × LinkRow)) → Each (λ entry. p entry ≡ q entry.1) links → map row_of (filter p links) ≡ filter q (map row_of links)
rows_kept p q [] each = refl
rows_kept p q (entry ∷ links) each =
    ap (λ t. map row_of (cond t (entry ∷ filter p links) (filter p links))) each.0
    ∙ elim (q entry.1) as (λ t. map row_of (cond t (entry ∷ filter p links) (filter p links)) ≡ cond t (entry.1 ∷ filter q (map row_of links)) (filter q (map row_of links)))
    [ true ↦ ap (λ rest. entry.1 ∷ rest) (rows_kept p q links each.1) | false ↦ rows_kept p q links each.1 ]

or_none : (b : Bool) → (b || false) ≡ b
or_none true = refl
or_none false = refl

one_first : (a b : Bool) → (a || b) ≡ ((a || false) || b)
one_first true b = refl
one_first false b = refl

same_Some : {A : Type 0} (a b : A) → Some a ≡ Some b → a ≡ b
same_Some a b is = cc

any_led : (k : Key) (led : Option Key) (keys : List Key) → list_any (λ key. same_key k key) (cons_option led keys) ≡ (list_any (λ key. same_key k key) (cons_option led []) || list_any (λ key. same_key k key) keys)
any_led k None keys = refl
any_led k (Some key) keys = one_first (same_key k key) (list_any (λ other. same_key k other) keys)

module _ (links : List (Key × LinkRow)) (names : List (List ℕ × List Key)) (way : LeadEachWay (told_at name_of links) (first_of names)) where
  said : (entry : Key × LinkRow) → IsThere links entry → told_at name_of links entry.0 ≡ Some entry.1.name
  said entry there = ap (option_and_then name_of) there

  -- the name of a link leads to its key
  named : (entry : Key × LinkRow) → IsThere links entry → (name : List ℕ) → bytes_eq name entry.1.name ≡ true → first_of names name ≡ Some entry.0
  named entry there name alike = ap (first_of names) ((bytes_eq-Decides name entry.1.name).0 alike) ∙ way.leads entry.0 entry.1.name (said entry there)

  unnamed : (entry : Key × LinkRow) → IsThere links entry → (name : List ℕ) (alike : Bool) → bytes_eq name entry.1.name ≡ alike → first_of names name ≡ None → false ≡ alike
  unnamed entry there name true alike none = let wrong : None ≡ Some entry.0 = sym none ∙ named entry there name alike in cc
  unnamed entry there name false alike none = refl

  -- the key that a name leads to is that of the link for it
  one_named : (entry : Key × LinkRow) → IsThere links entry → (name : List ℕ) (led : Option Key) → first_of names name ≡ led → list_any (λ key. same_key entry.0 key) (cons_option led []) ≡ bytes_eq name entry.1.name
  one_named entry there name None none = unnamed entry there name (bytes_eq name entry.1.name) refl none
  one_named entry there name (Some key) led =
      or_none (same_key entry.0 key)
      ∙ same_answer (same_key entry.0 key) (bytes_eq name entry.1.name)
      (λ equal.
      let is : entry.0 ≡ key = same_key_is_same entry.0 key equal in
      (bytes_eq-Decides name entry.1.name).1 (same_Some name entry.1.name (sym (way.is_led_to name key led) ∙ ap (told_at name_of links) (sym is) ∙ said entry there)))
      (λ alike.
      let is : key ≡ entry.0 = same_Some key entry.0 (sym led ∙ named entry there name alike) in
      ap (same_key entry.0) is ∙ same_key_itself entry.0)

  is_among : (entry : Key × LinkRow) → IsThere links entry → (asked : List (List ℕ)) → has_one_of (filter_map (first_of names) asked) entry ≡ is_named_any asked entry.1
  is_among entry there [] = refl
  is_among entry there (name ∷ asked) =
      any_led entry.0 (first_of names name) (filter_map (first_of names) asked)
      ∙ (λ i. one_named entry there name (first_of names name) refl i || is_among entry there asked i)

  -- the rows of these keys are the links for the names
  pub links_named : (asked : List (List ℕ)) → HasKeysApart links → map row_of (filter (has_one_of (filter_map (first_of names) asked)) links) ≡ filter (is_named_any asked) (map row_of links)
  links_named asked apart =
      rows_kept (has_one_of (filter_map (first_of names) asked)) (is_named_any asked) links
      (each_so (IsThere links) (λ entry. has_one_of (filter_map (first_of names) asked) entry ≡ is_named_any asked entry.1) (λ entry there. is_among entry there asked) links (each_there links apart))
