-- Searches and the rows in which they are kept.
use Rattle.std.proofs.Common.{◌≡◌, ℕ, List, [], ◌∷◌, ◌++◌, Bool, true, false, cond, not, ◌&&◌, ◌||◌, is_some, Option, Some, None, map, refl, sym, ap, subst, ◌∙◌}
use Rattle.std.specs.Prelude.{bytes_eq, option_map}
use Rattle.std.specs.List.{cons_option, filter, find, list_any}
use Rattle.std.specs.Option.{unwrap_or}
use Rattle.std.proofs.lemmas.Bool.{false≢true}
use Rattle.rows.specs.Rows.{change_first, remove_first}
use Rattle.pv_alias.specs.declared.lead.Lead.{Lead}
use Rattle.pv_name.specs.Host.{lowercase}
use Rattle.row_index.specs.declared.key.Key.{Key}
use Rattle.row_index.specs.Rows.{same_key}
use Rattle.row_index.proofs.Keys.{same_key_is_same, same_key_itself}
use Rattle.named_rows.specs.Indexes.{IsApart, is_at, is_not_at}
use Rattle.named_rows.proofs.Keyed.{first_goes, found_again, value_at_keyed}
use Rattle.named_rows.proofs.Lists.{found_where_any}
use Rattle.rule_desk.specs.declared.policy.Policy.{Policy}
use Rattle.gateway_state.specs.declared.search.RememberedSearch.{RememberedSearch}
use Rattle.gateway_state.specs.Resolution.{is_real, lead_of, real_in}
use Rattle.gateway_state.specs.Searches.{grown_stale, is_from, is_fresh, is_stale, leads_to, refreshed, same_search}
use Rattle.gateway_state.specs.Variables.{search_name, search_names}
use Rattle.state_tables.specs.declared.kept.KeptSearch.{KeptSearch}
use Rattle.state_tables.specs.Kept.{AreRight, IsRight, hollow, is_by_in, is_fresh_in, is_fresh_row, is_led, is_owned, is_sought, is_stale_row, is_text, kept_as, kept_key, key_in, made_again, grown_old, made_again_under, reals_of, search_in, search_of, searches_of}

key_there : (o : Option KeptSearch) → is_some (key_in o) ≡ is_some o
key_there None = refl
key_there (Some kept) = refl

-- WHAT IS RIGHT of a row

by_whole : (host : List ℕ) (s : Option RememberedSearch) → is_some s ≡ true → is_by_in host s ≡ is_from host (unwrap_or s hollow)
by_whole host None whole = absurd (false≢true whole)
by_whole host (Some search) whole = refl

fresh_whole : (s : Option RememberedSearch) → is_some s ≡ true → is_fresh_in s ≡ (unwrap_or s hollow).fresh
fresh_whole None whole = absurd (false≢true whole)
fresh_whole (Some search) whole = refl

some_whole : (s : Option RememberedSearch) → is_some s ≡ true → s ≡ Some (unwrap_or s hollow)
some_whole None whole = absurd (false≢true whole)
some_whole (Some search) whole = refl

changed_whole : (f : RememberedSearch → RememberedSearch) (s : Option RememberedSearch) → is_some s ≡ true → unwrap_or (option_map f s) hollow ≡ f (unwrap_or s hollow)
changed_whole f None whole = absurd (false≢true whole)
changed_whole f (Some search) whole = refl

still_whole : (f : RememberedSearch → RememberedSearch) (s : Option RememberedSearch) → is_some s ≡ true → is_some (option_map f s) ≡ true
still_whole f None whole = absurd (false≢true whole)
still_whole f (Some search) whole = refl

led_there : (lead : Option Lead) (name : List ℕ) → is_text (real_in lead) name ≡ is_real lead name
led_there None name = refl
led_there (Some lead) name = refl

module _ (policy : Policy) (kept : KeptSearch) (right : IsRight policy kept) where
  pub sought_is : (host name : List ℕ) → is_sought host name kept ≡ same_search host name (search_of kept)
  sought_is host name = λ i. bytes_eq (right.name i) name && by_whole host kept.search right.whole i

  pub owned_is : (host : List ℕ) → is_owned (lowercase host) kept ≡ is_from host (search_of kept)
  owned_is host = ap (λ o. bytes_eq o (lowercase host)) right.owner

  pub led_is : (name : List ℕ) → is_led name kept ≡ leads_to policy name (search_of kept)
  led_is name = ap (λ r. is_text r name) right.real ∙ led_there (lead_of policy (search_of kept).host (search_of kept).name) name

  pub fresh_is : is_fresh_row kept ≡ is_fresh (search_of kept)
  fresh_is = fresh_whole kept.search right.whole

  pub stale_is : is_stale_row kept ≡ is_stale (search_of kept)
  stale_is = ap not fresh_is

  pub search_is : kept.search ≡ Some (search_of kept)
  search_is = some_whole kept.search right.whole

  -- it stays so under any number, and made again or not
  pub right_changed : (f : RememberedSearch → RememberedSearch) → ((s : RememberedSearch) → (f s).host ≡ s.host) → ((s : RememberedSearch) → (f s).name ≡ s.name) → (serial : ℕ)
      → IsRight policy (record { serial = serial; name = kept.name; owner = kept.owner; real = kept.real; search = option_map f kept.search })
  right_changed f host name serial =
      let s = changed_whole f kept.search right.whole in
      let same_name : (f (search_of kept)).name ≡ (search_of kept).name = name (search_of kept) in
      let same_host : (f (search_of kept)).host ≡ (search_of kept).host = host (search_of kept) in
      record {
        whole = still_whole f kept.search right.whole;
        name = right.name ∙ sym same_name ∙ sym (ap (λ (x : RememberedSearch). x.name) s);
        owner = right.owner ∙ ap lowercase (sym same_host ∙ sym (ap (λ (x : RememberedSearch). x.host) s));
        real = right.real ∙ sym (λ i. real_in (lead_of policy (same_host i) (same_name i))) ∙ ap (search_name policy) (sym s);
      }

pub right_again : (policy : Policy) (serial : ℕ) (kept : KeptSearch) → IsRight policy kept → IsRight policy (made_again_under serial kept)
right_again policy serial kept right = right_changed policy kept right refreshed (λ s. refl) (λ s. refl) serial

pub right_fresh : (policy : Policy) (kept : KeptSearch) → IsRight policy kept → IsRight policy (made_again kept)
right_fresh policy kept right = right_changed policy kept right refreshed (λ s. refl) (λ s. refl) kept.serial

pub right_old : (policy : Policy) (kept : KeptSearch) → IsRight policy kept → IsRight policy (grown_old kept)
right_old policy kept right = right_changed policy kept right grown_stale (λ s. refl) (λ s. refl) kept.serial

-- what becomes of its search
pub again_of : (policy : Policy) (serial : ℕ) (kept : KeptSearch) → IsRight policy kept → search_of (made_again_under serial kept) ≡ refreshed (search_of kept)
again_of policy serial kept right = changed_whole refreshed kept.search right.whole

pub fresh_of : (policy : Policy) (kept : KeptSearch) → IsRight policy kept → search_of (made_again kept) ≡ refreshed (search_of kept)
fresh_of policy kept right = changed_whole refreshed kept.search right.whole

pub old_of : (policy : Policy) (kept : KeptSearch) → IsRight policy kept → search_of (grown_old kept) ≡ grown_stale (search_of kept)
old_of policy kept right = changed_whole grown_stale kept.search right.whole

-- a row that is made for a search, and where it leads
pub right_made : (policy : Policy) (serial : ℕ) (search : RememberedSearch) (lead : Option Lead) (kept : KeptSearch) → lead ≡ lead_of policy search.host search.name → kept ≡ kept_as serial lead search → IsRight policy kept
right_made policy serial search lead kept leads is =
    subst (IsRight policy) (sym is) (record { whole = refl; name = refl; owner = refl; real = ap real_in leads })

-- and of ROWS

module _ (policy : Policy) where
  pub right_filtered : (q : KeptSearch → Bool) (rows : List KeptSearch) → AreRight policy rows → AreRight policy (filter q rows)
  right_filtered q [] right = tt
  right_filtered q (row ∷ rows) right =
      elim (q row) as (λ t. AreRight policy (cond t (row ∷ filter q rows) (filter q rows)))
      [ true ↦ (right.0, right_filtered q rows right.1) | false ↦ right_filtered q rows right.1 ]

  pub right_joined : (rows more : List KeptSearch) → AreRight policy rows → AreRight policy more → AreRight policy (rows ++ more)
  right_joined [] more right also = also
  right_joined (row ∷ rows) more right also = (right.0, right_joined rows more right.1 also)

  pub right_mapped : (f : KeptSearch → KeptSearch) → ((kept : KeptSearch) → IsRight policy kept → IsRight policy (f kept)) → (rows : List KeptSearch) → AreRight policy rows → AreRight policy (map f rows)
  right_mapped f keeps [] right = tt
  right_mapped f keeps (row ∷ rows) right = (keeps row right.0, right_mapped f keeps rows right.1)

  pub right_with_first : (q : KeptSearch → Bool) (f : KeptSearch → KeptSearch) → ((kept : KeptSearch) → IsRight policy kept → IsRight policy (f kept)) → (rows : List KeptSearch) → AreRight policy rows → AreRight policy (change_first q f rows)
  right_with_first q f keeps [] right = tt
  right_with_first q f keeps (row ∷ rows) right =
      elim (q row) as (λ t. AreRight policy (cond t (f row ∷ rows) (row ∷ change_first q f rows)))
      [ true ↦ (keeps row right.0, right.1) | false ↦ (right.0, right_with_first q f keeps rows right.1) ]

  pub found_right : (q : KeptSearch → Bool) (rows : List KeptSearch) (kept : KeptSearch) → AreRight policy rows → find q rows ≡ Some kept → IsRight policy kept
  found_right q [] kept right e = cc
  found_right q (row ∷ rows) kept right e =
      elim (q row) as (λ t. cond t (Some row) (find q rows) ≡ Some kept → IsRight policy kept)
      [ true ↦ λ h. let same : row ≡ kept = cc in subst (IsRight policy) same right.0 | false ↦ λ h. found_right q rows kept right.1 h ] e

  -- what a test of rows says, where it says the same of their searches
  module _ (q : KeptSearch → Bool) (p : RememberedSearch → Bool) (same : (kept : KeptSearch) → IsRight policy kept → q kept ≡ p (search_of kept)) where
    pub any_same : (rows : List KeptSearch) → AreRight policy rows → list_any q rows ≡ list_any p (searches_of rows)
    any_same [] right = refl
    any_same (row ∷ rows) right = λ i. same row right.0 i || any_same rows right.1 i

    pub found_same : (rows : List KeptSearch) → AreRight policy rows → search_in (find q rows) ≡ find p (searches_of rows)
    found_same [] right = refl
    found_same (row ∷ rows) right =
        rw (same row right.0)
        (elim (p (search_of row)) as (λ t. search_in (cond t (Some row) (find q rows)) ≡ cond t (Some (search_of row)) (find p (searches_of rows)))
        [ true ↦ search_is policy row right.0 | false ↦ found_same rows right.1 ])

    pub filtered_same : (rows : List KeptSearch) → AreRight policy rows → searches_of (filter q rows) ≡ filter p (searches_of rows)
    filtered_same [] right = refl
    filtered_same (row ∷ rows) right =
        rw (same row right.0)
        (elim (p (search_of row)) as (λ t. searches_of (cond t (row ∷ filter q rows) (filter q rows)) ≡ cond t (search_of row ∷ filter p (searches_of rows)) (filter p (searches_of rows)))
        [ true ↦ ap (λ rest. search_of row ∷ rest) (filtered_same rows right.1) | false ↦ filtered_same rows right.1 ])

    pub removed_same : (rows : List KeptSearch) → AreRight policy rows → searches_of (remove_first q rows) ≡ remove_first p (searches_of rows)
    removed_same [] right = refl
    removed_same (row ∷ rows) right =
        rw (same row right.0)
        (elim (p (search_of row)) as (λ t. searches_of (cond t rows (row ∷ remove_first q rows)) ≡ cond t (searches_of rows) (search_of row ∷ remove_first p (searches_of rows)))
        [ true ↦ refl | false ↦ ap (λ rest. search_of row ∷ rest) (removed_same rows right.1) ])

    pub changed_same : (f : KeptSearch → KeptSearch) (g : RememberedSearch → RememberedSearch) → ((kept : KeptSearch) → IsRight policy kept → search_of (f kept) ≡ g (search_of kept)) → (rows : List KeptSearch) → AreRight policy rows
        → searches_of (change_first q f rows) ≡ change_first p g (searches_of rows)
    changed_same f g does [] right = refl
    changed_same f g does (row ∷ rows) right =
        rw (same row right.0)
        (elim (p (search_of row)) as (λ t. searches_of (cond t (f row ∷ rows) (row ∷ change_first q f rows)) ≡ cond t (g (search_of row) ∷ searches_of rows) (search_of row ∷ change_first p g (searches_of rows)))
        [ true ↦ ap (λ s. s ∷ searches_of rows) (does row right.0) | false ↦ ap (λ rest. search_of row ∷ rest) (changed_same f g does rows right.1) ])

  pub mapped_same : (f : KeptSearch → KeptSearch) (g : RememberedSearch → RememberedSearch) → ((kept : KeptSearch) → IsRight policy kept → search_of (f kept) ≡ g (search_of kept)) → (rows : List KeptSearch) → AreRight policy rows → searches_of (map f rows) ≡ map g (searches_of rows)
  mapped_same f g does [] right = refl
  mapped_same f g does (row ∷ rows) right = λ i. does row right.0 i ∷ mapped_same f g does rows right.1 i

  -- the real names that rows lead to are those of their searches
  pub reals_same : (rows : List KeptSearch) → AreRight policy rows → reals_of rows ≡ search_names policy (searches_of rows)
  reals_same [] right = refl
  reals_same (row ∷ rows) right = λ i. cons_option (right.0.real i) (reals_same rows right.1 i)

  -- whether a search is there
  pub any_sought : (host name : List ℕ) (rows : List KeptSearch) → AreRight policy rows → (key : Option Key) → key ≡ key_in (find (is_sought host name) rows)
      → is_some key ≡ list_any (same_search host name) (searches_of rows)
  any_sought host name rows right key is =
      ap is_some is ∙ key_there (find (is_sought host name) rows) ∙ found_where_any (is_sought host name) rows
      ∙ any_same (is_sought host name) (same_search host name) (λ kept r. sought_is policy kept r host name) rows right

  -- and whether one leads to a name
  pub any_led : (name : List ℕ) (rows : List KeptSearch) → AreRight policy rows → list_any (is_led name) rows ≡ list_any (leads_to policy name) (searches_of rows)
  any_led name rows right = any_same (is_led name) (leads_to policy name) (λ kept r. led_is policy kept r name) rows right

pub joined_searches : (rows more : List KeptSearch) → searches_of (rows ++ more) ≡ searches_of rows ++ searches_of more
joined_searches [] more = refl
joined_searches (row ∷ rows) more = ap (λ rest. search_of row ∷ rest) (joined_searches rows more)

-- THE ROW OF A KEY

-- keys that differ do so either way round
pub other_way : (a b : Key) → same_key a b ≡ false → same_key b a ≡ false
other_way a b e =
    elim (same_key b a) as (λ t. same_key b a ≡ t → t ≡ false) [
      | true ↦ λ h.
          let same = same_key_is_same b a h in
          let here : same_key a b ≡ true = ap (same_key a) same ∙ same_key_itself a in
          sym here ∙ e
      | false ↦ λ _. refl
    ] refl

-- a key that is found is that of a row
pub row_with_key : (kept : Option KeptSearch) (key : Key) → Some key ≡ key_in kept → (row : KeptSearch) × ((kept ≡ Some row) × (kept_key row ≡ key))
row_with_key None key e = cc
row_with_key (Some row) key e = let same : kept_key row ≡ key = cc in (row, (refl, same))

first_changes : (q : KeptSearch → Bool) (f : KeptSearch → KeptSearch) (rows : List KeptSearch) (row : KeptSearch) → IsApart kept_key rows → find q rows ≡ Some row
    → change_first (is_at kept_key (kept_key row)) f rows ≡ change_first q f rows
first_changes q f [] row apart e = refl
first_changes q f (first ∷ rows) row apart e =
    elim (q first) as (λ t. cond t (Some first) (find q rows) ≡ Some row → change_first (is_at kept_key (kept_key row)) f (first ∷ rows) ≡ cond t (f first ∷ rows) (first ∷ change_first q f rows)) [
      | true ↦ λ h.
          let is : first ≡ row = cc in
          let here : same_key (kept_key first) (kept_key row) ≡ true = ap (λ r. same_key (kept_key first) (kept_key r)) (sym is) ∙ same_key_itself (kept_key first) in
          rw here refl
      | false ↦ λ h. rw (other h) (ap (λ rest. first ∷ rest) (first_changes q f rows row apart.1 h))
    ] e
  where
    other : find q rows ≡ Some row → same_key (kept_key first) (kept_key row) ≡ false
    other found =
        elim (same_key (kept_key first) (kept_key row)) as (λ t. same_key (kept_key first) (kept_key row) ≡ t → t ≡ false) [
          | true ↦ λ h.
              let same = same_key_is_same (kept_key first) (kept_key row) h in
              let none : find (is_at kept_key (kept_key first)) rows ≡ None = sym (value_at_keyed kept_key (kept_key first) rows) ∙ apart.0 in
              let there : find (is_at kept_key (kept_key first)) rows ≡ Some row = rw same (found_again kept_key q rows row apart.1 found) in
              cc
          | false ↦ λ _. refl
        ] refl

-- what the key of the first row that passes finds, takes out and changes
module _ (q : KeptSearch → Bool) (rows : List KeptSearch) (key : Key) (apart : IsApart kept_key rows) (found : Some key ≡ key_in (find q rows)) where
  pub key_finds : find (is_at kept_key key) rows ≡ find q rows
  key_finds =
      let row = row_with_key (find q rows) key found in
      subst (λ k. find (is_at kept_key k) rows ≡ find q rows) row.1.1 (found_again kept_key q rows row.0 apart row.1.0 ∙ sym row.1.0)

  pub key_takes : filter (is_not_at kept_key key) rows ≡ remove_first q rows
  key_takes =
      let row = row_with_key (find q rows) key found in
      subst (λ k. filter (is_not_at kept_key k) rows ≡ remove_first q rows) row.1.1 (first_goes kept_key q rows row.0 apart row.1.0)

  pub key_changes : (f : KeptSearch → KeptSearch) → change_first (is_at kept_key key) f rows ≡ change_first q f rows
  key_changes f =
      let row = row_with_key (find q rows) key found in
      subst (λ k. change_first (is_at kept_key k) f rows ≡ change_first q f rows) row.1.1 (first_changes q f rows row.0 apart row.1.0)
