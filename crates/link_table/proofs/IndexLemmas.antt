-- What a link says of itself leads to it, through each change of the links.
use Rattle.std.proofs.Common.{◌≡◌, List, [], ◌∷◌, ◌++◌, Bool, true, false, Option, Some, None, Decides, map, refl, sym, ap, ◌∙◌}
use Rattle.std.specs.List.{find, filter}
use Rattle.std.specs.Option.{option_and_then}
use Rattle.std.proofs.lemmas.Bool.{false≢true}
use Rattle.row_index.specs.declared.key.Key.{Key}
use Rattle.row_index.specs.Rows.{same_key, lacks_key, row_of, value_at, put_at, HasKeysApart}
use Rattle.link_table.specs.declared.links.LinkRow.{LinkRow}
use Rattle.link_table.specs.LinkIndex.{key_of, LeadEachWay, told_at}
use Rattle.link_table.specs.Keyed.{entry_by}
use Rattle.link_table.proofs.KeyedLemmas.{found_at_its_key, none_at_a_key}
use Rattle.link_table.proofs.LeadsBackLemmas.{lead_as, lead_joined, lead_parted, lead_moved}
use Rattle.link_table.proofs.ValueLemmas.{same_key_decides, value_of_added, value_beside_added, value_of_removed, value_beside_removed, value_of_put, value_beside_put}

module _ {B : Type 0} (told : LinkRow → Option B) (p : LinkRow → Bool) (b : B) where
  told_there : (k : Key) (links : List (Key × LinkRow)) (row : LinkRow) → value_at k links ≡ Some row → told_at told links k ≡ told row
  told_there k links row e = ap (option_and_then told) e

  -- where no link passes a test, nothing leads from what a link that passes says
  pub led_nowhere : ((row : LinkRow) → told row ≡ Some b → p row ≡ true) → (links : List (Key × LinkRow)) → links ≡ map (entry_by key_of) (map row_of links) → (g : B → Option Key) → LeadEachWay (told_at told links) g → find p (map row_of links) ≡ None → g b ≡ None
  led_nowhere passes links keyed g way e =
      elim (g b) as (λ o. g b ≡ o → o ≡ None) [
        | None ↦ λ none. refl
        | Some k ↦ λ led.
            let said : told_at told links k ≡ Some b = way.is_led_to b k led in
            elim (value_at k links) as (λ o. value_at k links ≡ o → option_and_then told o ≡ Some b → Some k ≡ None) [
              | None ↦ λ none is. cc
              | Some row ↦ λ there is. absurd (false≢true (sym (none_at_a_key key_of p k links row keyed e there) ∙ passes row is))
            ] refl said
      ] refl

  -- the first link that passes a test, where that is the one that something leads to
  pub found_by_index : ((row : LinkRow) → p row ≡ true → told row ≡ Some b) → ((row : LinkRow) → told row ≡ Some b → p row ≡ true) → (links : List (Key × LinkRow)) → links ≡ map (entry_by key_of) (map row_of links) → HasKeysApart links → (g : B → Option Key) → LeadEachWay (told_at told links) g → option_and_then (λ k. value_at k links) (g b) ≡ find p (map row_of links)
  found_by_index tells passes links keyed apart g way =
      elim (find p (map row_of links)) as (λ found. find p (map row_of links) ≡ found → option_and_then (λ k. value_at k links) (g b) ≡ found) [
        | Some row ↦ λ e.
            let here = found_at_its_key key_of p links row keyed apart e in
            let led : g b ≡ Some (key_of row) = way.leads (key_of row) b (told_there (key_of row) links row here.0 ∙ tells row here.1) in
            ap (option_and_then (λ k. value_at k links)) led ∙ here.0
        | None ↦ λ e. ap (option_and_then (λ k. value_at k links)) (led_nowhere passes links keyed g way e)
      ] refl

module _ {B : Type 0} (told : LinkRow → Option B) where
  added_beside : (x k : Key) (row : LinkRow) (links : List (Key × LinkRow)) → same_key x k ≡ false → told_at told (links ++ (k, row) ∷ []) x ≡ told_at told links x
  added_beside x k row links other = ap (option_and_then told) (value_beside_added x k row links other)

  removed_beside : (x k : Key) (links : List (Key × LinkRow)) → same_key x k ≡ false → told_at told (filter (lacks_key k) links) x ≡ told_at told links x
  removed_beside x k links other = ap (option_and_then told) (value_beside_removed x k links other)

  put_beside : (x k : Key) (row : LinkRow) (links : List (Key × LinkRow)) → same_key x k ≡ false → told_at told (put_at k links row) x ≡ told_at told links x
  put_beside x k row links other = ap (option_and_then told) (value_beside_put x k row links other)

  -- the same at a key and beside it
  everywhere : (k : Key) (f f' : Key → Option B) → f' k ≡ f k → ((x : Key) → same_key x k ≡ false → f' x ≡ f x) → (x : Key) → f' x ≡ f x
  everywhere k f f' here beside x =
      elim (same_key x k) as (λ t. same_key x k ≡ t → f' x ≡ f x) [
        | true ↦ λ h. let is : x ≡ k = (same_key_decides x k).0 h in ap f' is ∙ here ∙ ap f (sym is)
        | false ↦ beside x
      ] refl

  -- a link that says nothing, added or removed, leads nowhere
  pub silent_added : (k : Key) (row : LinkRow) (links : List (Key × LinkRow)) (g : B → Option Key) → LeadEachWay (told_at told links) g → value_at k links ≡ None → told row ≡ None → LeadEachWay (told_at told (links ++ (k, row) ∷ [])) g
  silent_added k row links g way new silent =
      let here = ap (option_and_then told) (value_of_added k row links new) ∙ silent ∙ sym (ap (option_and_then told) new) in
      lead_as _ _ g g way (everywhere k (told_at told links) (told_at told (links ++ (k, row) ∷ [])) here (λ x h. added_beside x k row links h)) (λ y. refl)

  pub silent_removed : (k : Key) (row : LinkRow) (links : List (Key × LinkRow)) (g : B → Option Key) → LeadEachWay (told_at told links) g → value_at k links ≡ Some row → told row ≡ None → LeadEachWay (told_at told (filter (lacks_key k) links)) g
  silent_removed k row links g way there silent =
      let here = ap (option_and_then told) (value_of_removed k links) ∙ sym (ap (option_and_then told) there ∙ silent) in
      lead_as _ _ g g way (everywhere k (told_at told links) (told_at told (filter (lacks_key k) links)) here (λ x h. removed_beside x k links h)) (λ y. refl)

  -- a link that says the same as before
  pub same_put : (k : Key) (row new : LinkRow) (links : List (Key × LinkRow)) (g : B → Option Key) → LeadEachWay (told_at told links) g → value_at k links ≡ Some row → told new ≡ told row → LeadEachWay (told_at told (put_at k links new)) g
  same_put k row new links g way there same =
      let here = ap (option_and_then told) (value_of_put k new row links there) ∙ same ∙ sym (ap (option_and_then told) there) in
      lead_as _ _ g g way (everywhere k (told_at told links) (told_at told (put_at k links new)) here (λ x h. put_beside x k new links h)) (λ y. refl)

  module _ (same_b : B → B → Bool) (decides_b : (x y : B) → Decides (same_b x y) (x ≡ y)) where
    -- a link that says b is added, and b leads to it
    pub told_added : (k : Key) (row : LinkRow) (b : B) (links : List (Key × LinkRow)) (g g' : B → Option Key) → LeadEachWay (told_at told links) g → value_at k links ≡ None → told row ≡ Some b → g b ≡ None → g' b ≡ Some k → ((y : B) → same_b y b ≡ false → g' y ≡ g y) → LeadEachWay (told_at told (links ++ (k, row) ∷ [])) g'
    told_added k row b links g g' way new says free leads others =
        lead_joined same_key same_b same_key_decides decides_b (told_at told links) (told_at told (links ++ (k, row) ∷ [])) g g' k b way (ap (option_and_then told) new) free (ap (option_and_then told) (value_of_added k row links new) ∙ says) leads (λ x h. added_beside x k row links h) others

    -- the link that says b is removed, and b leads nowhere
    pub told_removed : (k : Key) (row : LinkRow) (b : B) (links : List (Key × LinkRow)) (g g' : B → Option Key) → LeadEachWay (told_at told links) g → value_at k links ≡ Some row → told row ≡ Some b → g' b ≡ None → ((y : B) → same_b y b ≡ false → g' y ≡ g y) → LeadEachWay (told_at told (filter (lacks_key k) links)) g'
    told_removed k row b links g g' way there says gone others =
        lead_parted same_key same_b same_key_decides decides_b (told_at told links) (told_at told (filter (lacks_key k) links)) g g' k b way (ap (option_and_then told) there ∙ says) (ap (option_and_then told) (value_of_removed k links)) gone (λ x h. removed_beside x k links h) others

    -- a link that said nothing says b
    pub told_put : (k : Key) (row new : LinkRow) (b : B) (links : List (Key × LinkRow)) (g g' : B → Option Key) → LeadEachWay (told_at told links) g → value_at k links ≡ Some row → told row ≡ None → told new ≡ Some b → g b ≡ None → g' b ≡ Some k → ((y : B) → same_b y b ≡ false → g' y ≡ g y) → LeadEachWay (told_at told (put_at k links new)) g'
    told_put k row new b links g g' way there silent says free leads others =
        lead_joined same_key same_b same_key_decides decides_b (told_at told links) (told_at told (put_at k links new)) g g' k b way (ap (option_and_then told) there ∙ silent) free (ap (option_and_then told) (value_of_put k new row links there) ∙ says) leads (λ x h. put_beside x k new links h) others

    -- a link that said b says nothing
    pub untold_put : (k : Key) (row new : LinkRow) (b : B) (links : List (Key × LinkRow)) (g g' : B → Option Key) → LeadEachWay (told_at told links) g → value_at k links ≡ Some row → told row ≡ Some b → told new ≡ None → g' b ≡ None → ((y : B) → same_b y b ≡ false → g' y ≡ g y) → LeadEachWay (told_at told (put_at k links new)) g'
    untold_put k row new b links g g' way there says silent gone others =
        lead_parted same_key same_b same_key_decides decides_b (told_at told links) (told_at told (put_at k links new)) g g' k b way (ap (option_and_then told) there ∙ says) (ap (option_and_then told) (value_of_put k new row links there) ∙ silent) gone (λ x h. put_beside x k new links h) others

    -- a link that said b says c
    pub retold_put : (k : Key) (row new : LinkRow) (b c : B) (links : List (Key × LinkRow)) (g g' : B → Option Key) → LeadEachWay (told_at told links) g → value_at k links ≡ Some row → told row ≡ Some b → told new ≡ Some c → g c ≡ None → g' b ≡ None → g' c ≡ Some k → ((y : B) → same_b y b ≡ false → same_b y c ≡ false → g' y ≡ g y) → LeadEachWay (told_at told (put_at k links new)) g'
    retold_put k row new b c links g g' way there said says free gone leads others =
        lead_moved same_key same_b same_key_decides decides_b (told_at told links) (told_at told (put_at k links new)) g g' k b c way (ap (option_and_then told) there ∙ said) free (ap (option_and_then told) (value_of_put k new row links there) ∙ says) gone leads (λ x h. put_beside x k new links h) others
