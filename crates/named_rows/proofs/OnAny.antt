-- The rows on several names, found by the keys that are listed under each.
use Rattle.std.proofs.Common.{◌≡◌, ℕ, List, [], ◌∷◌, Bool, true, false, cond, ◌||◌, Option, Some, None, map, length, refl, sym, ap, ◌∙◌, true≢false}
use Rattle.std.specs.Prelude.{bytes_eq}
use Rattle.std.specs.List.{filter, find, flat_map, list_any, sum_by}
use Rattle.std.proofs.lemmas.List.{length-map}
use Rattle.std.proofs.lemmas.List.Concat.{length-flat_map}
use Rattle.std.proofs.lemmas.List.Folds.{list_any-append}
use Rattle.std.proofs.lemmas.Slice.Eq.{bytes_eq-Decides}
use Rattle.row_index.specs.declared.key.Key.{Key}
use Rattle.row_index.specs.Rows.{same_key}
use Rattle.row_index.proofs.Keys.{same_key_flips, same_key_itself}
use Rattle.named_rows.specs.declared.channels.Channel.{Channel}
use Rattle.named_rows.specs.Channels.{count_on_each, is_on, is_on_any}
use Rattle.named_rows.specs.Indexes.{channel_key, channel_keys_on, is_one_of, keyed, IsApart}
use Rattle.named_rows.proofs.Keyed.{Each, each_is_found, value_at_keyed}

-- it doesn't matter which name is asked
pub same_name_flips : (a b : List ℕ) → bytes_eq a b ≡ bytes_eq b a
same_name_flips a b = by (bytes_eq a b) (bytes_eq b a) refl refl
  where
    by : (one other : Bool) → bytes_eq a b ≡ one → bytes_eq b a ≡ other → one ≡ other
    by true true is back = refl
    by false false is back = refl
    by true false is back = absurd (true≢false (sym ((bytes_eq-Decides b a).1 (sym ((bytes_eq-Decides a b).0 is))) ∙ back))
    by false true is back = absurd (true≢false (sym ((bytes_eq-Decides a b).1 (sym ((bytes_eq-Decides b a).0 back))) ∙ is))

-- tests that agree on each row keep the same
pub filter_each : {V : Type 0} (p q : V → Bool) (rows : List V) → Each (λ row. p row ≡ q row) rows → filter p rows ≡ filter q rows
filter_each p q [] each = refl
filter_each p q (row ∷ rows) each = (λ i. cond (each.0 i) (row ∷ filter_each p q rows each.1 i) (filter_each p q rows each.1 i))

pub each_so : {V : Type 0} (P Q : V → Type 0) → ((row : V) → P row → Q row) → (rows : List V) → Each P rows → Each Q rows
each_so P Q so [] each = tt
each_so P Q so (row ∷ rows) each = (so row each.0, each_so P Q so rows each.1)

module _ {V : Type 0} (key : V → Key) (test : V → Bool) where
  -- a key that no row has is none of those of rows that pass
  none_listed : (k : Key) (rows : List V) → find (λ r. same_key (key r) k) rows ≡ None → list_any (same_key k) (map key (filter test rows)) ≡ false
  none_listed k [] none = refl
  none_listed k (row ∷ rows) none = by (same_key (key row) k) (test row) refl none (λ later. none_listed k rows later)
    where
      by : (same passes : Bool) → same_key (key row) k ≡ same → cond same (Some row) (find (λ r. same_key (key r) k) rows) ≡ None
          → (find (λ r. same_key (key r) k) rows ≡ None → list_any (same_key k) (map key (filter test rows)) ≡ false)
          → list_any (same_key k) (map key (cond passes (row ∷ filter test rows) (filter test rows))) ≡ false
      by true passes is none rest = cc
      by false true is none rest = ap (λ t. t || list_any (same_key k) (map key (filter test rows))) (same_key_flips k (key row) ∙ is) ∙ rest none
      by false false is none rest = rest none

  -- the key of a row is one of those exactly where the row passes
  pub listed_where_passes : (rows : List V) (x : V) → IsApart key rows → find (λ r. same_key (key r) (key x)) rows ≡ Some x → list_any (same_key (key x)) (map key (filter test rows)) ≡ test x
  listed_where_passes [] x apart found = cc
  listed_where_passes (row ∷ rows) x apart found =
      by (same_key (key row) (key x)) refl found (λ later. listed_where_passes rows x apart.1 later)
    where
      none : row ≡ x → list_any (same_key (key x)) (map key (filter test rows)) ≡ false
      none same = none_listed (key x) rows (ap (λ r. find (λ y. same_key (key y) (key r)) rows) (sym same) ∙ sym (value_at_keyed key (key row) rows) ∙ apart.0)

      at : (passes : Bool) → row ≡ x → list_any (same_key (key x)) (map key (filter test rows)) ≡ false → list_any (same_key (key x)) (map key (cond passes (row ∷ filter test rows) (filter test rows))) ≡ passes
      at true same others = ap (λ r. same_key (key x) (key r) || list_any (same_key (key x)) (map key (filter test rows))) same ∙ ap (λ t. t || list_any (same_key (key x)) (map key (filter test rows))) (same_key_itself (key x))
      at false same others = others

      past : (passes : Bool) → same_key (key row) (key x) ≡ false → list_any (same_key (key x)) (map key (cond passes (row ∷ filter test rows) (filter test rows))) ≡ list_any (same_key (key x)) (map key (filter test rows))
      past true is = ap (λ t. t || list_any (same_key (key x)) (map key (filter test rows))) (same_key_flips (key x) (key row) ∙ is)
      past false is = refl

      by : (same : Bool) → same_key (key row) (key x) ≡ same → cond same (Some row) (find (λ r. same_key (key r) (key x)) rows) ≡ Some x
          → (find (λ r. same_key (key r) (key x)) rows ≡ Some x → list_any (same_key (key x)) (map key (filter test rows)) ≡ test x)
          → list_any (same_key (key x)) (map key (filter test (row ∷ rows))) ≡ test x
      by true is found rest = let same : row ≡ x = cc in at (test row) same (none same) ∙ ap test same
      by false is found rest = past (test row) is ∙ rest found

-- a channel of the keys under several names is on one of these
on_one_of : (channels : List Channel) (x : Channel) (names : List (List ℕ)) → IsApart channel_key channels → find (λ r. same_key (channel_key r) (channel_key x)) channels ≡ Some x
    → is_one_of channel_key (channel_keys_on names channels) x ≡ is_on_any names x
on_one_of channels x [] apart found = refl
on_one_of channels x (name ∷ names) apart found =
    list_any-append (same_key (channel_key x)) (map channel_key (filter (is_on name) channels)) (channel_keys_on names channels)
    ∙ (λ i. (listed_where_passes channel_key (is_on name) channels x apart found ∙ same_name_flips x.real name) i || on_one_of channels x names apart found i)

-- the channels of the keys under several names are those on any of them
pub channels_on_any : (names : List (List ℕ)) (channels : List Channel) → IsApart channel_key channels → filter (is_one_of channel_key (channel_keys_on names channels)) channels ≡ filter (is_on_any names) channels
channels_on_any names channels apart =
    filter_each (is_one_of channel_key (channel_keys_on names channels)) (is_on_any names) channels
    (each_so (λ x. find (λ r. same_key (channel_key r) (channel_key x)) channels ≡ Some x) (λ x. is_one_of channel_key (channel_keys_on names channels) x ≡ is_on_any names x)
    (λ x found. on_one_of channels x names apart found) channels (each_is_found channel_key channels apart))

-- and as many keys as channels on each
pub keys_counted : (names : List (List ℕ)) (channels : List Channel) → length (channel_keys_on names channels) ≡ count_on_each names channels
keys_counted names channels =
    length-flat_map (λ name. map channel_key (filter (is_on name) channels)) names
    ∙ ap (λ (f : List ℕ → ℕ). sum_by f names) (λ i name. length-map (filter (is_on name) channels) channel_key i)
