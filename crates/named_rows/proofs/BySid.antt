-- Rows found by the IDs of their channels.
use Rattle.std.proofs.Common.{◌≡◌, ℕ, List, Bool, true, not, Some, None, nat_eq, refl, ap, ◌∙◌}
use Rattle.std.specs.List.{filter, find}
use Rattle.mask_merge.specs.Counts.{Counts}
use Rattle.row_index.specs.declared.key.Key.{Key}
use Rattle.row_index.specs.Lists.{of_owner}
use Rattle.row_index.specs.Rows.{same_key}
use Rattle.named_rows.specs.declared.subs.ClientSub.{ClientSub}
use Rattle.named_rows.specs.Demand.{all_exchanged}
use Rattle.named_rows.specs.Indexes.{AreBySid, IsApart, IsUnlistedBySid, has_sid, rows_at, sub_home, sub_key}
use Rattle.named_rows.proofs.Counting.{exchanged_among}
use Rattle.named_rows.proofs.Listed.{listed_same, listed_without, rows_listed}
use Rattle.named_rows.proofs.Lists.{filter_among, find_among, none_dropped, unfound_is_absent}
use Rattle.named_rows.proofs.Waiting.{second_of_both}

module _ {V : Type 0} (key home : V → Key) where
  -- the rows that pass, where all that do name this ID
  pub all_by_sid : (p : V → Bool) (sid : ℕ) (rows : List V) (lists : List (ℕ × List Key)) (keys : List Key) → ((row : V) → p row ≡ true → has_sid home sid row ≡ true) → IsApart key rows → AreBySid key home rows lists → keys ≡ of_owner lists sid → filter p (rows_at key rows keys) ≡ filter p rows
  all_by_sid p sid rows lists keys name apart listed are =
      ap (λ ks. filter p (rows_at key rows ks)) are ∙ ap (filter p) (rows_listed nat_eq key (has_sid home) rows lists sid apart listed) ∙ filter_among p (has_sid home sid) name rows

  -- the first of them
  pub found_by_sid : (p : V → Bool) (sid : ℕ) (rows : List V) (lists : List (ℕ × List Key)) (keys : List Key) → ((row : V) → p row ≡ true → has_sid home sid row ≡ true) → IsApart key rows → AreBySid key home rows lists → keys ≡ of_owner lists sid → find p (rows_at key rows keys) ≡ find p rows
  found_by_sid p sid rows lists keys name apart listed are =
      ap (λ ks. find p (rows_at key rows ks)) are ∙ ap (find p) (rows_listed nat_eq key (has_sid home) rows lists sid apart listed) ∙ find_among p (has_sid home sid) name rows

  -- a row removed, and its key from the list of its channel's ID
  pub by_sid_less : (rows left : List V) (k : Key) (old new : List (ℕ × List Key)) → IsApart key rows → left ≡ filter (λ r. not (same_key (key r) k)) rows → IsUnlistedBySid home (find (λ r. same_key (key r) k) rows) k old new → AreBySid key home rows old → AreBySid key home left new
  by_sid_less rows left k old new apart is unlisted listed =
      rw is
      (elim (find (λ r. same_key (key r) k) rows) as (λ o. find (λ r. same_key (key r) k) rows ≡ o → IsUnlistedBySid home o k old new → AreBySid key home (filter (λ r. not (same_key (key r) k)) rows) new) [
        | None ↦ λ none same. rw (none_dropped (λ r. same_key (key r) k) rows (unfound_is_absent (λ r. same_key (key r) k) rows none)) (listed_same nat_eq key (has_sid home) rows old new listed same)
        | Some row ↦ λ found removes. listed_without nat_eq key (has_sid home) rows row k (home row).id old new apart found (λ n. refl) listed removes
      ] refl unlisted)

-- what the subscriptions that name a channel's ID ask for changes as what all do
pub exchanged_by_sid : (before after : Bool) (session sid : ℕ) (rows : List ClientSub) (lists : List (ℕ × List Key)) (keys : List Key) (counts : Counts) → IsApart sub_key rows → AreBySid sub_key sub_home rows lists → keys ≡ of_owner lists sid → all_exchanged before after session sid (rows_at sub_key rows keys) counts ≡ all_exchanged before after session sid rows counts
exchanged_by_sid before after session sid rows lists keys counts apart listed are =
    ap (λ ks. all_exchanged before after session sid (rows_at sub_key rows ks) counts) are
    ∙ ap (λ some. all_exchanged before after session sid some counts) (rows_listed nat_eq sub_key (has_sid sub_home) rows lists sid apart listed)
    ∙ exchanged_among before after session sid (has_sid sub_home sid) (λ sub on. second_of_both _ _ on) rows counts
