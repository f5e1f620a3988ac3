-- Rows follow their channels: what is kept as channels and rows come and go.
use Rattle.std.proofs.Common.{◌≡◌, ℕ, List, [], ◌∷◌, ◌++◌, Bool, true, false, not, ◌&&◌, ◌==◌, Some, map, bytes_eq, refl, sym, ap, ◌∙◌, true≢false}
use Rattle.std.specs.List.{filter, find, list_any}
use Rattle.std.proofs.lemmas.Bool.{eqb-true}
use Rattle.rows.specs.Rows.{change_first}
use Rattle.row_index.specs.declared.key.Key.{Key}
use Rattle.row_index.specs.Lists.{of, AddsTo, RemovesFrom, SameLists}
use Rattle.row_index.specs.Rows.{same_key}
use Rattle.named_rows.specs.declared.channels.Channel.{Channel}
use Rattle.named_rows.specs.declared.channels.Reach.{Reach}
use Rattle.named_rows.specs.declared.subs.ClientSub.{ClientSub}
use Rattle.named_rows.specs.Channels.{is_channel, is_not_channel, is_channel_of, is_channel_on, with_reach_and_rights}
use Rattle.named_rows.specs.Subs.{is_sub, is_not_sub, is_sub_on, is_not_sub_on}
use Rattle.named_rows.specs.Indexes.{SubRows, FollowChannels, FollowSubs, IsApart, hangs, leads, sub_home, sub_key}
use Rattle.named_rows.proofs.Keyed.{fails_alone, each_is_found, found_each}
use Rattle.named_rows.proofs.Listed.{listed_with_more, listed_without, listed_changed}
use Rattle.named_rows.proofs.Lists.{all_so, all_so_where, all_kept, all_with_more, all_changed, all_pass_so, any_so, none_is_all, filter_agree_where, find_among, any_among, found_before, there_before, found_is_there, found_passes, all_found, any_changed, found_changed}

-- a channel that passes for one pair of IDs passes for another exactly where the pairs are equal
pub ids_agree : (a b session sid : ℕ) (channel : Channel) → is_channel a b channel ≡ true → is_channel session sid channel ≡ (a == session && b == sid)
ids_agree a b session sid channel e =
    elim (channel.session == a) as (λ t. channel.session == a ≡ t → (t && channel.sid == b) ≡ true → is_channel session sid channel ≡ (a == session && b == sid)) [
      | true ↦ λ first second. let x = eqb-true channel.session a first in let y = eqb-true channel.sid b second in (λ i. x i == session && y i == sid)
      | false ↦ λ _ h. absurd (true≢false (sym h))
    ] refl e

-- equal pairs of IDs are alike
pub on_ids : {B : Type 0} (w : ℕ → ℕ → B) (session sid a b : ℕ) → (a == session && b == sid) ≡ true → w a b ≡ w session sid
on_ids w session sid a b e =
    elim (a == session) as (λ t. a == session ≡ t → (t && b == sid) ≡ true → w a b ≡ w session sid) [
      | true ↦ λ first second. let x = eqb-true a session first in let y = eqb-true b sid second in (λ i. w (x i) (y i))
      | false ↦ λ _ h. absurd (true≢false (sym h))
    ] refl e

of_session : (a b session : ℕ) (channel : Channel) → a == session ≡ true → is_channel a b channel ≡ true → is_channel_of session channel ≡ true
of_session a b session channel same e =
    elim (channel.session == a) as (λ t. channel.session == a ≡ t → (t && channel.sid == b) ≡ true → is_channel_of session channel ≡ true)
    [ true ↦ λ first _. ap (λ n. n == session) (eqb-true channel.session a first) ∙ same | false ↦ λ _ h. absurd (true≢false (sym h)) ] refl e

-- a row that hangs on the session's channel of this ID
abbrev pub hangs_on : {V : Type 0} → (V → Key) → ℕ → ℕ → V → Bool
hangs_on home session sid row = (home row).owner == session && (home row).id == sid

-- Rows of any kind: key is the key of a row, home that of its channel.
module _ {V : Type 0} (key home : V → Key) where
  -- a channel more
  pub follow_more : (channels : List Channel) (rows : List V) (on : List (List ℕ × List Key)) (channel : Channel) → FollowChannels key home channels rows on → FollowChannels key home (channels ++ channel ∷ []) rows on
  follow_more channels rows on channel before = record {
    standing = all_so (hangs home channels) (hangs home (channels ++ channel ∷ [])) (λ row h. there_before (is_channel (home row).owner (home row).id) channels (channel ∷ []) h) rows before.standing;
    listed = λ name.
        before.listed name ∙ ap (map key) (filter_agree_where (hangs home channels) (leads home channels name) (leads home (channels ++ channel ∷ []) name) (λ row h. ap (is_channel_on name) (sym (found_before (is_channel (home row).owner (home row).id) channels (channel ∷ []) h))) rows before.standing);
  }

  -- a channel with another reach and other rights
  pub follow_changed : (channels : List Channel) (rows : List V) (on : List (List ℕ × List Key)) (session sid : ℕ) (reach : Reach) (rights : ℕ) → FollowChannels key home channels rows on → FollowChannels key home (change_first (is_channel session sid) (with_reach_and_rights reach rights) channels) rows on
  follow_changed channels rows on session sid reach rights before =
      let changed : List Channel = change_first (is_channel session sid) (with_reach_and_rights reach rights) channels in
      record {
        standing = all_so (hangs home channels) (hangs home changed) (λ row h. any_changed (is_channel session sid) (with_reach_and_rights reach rights) (is_channel (home row).owner (home row).id) (λ channel. refl) channels ∙ h) rows before.standing;
        listed = λ name.
            before.listed name ∙ ap (map key) (filter_agree_where (hangs home channels) (leads home channels name) (leads home changed name) (λ row h. sym (found_changed (is_channel session sid) (with_reach_and_rights reach rights) (is_channel (home row).owner (home row).id) (is_channel_on name) (λ channel. refl) (λ channel. refl) channels)) rows before.standing);
      }

  -- a row more, on a channel that stands
  pub follow_added : (channels : List Channel) (old new : List V) (before after : List (List ℕ × List Key)) (row : V) (channel : Channel) → find (is_channel (home row).owner (home row).id) channels ≡ Some channel → new ≡ old ++ row ∷ [] → AddsTo channel.real (key row) before after → FollowChannels key home channels old before → FollowChannels key home channels new after
  follow_added channels old new before after row channel found rows adds follow = record {
    standing = rw rows (all_with_more (hangs home channels) old row follow.standing (found_is_there (is_channel (home row).owner (home row).id) channels channel found));
    listed = rw rows (listed_with_more bytes_eq key (leads home channels) old row channel.real before after (λ name. ap (is_channel_on name) found) follow.listed adds);
  }

  -- a row changed in what is neither in its key nor in that of its channel
  pub follow_put : (channels : List Channel) (old new : List V) (before after : List (List ℕ × List Key)) (p : V → Bool) (f : V → V) → ((row : V) → key (f row) ≡ key row) → ((row : V) → home (f row) ≡ home row) → new ≡ change_first p f old → after ≡ before → FollowChannels key home channels old before → FollowChannels key home channels new after
  follow_put channels old new before after p f kept stays rows on follow = record {
    standing = rw rows (all_changed p f (hangs home channels) (λ row. ap (λ (k : Key). list_any (is_channel k.owner k.id) channels) (stays row)) old ∙ follow.standing);
    listed = rw (rows, on) (listed_changed bytes_eq key (leads home channels) p f old before (λ name row. ap (λ (k : Key). is_channel_on name (find (is_channel k.owner k.id) channels)) (stays row)) kept follow.listed);
  }

  -- a row removed
  pub follow_removed : (channels : List Channel) (old new : List V) (before after : List (List ℕ × List Key)) (k : Key) (row : V) (channel : Channel) → IsApart key old → find (λ r. same_key (key r) k) old ≡ Some row → find (is_channel (home row).owner (home row).id) channels ≡ Some channel
      → new ≡ filter (λ r. not (same_key (key r) k)) old → RemovesFrom channel.real k before after → FollowChannels key home channels old before → FollowChannels key home channels new after
  follow_removed channels old new before after k row channel apart found on rows removes follow = record {
    standing = rw rows (all_kept (hangs home channels) (λ r. not (same_key (key r) k)) old follow.standing);
    listed = rw rows (listed_without bytes_eq key (leads home channels) old row k channel.real before after apart found (λ name. ap (is_channel_on name) on) follow.listed removes);
  }

  -- a channel on which nothing hangs removed
  pub follow_without : (channels : List Channel) (rows : List V) (on : List (List ℕ × List Key)) (session sid : ℕ) → list_any (hangs_on home session sid) rows ≡ false → FollowChannels key home channels rows on → FollowChannels key home (filter (is_not_channel session sid) channels) rows on
  follow_without channels rows on session sid bare before =
      let left : List Channel = filter (is_not_channel session sid) channels in
      let others = none_is_all (hangs_on home session sid) rows bare in
      let stays : (row : V) → not (hangs_on home session sid row) ≡ true → (channel : Channel) → is_channel (home row).owner (home row).id channel ≡ true → is_not_channel session sid channel ≡ true = λ row h channel e. ap not (ids_agree (home row).owner (home row).id session sid channel e) ∙ h in
      record {
        standing = all_so_where (hangs home channels) (λ row. not (hangs_on home session sid row)) (hangs home left) (λ row h other. any_among (is_channel (home row).owner (home row).id) (is_not_channel session sid) (stays row other) channels ∙ h) rows before.standing others;
        listed = λ name.
            before.listed name ∙ ap (map key) (filter_agree_where (λ row. not (hangs_on home session sid row)) (leads home channels name) (leads home left name) (λ row other. ap (is_channel_on name) (sym (find_among (is_channel (home row).owner (home row).id) (is_not_channel session sid) (stays row other) channels))) rows others);
      }

  -- where no channel of these IDs stands, nothing hangs on one
  pub bare_without : (channels : List Channel) (rows : List V) (on : List (List ℕ × List Key)) (session sid : ℕ) → list_any (is_channel session sid) channels ≡ false → FollowChannels key home channels rows on → list_any (hangs_on home session sid) rows ≡ false
  bare_without channels rows on session sid gone before =
      all_pass_so (hangs home channels) (hangs_on home session sid) (λ row standing.
      elim (hangs_on home session sid row) as (λ t. hangs_on home session sid row ≡ t → t ≡ false)
      [ true ↦ λ e. absurd (true≢false (sym standing ∙ on_ids (λ a b. list_any (is_channel a b) channels) session sid (home row).owner (home row).id e ∙ gone)) | false ↦ λ _. refl ] refl) rows before.standing

  -- where a session has no channel, none of these rows is its own
  pub none_without : (channels : List Channel) (rows : List V) (on : List (List ℕ × List Key)) (session : ℕ) → list_any (is_channel_of session) channels ≡ false → FollowChannels key home channels rows on → list_any (λ row. (home row).owner == session) rows ≡ false
  none_without channels rows on session gone before =
      all_pass_so (hangs home channels) (λ row. (home row).owner == session) (λ row standing.
      elim ((home row).owner == session) as (λ t. (home row).owner == session ≡ t → t ≡ false)
      [ true ↦ λ e. absurd (true≢false (sym (any_so (is_channel (home row).owner (home row).id) (is_channel_of session) (λ channel h. of_session (home row).owner (home row).id session channel e h) channels standing) ∙ gone)) | false ↦ λ _. refl ] refl) rows before.standing

  -- no row
  pub follow_none : (channels : List Channel) (rows : List V) (on : List (List ℕ × List Key)) → rows ≡ [] → ((name : List ℕ) → of on name ≡ []) → FollowChannels key home channels rows on
  follow_none channels rows on no_row empty = record {
    standing = rw no_row refl;
    listed = rw no_row empty;
  }

  -- the same rows, and lists that are the same for each name
  pub follow_same : (channels : List Channel) (old new : List V) (before after : List (List ℕ × List Key)) → new ≡ old → SameLists before after → FollowChannels key home channels old before → FollowChannels key home channels new after
  follow_same channels old new before after rows same follow = record {
    standing = rw rows follow.standing;
    listed = rw rows (λ name. same name ∙ follow.listed name);
  }

  -- the channel of a row that is found stands
  pub stands_of : (channels : List Channel) (rows : List V) (on : List (List ℕ × List Key)) (p : V → Bool) (row : V) → find p rows ≡ Some row → FollowChannels key home channels rows on → list_any (is_channel (home row).owner (home row).id) channels ≡ true
  stands_of channels rows on p row found before = all_found (hangs home channels) p rows row before.standing found

-- ---- subscriptions

-- the first subscription on a channel is the one of its IDs
pub found_by_key : (subs : SubRows) (session sid : ℕ) (sub : ClientSub) → IsApart sub_key subs.rows → find (is_sub_on session sid) subs.rows ≡ Some sub → find (is_sub session sub.id) subs.rows ≡ Some sub
found_by_key subs session sid sub apart found =
    let each = found_each (λ x. find (λ row. same_key (sub_key row) (sub_key x)) subs.rows ≡ Some x) (is_sub_on session sid) subs.rows sub (each_is_found sub_key subs.rows apart) found in
    sym (on_ids (λ a b. find (is_sub a sub.id) subs.rows) session sid sub.session sub.sid (found_passes (is_sub_on session sid) subs.rows sub found)) ∙ each

-- the subscriptions left elsewhere, where one on the channel goes
pub elsewhere_kept : (subs : SubRows) (session sid : ℕ) (sub : ClientSub) → IsApart sub_key subs.rows → find (is_sub_on session sid) subs.rows ≡ Some sub → filter (is_not_sub_on session sid) (filter (is_not_sub session sub.id) subs.rows) ≡ filter (is_not_sub_on session sid) subs.rows
elsewhere_kept subs session sid sub apart found =
    let on = found_passes (is_sub_on session sid) subs.rows sub found in
    fails_alone sub_key (record { owner = session; id = sub.id }) (is_not_sub_on session sid) subs.rows sub apart (found_by_key subs session sid sub apart found) (ap not on)

-- the first subscription on a channel removed
pub follow_first_removed : (channels : List Channel) (old new : SubRows) (session sid : ℕ) (sub : ClientSub) (channel : Channel) → IsApart sub_key old.rows → find (is_sub_on session sid) old.rows ≡ Some sub → find (is_channel session sid) channels ≡ Some channel → new.rows ≡ filter (is_not_sub session sub.id) old.rows → RemovesFrom channel.real (record { owner = session; id = sub.id }) old.on new.on → FollowSubs channels old → FollowSubs channels new
follow_first_removed channels old new session sid sub channel apart first found rows removes before =
    follow_removed sub_key sub_home channels old.rows new.rows old.on new.on (record { owner = session; id = sub.id }) sub channel apart (found_by_key old session sid sub apart first)
    (on_ids (λ a b. find (is_channel a b) channels) session sid sub.session sub.sid (found_passes (is_sub_on session sid) old.rows sub first) ∙ found) rows removes before
