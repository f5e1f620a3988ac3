-- The channels' lists: what is kept as they come and go.
use Rattle.std.proofs.Common.{◌≡◌, ℕ, List, Some, None, map, bytes_eq, refl, sym, ap, ◌∙◌}
use Rattle.std.specs.List.{filter, find}
use Rattle.rows.specs.Rows.{change_first}
use Rattle.row_index.specs.declared.key.Key.{Key}
use Rattle.row_index.specs.Lists.{of}
use Rattle.named_rows.specs.declared.channels.Channel.{Channel}
use Rattle.named_rows.specs.declared.channels.Reach.{Reach}
use Rattle.named_rows.specs.Channels.{is_on, with_reach_and_rights}
use Rattle.named_rows.specs.Indexes.{channel_key, is_at, is_not_at, AreChannelsListed, IsApart, IsUnlistedOn, ListedRows}
use Rattle.named_rows.proofs.Listed.{listed_without, listed_changed}
use Rattle.named_rows.proofs.Lists.{none_dropped, unfound_is_absent}

-- a channel removed, and its key from the list of its real name
pub channels_less : (old new : ListedRows Channel) (k : Key) → IsApart channel_key old.rows → new.rows ≡ filter (is_not_at channel_key k) old.rows → IsUnlistedOn (λ (channel : Channel). channel.real) (find (is_at channel_key k) old.rows) k old.on new.on → AreChannelsListed old → AreChannelsListed new
channels_less old new k apart rows unlisted listed =
    rw rows
    (elim (find (is_at channel_key k) old.rows) as (λ o. find (is_at channel_key k) old.rows ≡ o → IsUnlistedOn (λ (channel : Channel). channel.real) o k old.on new.on → (name : List ℕ) → of new.on name ≡ map channel_key (filter (is_on name) (filter (is_not_at channel_key k) old.rows))) [
      | None ↦ λ none same name.
          let all = none_dropped (is_at channel_key k) old.rows (unfound_is_absent (is_at channel_key k) old.rows none) in
          same name ∙ listed name ∙ ap (λ rows. map channel_key (filter (is_on name) rows)) (sym all)
      | Some channel ↦ λ found removes. listed_without bytes_eq channel_key is_on old.rows channel k channel.real old.on new.on apart found (λ n. refl) listed removes
    ] refl unlisted)

-- a channel with another reach and other rights
pub channels_put : (old new : ListedRows Channel) (k : Key) (reach : Reach) (rights : ℕ) → new.rows ≡ change_first (is_at channel_key k) (with_reach_and_rights reach rights) old.rows → new.on ≡ old.on → AreChannelsListed old → AreChannelsListed new
channels_put old new k reach rights rows on listed =
    rw (rows, on) (listed_changed bytes_eq channel_key is_on (is_at channel_key k) (with_reach_and_rights reach rights) old.rows old.on (λ name row. refl) (λ row. refl) listed)
