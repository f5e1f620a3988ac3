-- Other rights on a variable's link, and a link that a server drops, are told on the variable alone.
use Rattle.std.proofs.Common.{◌≡◌, ℕ, List, [], Bool, true, false, cond, Option, Some, None, refl, sym, ap, ◌∙◌}
use Rattle.std.specs.Prelude.{bytes_eq}
use Rattle.std.specs.List.{All, find}
use Rattle.std.proofs.lemmas.Bool.{true≢false}
use Rattle.std.proofs.lemmas.List.Elements.{All-filter, All-weaker}
use Rattle.std.proofs.lemmas.Slice.Eq.{bytes_eq-Decides}
use Rattle.link_table.specs.declared.links.LinkRow.{LinkRow}
use Rattle.link_table.specs.Links.{is_link, is_named, is_not_link, with_state}
use Rattle.gateway_state.specs.Gateway.{Gateway}
use Rattle.gateway_state.specs.Notices.{link_notices_of}
use Rattle.gateway_state.specs.Servers.{channel_dropped, gone_for, with_link_state, without_link}
use Rattle.gateway_state.specs.Step.{consequences}
use Rattle.gateway_state.specs.Variables.{is_connected, link_of}
use Rattle.gateway_state.proofs.NumbersApart.{numbers_apart_kept}
use Rattle.gateway_state.proofs.LinksApart.{links_apart_kept}
use Rattle.gateway_state.proofs.SettledMeaning.{nothing_told}
use Rattle.gateway_state.proofs.SettledSteps.{settled_stays}
use Rattle.touched_rows.specs.declared.touched.Touched.TheVariants.{Nothing, Variable}
use Rattle.touched_rows.specs.Touched.{variable_told}
use Rattle.touched_rows.specs.Touches.{consequences_of, gone_touches, gone_touches_over}
use Rattle.touched_rows.proofs.Blanked.{found_beside}
use Rattle.touched_rows.proofs.Failed.{settled_without}
use Rattle.touched_rows.proofs.OneVariable.{told_on_variable}
use Rattle.touched_rows.proofs.ReadersOf.{found_left, not_not, other_name}
use Rattle.touched_rows.proofs.Tellings.{less_without_cached}
use Rattle.touched_rows.proofs.Tidy.{IsTidy}
use Rattle.touched_rows.proofs.TouchedAlone.{all_with_changed}
use Rattle.touched_rows.proofs.Unconnected.{the_link}

module _ (w : Gateway) (tidy : IsTidy w) (server cid : ℕ) (link : LinkRow) (found : find (is_link server cid) w.upstream.links ≡ Some link) where
  -- no link had anything to be told
  none_before : All (λ (row : LinkRow). is_named link.name row ≡ false → link_notices_of w row ≡ []) w.upstream.links
  none_before =
      All-weaker (λ (row : LinkRow). link_notices_of w row ≡ []) (λ (row : LinkRow). is_named link.name row ≡ false → link_notices_of w row ≡ [])
      (λ row none other. none) w.upstream.links (nothing_told (link_notices_of w) w.upstream.links tidy.settled.links)

  the_only : All (λ (row : LinkRow). is_link server cid row ≡ true → row ≡ link) w.upstream.links
  the_only = the_link w tidy.order server cid link found

  -- ---- with other rights

  module _ (rights : ℕ) where
    abbrev changed : Gateway
    changed = with_link_state server cid link.state rights w

    others_as_before : (other : List ℕ) → bytes_eq other link.name ≡ false → link_of changed other ≡ link_of w other
    others_as_before other differ =
        found_beside (is_named other) (is_link server cid) (with_state link.state rights) w.upstream.links
        (All-weaker (λ (row : LinkRow). is_link server cid row ≡ true → row ≡ link)
        (λ (row : LinkRow). is_link server cid row ≡ true → (is_named other row ≡ false) × (is_named other (with_state link.state rights row) ≡ false))
        (λ row one is. let here = ap (is_named other) (one is) ∙ other_name other link.name differ in (here, here)) w.upstream.links the_only)

    quiet_beside : All (λ (row : LinkRow). is_named link.name row ≡ false → link_notices_of w row ≡ []) changed.upstream.links
    quiet_beside =
        all_with_changed (λ (row : LinkRow). is_named link.name row ≡ false → link_notices_of w row ≡ []) (is_link server cid) (with_state link.state rights) w.upstream.links none_before
        (λ row is none other.
        let same : link ≡ row = cc in
        absurd (true≢false (sym ((bytes_eq-Decides row.name link.name).1 (sym (ap (λ (k : LinkRow). k.name) same))) ∙ other)))

    pub told_after_rights : consequences (with_link_state server cid link.state rights w) ≡ variable_told link.name (with_link_state server cid link.state rights w)
    told_after_rights =
        told_on_variable w tidy changed.upstream.links w.cache link.name others_as_before (λ of native dtype count none. none) quiet_beside
        (links_apart_kept.rows.link_changed server cid link.state rights w tidy.links_apart link.name) (numbers_apart_kept.rows.link_changed server cid link.state rights w tidy.order).links.apart

  -- ---- gone

  abbrev fewer : Gateway
  fewer = without_link server cid w

  others_left : (other : List ℕ) → bytes_eq other link.name ≡ false → link_of fewer other ≡ link_of w other
  others_left other differ =
      found_left (is_named other) (is_not_link server cid) w.upstream.links
      (All-weaker (λ (row : LinkRow). is_link server cid row ≡ true → row ≡ link) (λ (row : LinkRow). is_not_link server cid row ≡ false → is_named other row ≡ false)
      (λ row one gone. ap (is_named other) (one (not_not (is_link server cid row) gone)) ∙ other_name other link.name differ) w.upstream.links the_only)

  told_without : consequences (without_link server cid w) ≡ variable_told link.name (without_link server cid w)
  told_without =
      told_on_variable w tidy fewer.upstream.links fewer.cache link.name others_left (less_without_cached cid w).values
      (All-filter (is_not_link server cid) (λ (row : LinkRow). is_named link.name row ≡ false → link_notices_of w row ≡ []) w.upstream.links none_before)
      (links_apart_kept.rows.link_removed server cid w tidy.links_apart link.name) (numbers_apart_kept.rows.link_removed server cid w tidy.order).links.apart

pub told_after_dropping : (w : Gateway) → IsTidy w → (server cid : ℕ) → consequences (channel_dropped w server cid) ≡ consequences_of (gone_touches w server cid) (channel_dropped w server cid)
told_after_dropping w tidy server cid = by (find (is_link server cid) w.upstream.links) refl
  where
    over : (link : LinkRow) → find (is_link server cid) w.upstream.links ≡ Some link → (connected : Bool) → is_connected link.state ≡ connected
        → consequences (without_link server cid w) ≡ consequences_of (cond connected (Variable link.name) Nothing) (without_link server cid w)
    over link is true connected = told_without w tidy server cid link is
    over link is false connected = settled_stays (without_link server cid w) (settled_without w tidy.settled tidy.order tidy.links_apart server cid link is connected)

    by : (over_link : Option LinkRow) → find (is_link server cid) w.upstream.links ≡ over_link → consequences (gone_for server cid over_link w) ≡ consequences_of (gone_touches_over over_link) (gone_for server cid over_link w)
    by None is = settled_stays w tidy.settled
    by (Some link) is = over link is (is_connected link.state) refl
