-- What follows, from a state in which the first passes have nothing to tell.
use Rattle.std.proofs.Common.{◌≡◌, List, [], ap, ◌∙◌}
use Rattle.std.specs.Prelude.{filter_map}
use Rattle.std.proofs.lemmas.List.Elements.{All-weaker}
use Rattle.std.specs.Prelude.{None}
use Rattle.std.specs.List.{All}
use Rattle.named_rows.specs.declared.reads.WaitingRead.{WaitingRead}
use Rattle.named_rows.specs.declared.subs.ClientSub.{ClientSub}
use Rattle.gateway_state.specs.Gateway.{Gateway}
use Rattle.gateway_state.specs.Notices.{channel_notices, link_notices, links_told, read_notice, read_notices, reads_told}
use Rattle.gateway_state.specs.Step.{consequences}
use Rattle.gateway_state.specs.Updates.{update_notice, updates_told, updates_withheld, withheld}
use Rattle.gateway_state.proofs.SettledMeaning.{none_told}
use Rattle.gateway_state.proofs.SettledSteps.{channels_stay, links_stay, reads_stay, withheld_stay}
use Rattle.touched_rows.proofs.LessGiven.{GivesNoMore, read_stays, update_stays}
use Rattle.touched_rows.proofs.TouchedAlone.{none_planned}

pub from_links : (x : Gateway) → channel_notices x ≡ [] → withheld x ≡ [] → consequences x ≡ updates_told (reads_told (links_told x))
from_links x channels held_back =
    ap (λ (v : Gateway). updates_told (reads_told (links_told (updates_withheld v)))) (channels_stay x channels)
    ∙ ap (λ (v : Gateway). updates_told (reads_told (links_told v))) (withheld_stay x held_back)

pub from_reads : (x : Gateway) → channel_notices x ≡ [] → withheld x ≡ [] → link_notices x ≡ [] → consequences x ≡ updates_told (reads_told x)
from_reads x channels held_back links = from_links x channels held_back ∙ ap (λ (v : Gateway). updates_told (reads_told v)) (links_stay x links)

pub from_updates : (x : Gateway) → channel_notices x ≡ [] → withheld x ≡ [] → link_notices x ≡ [] → read_notices x ≡ [] → consequences x ≡ updates_told x
from_updates x channels held_back links reads = from_reads x channels held_back links ∙ ap updates_told (reads_stay x reads)

-- ---- rows that nothing is owed on, in a state that gives no more

module _ (w x : Gateway) (less : GivesNoMore w x) where
  pub each_read_stays : (reads : List WaitingRead) → filter_map (read_notice w) reads ≡ [] → All (λ (read : WaitingRead). read_notice x read ≡ None) reads
  each_read_stays reads none =
      All-weaker (λ (read : WaitingRead). read_notice w read ≡ None) (λ (read : WaitingRead). read_notice x read ≡ None) (read_stays w x less) reads (none_told (read_notice w) reads none)

  pub each_update_stays : (subs : List ClientSub) → filter_map (update_notice w) subs ≡ [] → All (λ (sub : ClientSub). update_notice x sub ≡ None) subs
  each_update_stays subs none =
      All-weaker (λ (sub : ClientSub). update_notice w sub ≡ None) (λ (sub : ClientSub). update_notice x sub ≡ None) (update_stays w x less) subs (none_told (update_notice w) subs none)

  pub no_reads : (reads : List WaitingRead) → filter_map (read_notice w) reads ≡ [] → filter_map (read_notice x) reads ≡ []
  no_reads reads none = none_planned (read_notice x) reads (each_read_stays reads none)

  pub no_updates : (subs : List ClientSub) → filter_map (update_notice w) subs ≡ [] → filter_map (update_notice x) subs ≡ []
  no_updates subs none = none_planned (update_notice x) subs (each_update_stays subs none)
