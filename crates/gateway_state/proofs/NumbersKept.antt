-- Numbers tell rows apart wherever an event's parts take place.
use Rattle.std.proofs.Common.{sym, subst}
use Rattle.gateway_state.specs.declared.event.Event.{Event}
use Rattle.gateway_state.specs.declared.notice.LinkNotice.{LinkNotice}
use Rattle.gateway_state.specs.Direct.{direct_effect}
use Rattle.gateway_state.specs.Gateway.{Gateway}
use Rattle.gateway_state.specs.Notices.{channels_told, link_told}
use Rattle.gateway_state.specs.Reached.{IsReached}
use Rattle.gateway_state.specs.Settled.{AreNumbersApart}
use Rattle.gateway_state.specs.Updates.{updates_withheld}
use Rattle.gateway_state.proofs.KeptByRuns.{kept_channels_told, kept_direct_effect, kept_link_told, kept_updates_withheld}
use Rattle.gateway_state.proofs.NumbersApart.{numbers_apart_kept, numbers_apart_with_links, run_numbers_apart}

-- where an event begins
pub reached_numbers : (w : Gateway) → IsReached w → AreNumbersApart w
reached_numbers w reached = subst AreNumbersApart (sym reached.by_run) (run_numbers_apart reached.config reached.policy reached.events)

-- after its direct effect
pub numbers_after_effect : (w : Gateway) (event : Event) → IsReached w → AreNumbersApart (direct_effect w event)
numbers_after_effect w event reached = kept_direct_effect AreNumbersApart numbers_apart_kept numbers_apart_with_links w event (reached_numbers w reached)

-- before links are told, and between their notices
pub numbers_before_links : (w : Gateway) → AreNumbersApart w → AreNumbersApart (updates_withheld (channels_told w))
numbers_before_links w apart =
    kept_updates_withheld AreNumbersApart numbers_apart_kept.rows (channels_told w) (kept_channels_told AreNumbersApart numbers_apart_kept.rows w apart)

pub numbers_told : (w : Gateway) (notice : LinkNotice) → AreNumbersApart w → AreNumbersApart (link_told w notice)
numbers_told w notice apart = kept_link_told AreNumbersApart numbers_apart_kept.rows w notice apart
