-- What events rest on of the state before them, in every state that a run reaches.
use Rattle.std.proofs.Common.{sym, subst}
use Rattle.gateway_state.specs.Gateway.{Gateway}
use Rattle.gateway_state.specs.Reached.{IsReached}
use Rattle.gateway_state.specs.Settled.{AreNumbersApart, HasHostsFixed, HasLinksApart, HasReadsOnChannels, HasSubsApart, HasSubsOnChannels, IsSettled}
use Rattle.gateway_state.proofs.CachedApart.{HasCachedApart, run_cached_apart}
use Rattle.gateway_state.proofs.HostsFixed.{run_hosts_fixed}
use Rattle.gateway_state.proofs.LinksApart.{run_links_apart}
use Rattle.gateway_state.proofs.RowsOnChannels.{run_on_channels}
use Rattle.gateway_state.proofs.NumbersApart.{run_numbers_apart}
use Rattle.gateway_state.proofs.SettledRuns.{run_settled}
use Rattle.gateway_state.proofs.SubsApart.{run_subs_apart}

-- nobody is owed anything, and rows are apart and stand on others as they should
pub record IsTidy (w : Gateway) : Type 0 where
  pub settled : IsSettled w
  pub order : AreNumbersApart w
  pub links_apart : HasLinksApart w
  pub subs_apart : HasSubsApart w
  pub subs_on : HasSubsOnChannels w
  pub reads_on : HasReadsOnChannels w
  pub hosts_fixed : HasHostsFixed w
  pub cached_apart : HasCachedApart w

pub reached_tidy : (w : Gateway) → IsReached w → IsTidy w
reached_tidy w reached =
    subst IsTidy (sym reached.by_run) (record {
      settled = run_settled reached.config reached.policy reached.events;
      order = run_numbers_apart reached.config reached.policy reached.events;
      links_apart = run_links_apart reached.config reached.policy reached.events;
      subs_apart = run_subs_apart reached.config reached.policy reached.events;
      subs_on = (run_on_channels reached.config reached.policy reached.events).subs;
      reads_on = (run_on_channels reached.config reached.policy reached.events).reads;
      hosts_fixed = run_hosts_fixed reached.config reached.policy reached.events;
      cached_apart = run_cached_apart reached.config reached.policy reached.events;
    })
