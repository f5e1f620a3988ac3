-- Every state that a run reaches is settled, and what that means in it row by row.
use Rattle.std.proofs.Common.{List, [], ◌∷◌, refl}
use Rattle.std.specs.List.{All}
use Rattle.link_table.specs.declared.links.Subject.{Subject}
use Rattle.link_table.specs.declared.links.Subject.TheVariants.{Values}
use Rattle.gateway_state.specs.declared.config.Config.{Config}
use Rattle.rule_desk.specs.declared.policy.Policy.{Policy}
use Rattle.gateway_state.specs.declared.event.Event.{Event}
use Rattle.gateway_state.specs.Direct.{direct_effect}
use Rattle.gateway_state.specs.Gateway.{Gateway, initial}
use Rattle.gateway_state.specs.Settled.{AreNumbersApart, HasSubsApart, IsInUse, IsKeptPosted, IsSettled, IsSubscribedExactly, IsSubscribedTo, IsUpToDate, IsWaiting}
use Rattle.gateway_state.specs.Step.{run, step}
use Rattle.gateway_state.proofs.KeptByRuns.{kept_direct_effect, kept_step}
use Rattle.gateway_state.proofs.NumbersApart.{initial_numbers_apart, numbers_apart_kept, numbers_apart_with_links}
use Rattle.gateway_state.proofs.RowsOnChannels.{run_on_channels}
use Rattle.gateway_state.proofs.SettledMeaning.{all_in_use, all_up_to_date, all_waiting}
use Rattle.gateway_state.proofs.SettledSteps.{consequences_settled}
use Rattle.gateway_state.proofs.SettledSubs.{all_kept_posted, subscribed_to_each}
use Rattle.gateway_state.proofs.SubsApart.{subs_apart_kept, subs_apart_with_links}

-- after a step nobody is owed anything
pub step_settled : (w : Gateway) (event : Event) → AreNumbersApart w → HasSubsApart w → IsSettled (step w event)
unfolding step
step_settled w event order apart =
    consequences_settled (direct_effect w event) (kept_direct_effect AreNumbersApart numbers_apart_kept numbers_apart_with_links w event order) (kept_direct_effect HasSubsApart subs_apart_kept subs_apart_with_links w event apart)

run_settled_from : (w : Gateway) (events : List Event) → AreNumbersApart w → HasSubsApart w → IsSettled w → IsSettled (run w events)
unfolding run
run_settled_from w [] order apart settled = settled
run_settled_from w (event ∷ events) order apart settled =
    run_settled_from (step w event) events (kept_step AreNumbersApart numbers_apart_kept numbers_apart_with_links w event order) (kept_step HasSubsApart subs_apart_kept subs_apart_with_links w event apart) (step_settled w event order apart)

pub run_settled : (config : Config) (policy : Policy) (events : List Event) → IsSettled (run (initial config policy) events)
run_settled config policy events =
    run_settled_from (initial config policy) events (initial_numbers_apart config policy) (record {}) (record { channels = refl; held_back = refl; links = refl; reads = refl; updates = refl })

pub run_up_to_date : (config : Config) (policy : Policy) (events : List Event)
    → All (IsUpToDate (run (initial config policy) events)) (run (initial config policy) events).clients.channels
run_up_to_date config policy events = all_up_to_date (run (initial config policy) events) (run_settled config policy events)

pub run_in_use : (config : Config) (policy : Policy) (events : List Event)
    → All (IsInUse (run (initial config policy) events)) (run (initial config policy) events).upstream.links
run_in_use config policy events = all_in_use (run (initial config policy) events) (run_settled config policy events)

pub run_waiting : (config : Config) (policy : Policy) (events : List Event)
    → All (IsWaiting (run (initial config policy) events)) (run (initial config policy) events).clients.reads
run_waiting config policy events =
    all_waiting (run (initial config policy) events) (run_settled config policy events) (run_on_channels config policy events).reads

pub run_subscribed_to : (subject : Subject) (config : Config) (policy : Policy) (events : List Event) → IsSubscribedTo subject (run (initial config policy) events)
run_subscribed_to subject config policy events = subscribed_to_each subject (run (initial config policy) events) (run_settled config policy events)

pub run_subscribed_exactly : (config : Config) (policy : Policy) (events : List Event) → IsSubscribedExactly (run (initial config policy) events)
run_subscribed_exactly config policy events = run_subscribed_to Values config policy events

pub run_kept_posted : (config : Config) (policy : Policy) (events : List Event)
    → All (IsKeptPosted (run (initial config policy) events)) (run (initial config policy) events).clients.subs
run_kept_posted config policy events = all_kept_posted (run (initial config policy) events) (run_settled config policy events)
