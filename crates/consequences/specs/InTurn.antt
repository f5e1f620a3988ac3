-- Updates that are told one by one, and where a variable's value is.
use Rattle.std.specs.Prelude.{Bool, false, not, ◌&&◌, if◌then◌else◌, Option, Some, None}
use Rattle.ca_message.specs.declared.to_client.ToClient.TheVariants as replies
use Rattle.named_rows.specs.declared.subs.ClientSub.{ClientSub}
use Rattle.gateway_state.specs.declared.notice.UpdateNotice.{UpdateNotice}
use Rattle.gateway_state.specs.Gateway.{Gateway}
use Rattle.gateway_state.specs.Settled.{HasSubsApart}
use Rattle.gateway_state.specs.Telling.{told}
use Rattle.gateway_state.specs.Updates.{owed_to, update_notice, with_owed_of}
use Rattle.gateway_state.specs.Variables.{ConnectedVariable}
use Rattle.consequences.specs.declared.source.ValueSource.{ValueSource}
use Rattle.touched_rows.specs.declared.concern.Concern.{Concern}
use Rattle.touched_rows.specs.declared.concern.Concern.TheVariants.{Nobody, Value, Properties}
use Rattle.touched_rows.specs.Touched.{one_update_told, owed_where}

-- what is due to a subscription is worked out when its turn comes
abbrev pub told_in_turn : Gateway → ClientSub → Gateway
told_in_turn w sub = one_update_told sub w

-- nowhere where there is no link, or none that is connected
abbrev pub source_over : Option ConnectedVariable → Option ValueSource
source_over None = None
source_over (Some v) = Some (record { cid = v.link.cid; native = v.native.count })

-- ONCE AN UPDATE CAME

-- nothing is owed any more to a subscription that is told: its row changes only where something was
abbrev pub owed_no_more : ClientSub → Gateway → Gateway
owed_no_more sub w = if sub.owed then with_owed_of sub.session sub.id false w else w

-- one that has to wait is owed the update: its row changes only where nothing was owed before
abbrev pub owed_from_now : ClientSub → ClientSub → Gateway → Gateway
owed_from_now sub due w = if due.owed && not sub.owed then owed_to w sub else w

-- a subscription, by its row as it was and as the update makes it
abbrev pub told_once_by : ClientSub → ClientSub → Option UpdateNotice → Gateway → Gateway
told_once_by sub due None w = owed_from_now sub due w
told_once_by sub due (Some notice) w =
    told notice.session (replies.Update notice.id notice.dtype notice.count notice.payload) (owed_no_more sub w)

-- a subscription is told an update that concerns those who pass, or is owed it where it can't be told now
unfoldable pub told_once : (ClientSub → Bool) → Gateway → ClientSub → Gateway
told_once passes w sub = told_once_by sub (owed_where passes sub) (update_notice w (owed_where passes sub)) w

-- whoever is owed an update is found by its session and ID: there is none where no update came
abbrev pub AreFoundBy : Concern → Gateway → Type 0
AreFoundBy Nobody w = Unit {0}
AreFoundBy (Value differs) w = HasSubsApart w
AreFoundBy Properties w = HasSubsApart w
