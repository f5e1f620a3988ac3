-- What the readers of a variable want together.
use Rattle.std.specs.Prelude.{ℕ, List, ◌++◌, Bool, true, false, ◌==◌, ◌&&◌, nat_lt, nat_le, map, filter, if◌then◌else◌, Option, Some, None, option_map}
use Rattle.named_rows.specs.declared.channels.Channel.{Channel}
use Rattle.named_rows.specs.declared.subs.ClientSub.{ClientSub}
use Rattle.named_rows.specs.Demand.{own_ask, reach_ask}
use Rattle.link_table.specs.declared.links.LinkRow.{LinkRow}
use Rattle.link_table.specs.declared.links.LinkState.{LinkState}
use Rattle.link_table.specs.declared.links.LinkState.TheVariants.{Creating, Connected, Unusable}
use Rattle.link_table.specs.declared.servers.Server.{Server}
use Rattle.link_table.specs.declared.links.Subject.{Subject}
use Rattle.link_table.specs.declared.links.Subject.TheVariants.{Values, Properties}
use Rattle.link_table.specs.declared.links.Subscription.{Subscription}
use Rattle.link_table.specs.Links.{sub_at}
use Rattle.link_table.specs.Servers.{is_server}
use Rattle.std.specs.List.{find, list_any}
use Rattle.mask_merge.specs.declared.want.Ask.{Ask}
use Rattle.mask_merge.specs.declared.want.Want.{Want}
use Rattle.mask_merge.specs.declared.want.TheConstants.{PROPERTY_EVENT}
use Rattle.mask_merge.specs.Counts.{as_native, asks_props, want_asked}
use Rattle.dbr_layout.specs.Needs.{is_state_by}
use Rattle.mask_merge.specs.Merged.{merged}
use Rattle.gateway_state.specs.declared.interest.Sub.{Sub}
use Rattle.gateway_state.specs.declared.limits.TheConstants.{UPDATE_MINOR}
use Rattle.gateway_state.specs.Gateway.{Gateway}
use Rattle.gateway_state.specs.Quantities.{Count, Minor}
use Rattle.gateway_state.specs.Rights.{channel_of, rights_of, may_read}
use Rattle.named_rows.specs.Channels.{is_on}
use Rattle.gateway_state.specs.Variables.{link_of}

-- a channel on the variable that had a read accepted, and that may still read, is a reader of it
abbrev pub is_reader : Gateway → List ℕ → Channel → Bool
is_reader w name c = is_on name c && nat_lt 0 c.reach.count && may_read (rights_of w c)

-- what the accepted reads on a channel ask for
abbrev pub reader_ask : Channel → Ask
reader_ask c = reach_ask c.reach

abbrev pub is_read_through : Gateway → List ℕ → Option Channel → Bool
is_read_through w name None = false
is_read_through w name (Some c) = is_on name c && may_read (rights_of w c)

-- a subscription to the variable whose channel may read is a reader of it
abbrev pub is_subscriber : Gateway → List ℕ → ClientSub → Bool
is_subscriber w name sub = is_read_through w name (channel_of w sub.session sub.sid)

-- what each reader of a variable asks for, a count of 0 left as it is
abbrev pub readers : Gateway → List ℕ → List Ask
readers w name =
    map own_ask (filter (is_subscriber w name) w.clients.subs)
    ++ map reader_ask (filter (is_reader w name) w.clients.channels)

-- what is asked of a server that is to tell a variable's properties
abbrev pub property_want : Want
property_want = record { mask = PROPERTY_EVENT; count = 1 }

-- one of these asks for the properties of a variable of this native type: for their event, or for a type that
-- needs them
abbrev pub ask_props : ℕ → List Ask → Bool
ask_props dtype asks = list_any (λ ask. asks_props (is_state_by dtype) (Some ask)) asks

-- what those who ask this of a variable of a native type and count want a server to tell of a subject: of
-- values what they want together, where a count of 0 stands for the native one; properties where one asks for them
abbrev pub wanted_by : Subject → ℕ → ℕ → List Ask → Option Want
wanted_by Values dtype native asks = merged (map (as_native native) (map want_asked asks))
wanted_by Properties dtype native asks = if ask_props dtype asks then Some property_want else None

-- what the readers of a variable of this native type and count want of a subject
abbrev pub wanted_for : Subject → Gateway → List ℕ → ℕ → ℕ → Option Want
wanted_for subject w name dtype native = wanted_by subject dtype native (readers w name)

-- what the readers of a variable with this native count want of its values together; no native type counts
abbrev pub interest_of : Gateway → List ℕ → ℕ → Option Want
interest_of w name native = wanted_by Values 0 native (readers w name)

-- the subscription is for this
abbrev pub is_for : Option Want → Option Subscription → Bool
is_for None None = true
is_for (Some want) (Some sub) = sub.mask == want.mask && sub.count == want.count
is_for None (Some sub) = false
is_for (Some want) None = false

abbrev pub minor_in : Option Server → ℕ
minor_in None = 0
minor_in (Some row) = row.minor

-- the minor version that a server said
abbrev pub minor_of : Gateway → ℕ → ℕ
minor_of w number = minor_in (find (is_server number) w.upstream.servers)

-- the count as it is sent to a server: 0 stands for the native count, where the server knows that
abbrev pub sent_count : Minor → Count → Count → Count
sent_count minor native count = if count == native && nat_le UPDATE_MINOR minor then 0 else count

-- the count as it is sent for a subject: of properties always the one that is wanted
abbrev pub sent_for : Subject → Minor → Count → Count → Count
sent_for Values minor native count = sent_count minor native count
sent_for Properties minor native count = count

-- a link's subscription for a subject, while it is connected
abbrev pub present : Subject → LinkRow → LinkState → Option Subscription
present subject link Creating = None
present subject link (Connected sid dtype count) = sub_at subject link.subscriptions
present subject link Unusable = None

abbrev pub subscription_in : Subject → Option LinkRow → Option Subscription
subscription_in subject None = None
subscription_in subject (Some link) = present subject link link.state

abbrev pub sub_in : Option Subscription → Option Sub
sub_in None = None
sub_in (Some subscription) =
    Some (record { id = subscription.id; mask = subscription.mask; count = subscription.count })

-- the present subscription of a variable for a subject
abbrev pub subscription_to : Subject → Gateway → List ℕ → Option Sub
subscription_to subject w name = sub_in (subscription_in subject (link_of w name))

-- the present subscription to a variable's values
abbrev pub subscription_of : Gateway → List ℕ → Option Sub
subscription_of w name = subscription_to Values w name

-- the ID of the present subscription to a variable's properties
abbrev pub property_subscription_of : Gateway → List ℕ → Option ℕ
property_subscription_of w name = option_map (λ sub. sub.id) (subscription_to Properties w name)
