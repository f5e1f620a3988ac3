-- Worked histories: what the definitions make of them.
use Rattle.std.proofs.Common.{◌≡◌, ◌+◌, List, [], ◌∷◌, ◌++◌, true, false, refl}
use Rattle.ca_header.specs.declared.header.Message.{Message}
use Rattle.gateway_state.specs.Gateway.{Gateway}
use Rattle.gateway_state.specs.Step.{step, taken}
use Rattle.gateway_state.specs.declared.event.Dest.{Dest}
use Rattle.gateway_state.specs.declared.event.Dest.TheVariants.{Session, Upstream}
use Rattle.gateway_state.specs.declared.event.Event.TheVariants as events
use Rattle.board_rings.specs.declared.inbound.Inbound.TheVariants.{Message as ItemMessage, Gone}
use Rattle.board_rings.specs.History.{events_of, is_attached_in, may_follow_all, pushed_in, received_in}
use Rattle.board_rings.specs.declared.entry.Entry.{Entry}
use Rattle.board_rings.specs.declared.entry.TheConstants.{MOST_SENT}
use Rattle.board_rings.specs.declared.entry.Entry.TheVariants.{Pumped, Desked, Sent, Attached, Retired}

abbrev client : Dest
client = Session 1

-- a server's connection of the same number
abbrev server : Dest
server = Upstream 1

-- ATTACHED

attached_once : is_attached_in (Attached client ∷ []) client ≡ true
attached_once = refl

attached_alone : is_attached_in (Attached client ∷ []) server ≡ false
attached_alone = refl

retired_is_off : is_attached_in (Attached client ∷ Attached server ∷ Retired client ∷ []) client ≡ false
retired_is_off = refl

others_stay_on : is_attached_in (Attached client ∷ Attached server ∷ Retired client ∷ []) server ≡ true
others_stay_on = refl

-- RECEIVED

-- a client that came back
abbrev again : List Entry
again = Attached client ∷ Pumped client Gone ∷ Retired client ∷ Attached client ∷ []

back_is_on : is_attached_in again client ≡ true
back_is_on = refl

back_received_none : received_in again client ≡ []
back_received_none = refl

back_fits : may_follow_all [] again ≡ true
back_fits = refl

received_in_order : (m n : Message)
    → received_in (Attached client ∷ Pumped client (ItemMessage m) ∷ Attached server ∷ Pumped server (ItemMessage n) ∷ Pumped client Gone ∷ []) client
    ≡ ItemMessage m ∷ Gone ∷ []
received_in_order m n = refl

received_apart : (m n : Message)
    → received_in (Attached client ∷ Pumped client (ItemMessage m) ∷ Attached server ∷ Pumped server (ItemMessage n) ∷ Pumped client Gone ∷ []) server
    ≡ ItemMessage n ∷ []
received_apart m n = refl

-- PUSHED

pushed_in_order : (w : Gateway)
    → pushed_in w (Attached client ∷ Sent client 2 ∷ Attached server ∷ Sent server 5 ∷ Sent client 3 ∷ []) client
    ≡ taken w (events.Drain client 2) client
    ++ [] ++ taken (step (step w (events.Drain client 2)) (events.Drain server 5)) (events.Drain client 3) client
pushed_in_order w = refl

back_was_pushed_none : (w : Gateway) → pushed_in w (Attached client ∷ Sent client 2 ∷ Retired client ∷ Attached client ∷ []) client ≡ []
back_was_pushed_none w = refl

-- EVENTS

events_in_order : (m n : Message)
    → events_of (Attached client ∷ Pumped client (ItemMessage m) ∷ Desked events.Sweep ∷ Attached server ∷ Pumped server (ItemMessage n) ∷ Sent client 8
    ∷ Pumped server Gone ∷ Pumped client Gone ∷ Retired client ∷ [])
    ≡ events.Client 1 m ∷ events.Sweep ∷ events.Server 1 n ∷ events.Drain client 8 ∷ events.UpLost 1 ∷ events.Lost 1 ∷ []
events_in_order m n = refl

-- WHICH MAY FOLLOW

none_before_attached : may_follow_all [] (Pumped client Gone ∷ Attached client ∷ []) ≡ false
none_before_attached = refl

none_after_retired : may_follow_all [] (Attached client ∷ Retired client ∷ Pumped client Gone ∷ []) ≡ false
none_after_retired = refl

not_twice : may_follow_all [] (Attached client ∷ Attached client ∷ []) ≡ false
not_twice = refl

none_to_retire : may_follow_all [] (Attached server ∷ Retired client ∷ []) ≡ false
none_to_retire = refl

none_sent_elsewhere : may_follow_all [] (Attached server ∷ Sent client 1 ∷ []) ≡ false
none_sent_elsewhere = refl

not_none_sent : may_follow_all [] (Attached client ∷ Sent client 0 ∷ []) ≡ false
not_none_sent = refl

most_are_sent : may_follow_all [] (Attached client ∷ Sent client 1 ∷ Sent client MOST_SENT ∷ []) ≡ true
most_are_sent = refl

no_more_are_sent : may_follow_all [] (Attached client ∷ Sent client (MOST_SENT + 1) ∷ []) ≡ false
no_more_are_sent = refl

desk_takes : may_follow_all [] (Desked (events.UpOpened 1) ∷ Desked events.Sweep ∷ Desked (events.Lost 1) ∷ []) ≡ true
desk_takes = refl

desk_takes_no_messages : (m : Message) → may_follow_all [] (Desked (events.Client 1 m) ∷ []) ≡ false
desk_takes_no_messages m = refl

desk_takes_no_messages_of_servers : (m : Message) → may_follow_all [] (Desked (events.Server 1 m) ∷ []) ≡ false
desk_takes_no_messages_of_servers m = refl

desk_takes_no_drains : may_follow_all [] (Attached client ∷ Desked (events.Drain client 1) ∷ []) ≡ false
desk_takes_no_drains = refl
