-- Whom an update concerns.
use Rattle.std.specs.Prelude.{ℕ, List, Bool, false}
use Rattle.named_rows.specs.declared.subs.ClientSub.{ClientSub}
use Rattle.link_table.specs.declared.links.Subject.{Subject}
use Rattle.link_table.specs.declared.links.Subject.TheVariants as subjects
use Rattle.mask_merge.specs.declared.want.TheConstants.{PROPERTY_EVENT}
use Rattle.gateway_state.specs.Gateway.{Gateway}
use Rattle.gateway_state.specs.Quantities.{Cid, Count, Dtype}
use Rattle.gateway_state.specs.Servers.{has_other_alarm}
use Rattle.gateway_state.specs.Updates.{asks_for, is_concerned}
use Rattle.touched_rows.specs.declared.concern.Concern.{Concern}
use Rattle.touched_rows.specs.declared.concern.Concern.TheVariants.{Nobody, Value, Properties}

-- it concerns a subscription: a value by the events that this asks for, properties where it asks for theirs
abbrev pub passes : Concern → ClientSub → Bool
passes Nobody sub = false
passes (Value differs) sub = is_concerned differs sub
passes Properties sub = asks_for PROPERTY_EVENT sub

-- an update of a link that counts: whether its alarm is another is asked of what is held before it
abbrev pub concern_of : Subject → Gateway → Cid → Dtype → Count → List ℕ → Concern
concern_of subjects.Values w cid dtype count payload = Value (has_other_alarm w cid dtype count payload)
concern_of subjects.Properties w cid dtype count payload = Properties
