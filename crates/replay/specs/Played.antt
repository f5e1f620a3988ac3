-- What connections do in a replay.
use Rattle.std.specs.Prelude.{List, ◌++◌, ℕ}
use Rattle.ca_header.specs.declared.header.Message.{Message}
use Rattle.fanout.specs.declared.outbox.Out.{Out}
use Rattle.gateway_state.specs.declared.event.Dest.{Dest}
use Rattle.gateway_state.specs.declared.event.Dest.TheVariants.{Session, Upstream}
use Rattle.gateway_state.specs.declared.event.Event.{Event}
use Rattle.gateway_state.specs.declared.event.Event.TheVariants.{Lost, Client, UpLost, Server}
use Rattle.replay_text.specs.Output.{message_line}

-- the event that a connection's message is: a client's is a client's, a server's is a server's
abbrev pub said : Dest → Message → Event
said (Session number) message = Client number message
said (Upstream number) message = Server number message

-- the event that a connection's loss is
abbrev pub loss : Dest → Event
loss (Session number) = Lost number
loss (Upstream number) = UpLost number

-- the line of a message that is taken from a connection's outbox
abbrev pub out_line : Dest → Out → List ℕ
out_line dest out = message_line dest (out.head ++ out.payload)
