-- What a client's message means (Channel Access Protocol Specification, "Commands").
use Rattle.std.specs.Prelude.{ℕ, List, length, ◌==◌, nat_lt, if◌then◌else◌, Result, Ok, Err}
use Rattle.ca_header.specs.Reading.{number_at}
use Rattle.ca_header.specs.declared.header.Header.{Header}
use Rattle.ca_message.specs.Text.{name_in, host_in}
use Rattle.ca_message.specs.declared.commands.TheConstants.{CA_PROTO_VERSION, CA_PROTO_EVENT_ADD, CA_PROTO_EVENT_CANCEL, CA_PROTO_EVENTS_OFF, CA_PROTO_EVENTS_ON, CA_PROTO_CLEAR_CHANNEL, CA_PROTO_READ_NOTIFY, CA_PROTO_CREATE_CHAN, CA_PROTO_CLIENT_NAME, CA_PROTO_HOST_NAME, CA_PROTO_ECHO, CA_PROTO_WRITE, CA_PROTO_WRITE_NOTIFY}
use Rattle.ca_message.specs.declared.payload.TheConstants.{EVENT_MASK_OFFSET, EVENT_PAYLOAD_LEN}
use Rattle.ca_message.specs.declared.request.ClientRequest.{ClientRequest}
use Rattle.ca_message.specs.declared.request.ClientRequest.TheVariants as requests
use Rattle.ca_message.specs.declared.request.RequestFault.{RequestFault}
use Rattle.ca_message.specs.declared.request.RequestFault.TheVariants.{Short, Unknown}

-- a request with the text that was read, or why none was
abbrev pub with_text : (List ℕ → ClientRequest) → Result (List ℕ) RequestFault → Result ClientRequest RequestFault
with_text request (Ok text) = Ok (request text)
with_text request (Err fault) = Err fault

-- the subscription that an EVENT_ADD asks for; of its payload only the mask is read
abbrev pub event_add_of : Header → List ℕ → Result ClientRequest RequestFault
event_add_of head payload =
    if nat_lt (length payload) EVENT_PAYLOAD_LEN then Err Short
    else Ok (requests.EventAdd (record {
      sid = head.p1;
      id = head.p2;
      dtype = head.dtype;
      count = head.count;
      mask = number_at 2 EVENT_MASK_OFFSET payload;
    }))

-- the value that a WRITE and a WRITE_NOTIFY write is the payload
abbrev pub write_of : Header → List ℕ → ClientRequest
write_of head payload =
    requests.Write (record { sid = head.p1; dtype = head.dtype; count = head.count; value = payload })

abbrev pub write_notify_of : Header → List ℕ → ClientRequest
write_notify_of head payload = requests.WriteNotify (record {
  sid = head.p1;
  ioid = head.p2;
  dtype = head.dtype;
  count = head.count;
  value = payload;
})

abbrev pub event_cancel_of : Header → ClientRequest
event_cancel_of head =
    requests.EventCancel (record { sid = head.p1; id = head.p2; dtype = head.dtype; count = head.count })

abbrev pub read_notify_of : Header → ClientRequest
read_notify_of head =
    requests.ReadNotify (record { sid = head.p1; ioid = head.p2; dtype = head.dtype; count = head.count })

abbrev pub create_channel_of : Header → List ℕ → ClientRequest
create_channel_of head name =
    requests.CreateChannel (record { cid = head.p1; minor = head.p2; name = name })

-- the request that a client's message is, by its command, or why it is none
abbrev pub request_of : Header → List ℕ → Result ClientRequest RequestFault
request_of head payload =
    if head.command == CA_PROTO_VERSION then Ok (requests.Version head.count)
    else if head.command == CA_PROTO_EVENT_ADD then event_add_of head payload
    else if head.command == CA_PROTO_EVENT_CANCEL then Ok (event_cancel_of head)
    else if head.command == CA_PROTO_WRITE then Ok (write_of head payload)
    else if head.command == CA_PROTO_EVENTS_OFF then Ok requests.EventsOff
    else if head.command == CA_PROTO_EVENTS_ON then Ok requests.EventsOn
    else if head.command == CA_PROTO_CLEAR_CHANNEL then Ok (requests.ClearChannel (record { sid = head.p1; cid = head.p2 }))
    else if head.command == CA_PROTO_READ_NOTIFY then Ok (read_notify_of head)
    else if head.command == CA_PROTO_CREATE_CHAN then with_text (create_channel_of head) (name_in payload)
    else if head.command == CA_PROTO_WRITE_NOTIFY then Ok (write_notify_of head payload)
    else if head.command == CA_PROTO_CLIENT_NAME then with_text requests.ClientName (name_in payload)
    else if head.command == CA_PROTO_HOST_NAME then with_text requests.HostName (host_in payload)
    else if head.command == CA_PROTO_ECHO then Ok requests.Echo
    else Err Unknown
