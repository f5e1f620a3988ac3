-- What is said to a name server (Channel Access Protocol Specification, "Virtual Circuit").
use Rattle.std.specs.Prelude.{ℕ, List, ◌++◌}
use Rattle.ca_header.specs.Header.{message_text}
use Rattle.ca_message.specs.ToServer.{server_message}
use Rattle.ca_message.specs.declared.to_server.ToServer.TheVariants.{ClientName, Echo, HostName, Version}

-- what comes first
abbrev pub greeting_text : List ℕ → List ℕ → List ℕ
greeting_text user host =
    message_text (server_message Version) ++ message_text (server_message (ClientName user)) ++ message_text (server_message (HostName host))

abbrev pub echo_text : List ℕ
echo_text = message_text (server_message Echo)
