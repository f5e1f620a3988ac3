-- What the laws of the wire forms say.
use Rattle.std.specs.Prelude.{◌≡◌, Ok}
use Rattle.ca_message.specs.ClientRequest.{request_of}
use Rattle.ca_message.specs.ServerReply.{reply_of}
use Rattle.ca_message.specs.ToClient.{client_head, client_payload}
use Rattle.ca_message.specs.ToServer.{server_head, server_payload}
use Rattle.ca_message.specs.declared.request.ClientRequest.{ClientRequest}
use Rattle.ca_message.specs.declared.reply.ServerReply.{ServerReply}
use Rattle.ca_message.specs.declared.to_client.ToClient.{ToClient}
use Rattle.ca_message.specs.declared.to_server.ToServer.{ToServer}

-- the message to a server is read as the request
abbrev pub asks : ToServer → ClientRequest → Type 0
asks m request = request_of (server_head m) (server_payload m) ≡ Ok request

-- the message to a client is read as the reply
abbrev pub says : ToClient → ServerReply → Type 0
says m reply = reply_of (client_head m) (client_payload m) ≡ Ok reply
