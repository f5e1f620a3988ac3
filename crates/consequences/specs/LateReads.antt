-- What a client is told of a read that isn't kept.
use Rattle.ca_message.specs.declared.to_client.ToClient.TheVariants as replies
use Rattle.gateway_state.specs.declared.notice.ReadNotice.{ReadNotice}
use Rattle.gateway_state.specs.declared.notice.ReadNotice.TheVariants.{Refused, Answered}
use Rattle.gateway_state.specs.Gateway.{Gateway}
use Rattle.gateway_state.specs.Telling.{told}

abbrev pub read_said : ReadNotice → Gateway → Gateway
read_said (Refused read code) w = told read.session (replies.ReadNotifyRefused read.ioid read.dtype read.count code) w
read_said (Answered read count value) w = told read.session (replies.ReadNotify read.ioid read.dtype count value) w
