use Rattle.std.proofs.Common.{ap}
use Rattle.pv_name.specs.declared.name.TheConstants.{NAME_LIMIT}
use Rattle.pv_name.specs.declared.host.TheConstants.{HOST_LIMIT}
use Rattle.ca_message.specs.declared.commands.TheConstants.{MINOR_VERSION}
use Rattle.ca_message.specs.declared.request.ClientRequest.TheVariants as requests
use Rattle.ca_message.specs.ClientRequest.{with_text}
use Rattle.ca_message.proofs.ReadBack.{word_read_back}
use Rattle.ca_message.proofs.laws.requests_are_read_back.Goals as goal

pub returns-clause-channel : goal.returns-clause-channel
returns-clause-channel c = λ cid name is_name. ap (with_text (λ x. requests.CreateChannel (record { cid = cid; minor = MINOR_VERSION; name = x }))) (word_read_back NAME_LIMIT name is_name)

pub returns-clause-client : goal.returns-clause-client
returns-clause-client c = λ name is_name. ap (with_text (λ x. requests.ClientName x)) (word_read_back NAME_LIMIT name is_name)

pub returns-clause-host : goal.returns-clause-host
returns-clause-host c = λ name is_host. ap (with_text (λ x. requests.HostName x)) (word_read_back HOST_LIMIT name is_host)
