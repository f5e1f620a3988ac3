-- How many rows of clients are looked at for a server's message, and as time passes.
use Rattle.std.specs.Prelude.{ℕ, ◌==◌, filter, map, if◌then◌else◌, Result, Ok, Option, Some, None}
use Rattle.std.specs.List.{find}
use Rattle.ca_message.specs.declared.codes.TheConstants.{ECA_NORMAL}
use Rattle.ca_message.specs.declared.reply.ServerReply.{ServerReply}
use Rattle.ca_message.specs.declared.reply.ServerReply.TheVariants as says
use Rattle.ca_message.specs.declared.reply.ReplyFault.{ReplyFault}
use Rattle.gateway_rows.specs.Own.{reads_on}
use Rattle.gateway_state.specs.Aged.{are_properties_overdue}
use Rattle.gateway_state.specs.Gateway.{Gateway}
use Rattle.gateway_state.specs.Quantities.{Code}
use Rattle.link_table.specs.declared.links.LinkRow.{LinkRow}
use Rattle.link_table.specs.Links.{has_subscription}
use Rattle.direct_effect.specs.Overdue.{looks_at, overdue_of}

-- where a server can't tell a subject, the reads that wait for the variable are looked at
abbrev pub failing_looks : Gateway → Code → Option LinkRow → ℕ
failing_looks w status None = 0
failing_looks w status (Some link) = if status == ECA_NORMAL then 0 else reads_on w link.name

-- nothing else that a server says looks at clients by itself
abbrev pub reply_looks : Gateway → ℕ → Result ServerReply ReplyFault → Option ℕ
reply_looks w server (Ok (says.EventAdd id status dtype count value)) = Some (failing_looks w status (find (has_subscription server id) w.upstream.links))
reply_looks w server reply = Some 0

-- the reads that wait for variables whose properties are overdue are looked at as time passes
abbrev pub age_looks : Gateway → ℕ
age_looks w = looks_at w (map overdue_of (filter (are_properties_overdue w) w.upstream.links))
