-- Nothing follows from a write, nor from its end, nor from a request on no channel.
use Rattle.std.proofs.Common.{ℕ, List, true, false, cond, leb, ◌&&◌, Option, Some, None}
use Rattle.ca_header.specs.declared.header.Header.{Header}
use Rattle.ca_message.specs.declared.codes.TheConstants.{ECA_BADCHID, ECA_PUTFAIL}
use Rattle.ca_message.specs.declared.commands.TheConstants.{NO_CHANNEL}
use Rattle.ca_message.specs.declared.to_client.ToClient.TheVariants as replies
use Rattle.ca_message.specs.declared.to_server.ToServer.TheVariants as requests
use Rattle.ca_message.specs.Written.{Written}
use Rattle.link_table.specs.declared.writes.WaitingWrite.{WaitingWrite}
use Rattle.link_table.specs.LinkRows.{Counters, write_count}
use Rattle.gateway_state.specs.declared.event.Dest.TheVariants.{Session as ToSession, Upstream}
use Rattle.gateway_state.specs.declared.notice.WriteVerdict.{WriteVerdict}
use Rattle.gateway_state.specs.declared.notice.WriteVerdict.TheVariants.{NoChannel, Ignored, Refused, Accepted}
use Rattle.gateway_state.specs.Clients.{no_channel, was_given_out}
use Rattle.gateway_state.specs.Gateway.{Gateway}
use Rattle.gateway_state.specs.Settled.{IsSettled}
use Rattle.gateway_state.specs.Telling.{outgoing, outgoing_upstream, told}
use Rattle.gateway_state.specs.Updates.{update_notice}
use Rattle.gateway_state.specs.Writing.{new_write, notified_by, with_write, without_write, write_answered, write_ended_for, write_handed_on, write_waits, written_by}
use Rattle.touched_rows.proofs.Nothing.{settled_sent}

-- waiting writes, and the next numbers, matter to nobody else
abbrev with_writes : List WaitingWrite → Counters → Gateway → Gateway
with_writes writes counters w = record w { upstream = record w.upstream { writes = writes; counters = counters } }

settled_writes : (writes : List WaitingWrite) (counters : Counters) (w : Gateway) → IsSettled w → IsSettled (with_writes writes counters w)
unfolding update_notice
settled_writes writes counters w settled = record {
  channels = settled.channels;
  held_back = settled.held_back;
  links = settled.links;
  reads = settled.reads;
  updates = settled.updates;
}

module _ (w : Gateway) (settled : IsSettled w) where
  pub settled_no_channel : (number : ℕ) (head : Header) → IsSettled (no_channel w number head)
  settled_no_channel number head =
      elim (w.limits.passes_over_gone && was_given_out w head.p1) as (λ t. IsSettled (cond t w (told number (replies.Error NO_CHANNEL ECA_BADCHID head) w)))
      [ true ↦ settled | false ↦ settled_sent (ToSession number) (outgoing (replies.Error NO_CHANNEL ECA_BADCHID head)) w settled ]

  pub settled_written : (number : ℕ) (head : Header) (verdict : WriteVerdict) → IsSettled (written_by number head verdict w)
  settled_written number head NoChannel = settled_no_channel number head
  settled_written number head Ignored = settled
  settled_written number head (Refused cid code) = settled_sent (ToSession number) (outgoing (replies.Error cid code head)) w settled
  settled_written number head (Accepted server sid value) = settled_sent (Upstream server) (outgoing_upstream (requests.Write sid value)) w settled

  settled_handed_on : (number sid ioid dtype count server upstream_sid : ℕ) (value : Written) → IsSettled (write_handed_on number sid ioid dtype count server upstream_sid value w)
  settled_handed_on number sid ioid dtype count server upstream_sid value =
      let write : WaitingWrite = new_write w server number sid dtype count ioid in
      let handed : Gateway = write_waits write upstream_sid value w in
      elim (leb w.limits.writes (write_count number w.upstream)) as (λ t. IsSettled (cond t (write_answered number ioid dtype count ECA_PUTFAIL w) handed)) [
        | true ↦ settled_sent (ToSession number) (outgoing (replies.WriteNotify ioid dtype count ECA_PUTFAIL)) w settled
        | false ↦
            settled_sent (Upstream server) (outgoing_upstream (requests.WriteNotify upstream_sid write.id value)) (with_write write w)
            (settled_writes (with_write write w).upstream.writes (with_write write w).upstream.counters w settled)
      ]

  pub settled_notified : (number sid ioid dtype count : ℕ) (head : Header) (verdict : WriteVerdict) → IsSettled (notified_by number sid ioid dtype count head verdict w)
  settled_notified number sid ioid dtype count head NoChannel = settled_no_channel number head
  settled_notified number sid ioid dtype count head Ignored = settled
  settled_notified number sid ioid dtype count head (Refused cid code) = settled_sent (ToSession number) (outgoing (replies.WriteNotify ioid dtype count code)) w settled
  settled_notified number sid ioid dtype count head (Accepted server upstream_sid value) = settled_handed_on number sid ioid dtype count server upstream_sid value

  pub settled_ended : (server id status : ℕ) (found : Option WaitingWrite) → IsSettled (write_ended_for server id status found w)
  settled_ended server id status None = settled
  settled_ended server id status (Some write) =
      settled_sent (ToSession write.session) (outgoing (replies.WriteNotify write.ioid write.dtype write.count status)) (without_write server id w)
      (settled_writes (without_write server id w).upstream.writes w.upstream.counters w settled)
