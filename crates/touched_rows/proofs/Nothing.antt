-- Events that nothing follows from: they leave a settled state settled.
use Rattle.std.proofs.Common.{◌≡◌, ℕ, List, [], ◌∷◌, Bool, true, ◌&&◌, None}
use Rattle.std.specs.Prelude.{filter}
use Rattle.std.specs.List.{fold}
use Rattle.ca_message.specs.declared.codes.TheConstants.{ECA_GETFAIL}
use Rattle.ca_message.specs.declared.to_client.ToClient.TheVariants as replies
use Rattle.named_rows.specs.declared.reads.WaitingRead.{WaitingRead}
use Rattle.named_rows.specs.Reads.{same_read}
use Rattle.fanout.specs.declared.outbox.Out.{Out}
use Rattle.gateway_state.specs.declared.connections.Connection.{Connection}
use Rattle.gateway_state.specs.declared.event.Dest.{Dest}
use Rattle.gateway_state.specs.declared.event.Dest.TheVariants.{Session as ToSession}
use Rattle.gateway_state.specs.Connections.{given, is_to, marked_now, most_for}
use Rattle.rows.specs.Rows.{change_first, remove_first}
use Rattle.gateway_state.specs.Gateway.{Gateway}
use Rattle.gateway_state.specs.Notices.{read_notice, without_read}
use Rattle.gateway_state.specs.Servers.{read_failed, reads_failed, waits_for}
use Rattle.gateway_state.specs.Settled.{IsSettled}
use Rattle.gateway_state.specs.Step.{consequences}
use Rattle.gateway_state.specs.Updates.{update_notice}
use Rattle.gateway_state.specs.Telling.{marked, outgoing, sent}
use Rattle.gateway_state.proofs.SettledMeaning.{none_told}
use Rattle.gateway_state.proofs.SettledSteps.{settled_stays}
use Rattle.touched_rows.proofs.Connections.{HasNoMoreRoom, no_more_room_given, no_more_room_marked, takes}
use Rattle.touched_rows.proofs.Passes.{no_updates}
use Rattle.touched_rows.proofs.Tellings.{less_taking}
use Rattle.touched_rows.proofs.TouchedAlone.{all_without, none_planned}

-- ---- messages and marks

-- outboxes that take no more updates than before
pub settled_taking : (w : Gateway) (connections : List Connection) → IsSettled w
    → ((number : ℕ) → takes w.limits connections number ≡ true → takes w.limits w.connections number ≡ true) → IsSettled (record w { connections = connections })
settled_taking w connections settled room = record {
  channels = settled.channels;
  held_back = settled.held_back;
  links = settled.links;
  reads = settled.reads;
  updates = no_updates w (record w { connections = connections }) (less_taking w connections room) w.clients.subs settled.updates;
}

-- the same whatever the limits
pub settled_connections : (w : Gateway) (connections : List Connection) → IsSettled w → HasNoMoreRoom w.connections connections → IsSettled (record w { connections = connections })
settled_connections w connections settled room = settled_taking w connections settled (room w.limits)

pub settled_sent : (dest : Dest) (out : Out) (w : Gateway) → IsSettled w → IsSettled (sent dest out w)
unfolding sent
settled_sent dest out w settled = settled_connections w (change_first (is_to dest) (given (most_for w.limits dest) out) w.connections) settled (no_more_room_given (most_for w.limits dest) dest out w.connections)

pub settled_marked : (dest : Dest) (w : Gateway) → IsSettled w → IsSettled (marked dest w)
settled_marked dest w settled = settled_connections w (change_first (is_to dest) marked_now w.connections) settled (no_more_room_marked dest w.connections)

-- a reply is all that there is
pub nothing_after_reply : (dest : Dest) (out : Out) (w : Gateway) → IsSettled w → consequences (sent dest out w) ≡ sent dest out w
nothing_after_reply dest out w settled = settled_stays (sent dest out w) (settled_sent dest out w settled)

pub nothing_after_mark : (dest : Dest) (w : Gateway) → IsSettled w → consequences (marked dest w) ≡ marked dest w
nothing_after_mark dest w settled = settled_stays (marked dest w) (settled_marked dest w settled)

-- ---- reads that can't be had

pub settled_read_removed : (read : WaitingRead) (w : Gateway) → IsSettled w → IsSettled (without_read read w)
unfolding update_notice
settled_read_removed read w settled = record {
  channels = settled.channels;
  held_back = settled.held_back;
  links = settled.links;
  reads =
      none_planned (read_notice w) (remove_first (same_read read) w.clients.reads)
      (all_without (λ (x : WaitingRead). read_notice w x ≡ None) (same_read read) w.clients.reads (none_told (read_notice w) w.clients.reads settled.reads));
  updates = settled.updates;
}

settled_read_failed : (read : WaitingRead) (w : Gateway) → IsSettled w → IsSettled (read_failed w read)
settled_read_failed read w settled =
    settled_sent (ToSession read.session) (outgoing (replies.ReadNotifyRefused read.ioid read.dtype read.count ECA_GETFAIL)) (without_read read w) (settled_read_removed read w settled)

pub settled_all_failed : (reads : List WaitingRead) (w : Gateway) → IsSettled w → IsSettled (fold read_failed w reads)
settled_all_failed [] w settled = settled
settled_all_failed (read ∷ reads) w settled = settled_all_failed reads (read_failed w read) (settled_read_failed read w settled)

-- whichever of those that wait for a variable they are
pub nothing_after_failure : (fails : WaitingRead → Bool) (w : Gateway) (name : List ℕ) → IsSettled w → consequences (reads_failed fails w name) ≡ reads_failed fails w name
nothing_after_failure fails w name settled =
    settled_stays (reads_failed fails w name) (settled_all_failed (filter (λ read. waits_for w name read && fails read) w.clients.reads) w settled)
