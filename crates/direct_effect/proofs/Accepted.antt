-- A read is accepted on a channel that stands, and so is touched.
use Rattle.std.proofs.Common.{◌≡◌, ℕ, Option, Some, None, refl}
use Rattle.named_rows.specs.declared.channels.Channel.{Channel}
use Rattle.named_rows.specs.declared.channels.Reach.{Reach}
use Rattle.named_rows.specs.declared.reads.WaitingRead.{WaitingRead}
use Rattle.gateway_state.specs.declared.notice.ReadVerdict.TheVariants.{Accepted, NoChannel}
use Rattle.gateway_state.specs.Clients.{read_verdict, verdict_on}
use Rattle.gateway_state.specs.Gateway.{Gateway}
use Rattle.gateway_state.specs.Rights.{channel_of}
use Rattle.touched_rows.specs.Touches.{accepted_touches, with_read, with_touched}

pub accepted_touches_it : (w x : Gateway) (read : WaitingRead) (reach : Reach) (rights : ℕ) → read_verdict w read.session read.sid read.dtype read.count ≡ Accepted reach rights
    → with_touched (accepted_touches read (channel_of w read.session read.sid)) x ≡ with_read read x
accepted_touches_it w x read reach rights accepted = by (channel_of w read.session read.sid) accepted
  where
    refused : NoChannel ≡ Accepted reach rights → with_touched (accepted_touches read None) x ≡ with_read read x
    refused other = absurd cc

    by : (on : Option Channel) → verdict_on w read.dtype read.count on ≡ Accepted reach rights → with_touched (accepted_touches read on) x ≡ with_read read x
    by None other = refused other
    by (Some c) same = refl
