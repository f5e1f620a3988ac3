-- What a writer has taken and written.
use Rattle.std.specs.Prelude.{◌≡◌, ℕ, ◌<◌, ◌⊎◌, min, Bool, List, [], ◌∷◌, ◌++◌, length, Option}
use Rattle.std.specs.Io.KnownBytes.{Appends}
use Rattle.fanout.specs.declared.outbox.Out.{Out}
use Rattle.session_worker.specs.Links.{HasRisen}
use Rattle.session_worker.specs.Writing.{BufferState, IsWritten, most_counted, Progress}
use Rattle.gateway_state.specs.declared.event.Dest.{Dest}
use Rattle.board_rings.specs.Rings.{OutletState}
use Rattle.board_rings.specs.Told.{name_of, TimesTold}
use Rattle.gate_board.specs.declared.gate.Taken.{Taken}
use Rattle.gate_board.specs.declared.gate.Taken.TheVariants as takes
use Rattle.session_worker.specs.declared.writer.OutEnd.{OutEnd}
use Rattle.session_worker.specs.declared.writer.OutEnd.TheVariants.{Closed, WriteFault, GateFailed}

-- the text of a message: the bytes of its header, and then its payload
abbrev pub text_of : Out → List ℕ
text_of out = out.head ++ out.payload

-- the texts of messages, one after the other
abbrev pub texts_of : List Out → List ℕ
texts_of [] = []
texts_of (out ∷ outs) = text_of out ++ texts_of outs

-- what was taken has the message last; without one it is the same
abbrev pub Takes : Taken → List Out → List Out → Type 0
Takes (takes.Item out) taken taken_now = taken_now ≡ taken ++ out ∷ []
Takes takes.Closed taken taken_now = taken_now ≡ taken
Takes takes.Stopped taken taken_now = taken_now ≡ taken

-- what the writer was told with it: nothing beside a message; else that the messages of this connection come to an end,
-- or that nothing is moved any more
abbrev pub IsTold : Dest → Taken → OutletState → OutletState → Type 0
IsTold dest (takes.Item out) old new = (new.stops ≡ old.stops) × (new.ends ≡ old.ends)
IsTold dest takes.Closed old new = (old.ends.times < new.ends.times) × (new.ends.last ≡ name_of dest)
IsTold dest takes.Stopped old new = old.stops < new.stops

-- how far a writer is: the bytes that its link was written, where they are known, how many calls of it
-- have failed, what was taken, and the buffer that gathers its text
pub record Sending : Type 0 where
  pub written : Option (List ℕ)
  pub failed : ℕ
  pub taken : List Out
  pub buffer : BufferState

abbrev pub progress_of : Sending → Progress
progress_of s = record { written = s.written; failed = s.failed; count = s.buffer.count }

-- messages were taken; of what was held and then of their text a first part was written, and the rest is
-- held, unless a call of the link has failed
pub record Sends (fine : Bool) (old new : Sending) : Type 0 where
  pub outs : List Out
  pub taken : new.taken ≡ old.taken ++ outs
  pub text : IsWritten fine (old.buffer.held ++ texts_of outs) new.buffer.held (progress_of old) (progress_of new)

-- what a writer stands on: the bytes that its link was written, where they are known, how many calls of it
-- have failed, what was taken, and what the writer was told of why it has to end
pub record WriterStanding : Type 0 where
  pub written : Option (List ℕ)
  pub failed : ℕ
  pub taken : List Out
  pub stops : ℕ
  pub ends : TimesTold

-- the bytes are the whole text, or at a fault the beginning of it, and so many. At an end the writer was told that the
-- messages of this connection come to one, or that nothing is moved any more
abbrev pub AreText : Dest → OutEnd → List ℕ → List ℕ → WriterStanding → WriterStanding → Type 0
AreText dest Closed bytes text old new = (bytes ≡ text) × ((old.ends.times < new.ends.times) × (new.ends.last ≡ name_of dest))
AreText dest GateFailed bytes text old new = (bytes ≡ text) × (old.stops < new.stops)
AreText dest (WriteFault n) bytes text old new =
    (left : List ℕ) × ((text ≡ bytes ++ left) × ((n ≡ min (length bytes) most_counted) × HasRisen old.failed new.failed))

-- a writer has ended: it has taken these messages, and written these bytes of their text
pub record IsServedOut (dest : Dest) (end : OutEnd) (old new : WriterStanding) : Type 0 where
  pub outs : List Out
  pub bytes : List ℕ
  pub taken : new.taken ≡ old.taken ++ outs
  pub written : Appends old.written new.written bytes
  pub text : AreText dest end bytes (texts_of outs) old new

-- a writer has taken what came and dropped it, until it was told that the messages of this connection come to an end, or
-- that nothing is moved any more
pub record IsDropped (dest : Dest) (old new : OutletState) : Type 0 where
  pub outs : List Out
  pub taken : new.taken ≡ old.taken ++ outs
  pub ring : new.ring ≡ old.ring
  pub told : ((old.ends.times < new.ends.times) × (new.ends.last ≡ name_of dest)) ⊎ (old.stops < new.stops)
