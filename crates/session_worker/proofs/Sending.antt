-- Messages that are taken and written.
use Rattle.std.proofs.Common.{◌≡◌, ℕ, ◌+◌, ◌<◌, ◌≤◌, min, Bool, true, false, List, [], ◌∷◌, ◌++◌, refl, sym, ap, subst, ◌∙◌, arith}
use Rattle.std.proofs.lemmas.List.{append-nil, append_assoc}
use Rattle.fanout.specs.declared.outbox.Out.{Out}
use Rattle.gateway_state.specs.declared.event.Dest.{Dest}
use Rattle.board_rings.specs.Told.{name_of, TimesTold}
use Rattle.session_worker.specs.Writing.{BufferState, IsWritten, most_counted, Progress}
use Rattle.session_worker.proofs.Writings.{written_both, written_none, written_part}
use Rattle.session_worker.specs.Sending.{IsServedOut, progress_of, Sending, Sends, text_of, texts_of, WriterStanding}
use Rattle.session_worker.specs.declared.writer.OutEnd.TheVariants as ends

-- a message's header went well, and then its payload, or a part of it
pub head_and_payload : (fine : Bool) (out : Out) (held head held_between payload held_now : List ℕ) (old between new : Progress) → head ≡ out.head → payload ≡ out.payload
    → IsWritten true (held ++ head) held_between old between → IsWritten fine (held_between ++ payload) held_now between new → IsWritten fine (held ++ text_of out) held_now old new
head_and_payload fine out held head held_between payload held_now old between new is also a b =
    subst (λ (xs : List ℕ). IsWritten fine (held ++ xs) held_now old new) (ap (λ (xs : List ℕ). head ++ xs) also ∙ ap (λ (xs : List ℕ). xs ++ out.payload) is)
    (subst (λ (xs : List ℕ). IsWritten fine xs held_now old new) (append_assoc held head payload)
    (written_both fine (held ++ head) held_between payload held_now old between new a b))

-- the link failed at a message's header
pub head_part : (out : Out) (held head held_now : List ℕ) (old new : Progress) → head ≡ out.head → IsWritten false (held ++ head) held_now old new
    → IsWritten false (held ++ text_of out) held_now old new
head_part out held head held_now old new is a =
    subst (λ (xs : List ℕ). IsWritten false (held ++ (xs ++ out.payload)) held_now old new) is
    (subst (λ (xs : List ℕ). IsWritten false xs held_now old new) (append_assoc held head out.payload)
    (written_part (held ++ head) out.payload held_now held_now old new a))

texts_append : (outs more : List Out) → texts_of (outs ++ more) ≡ texts_of outs ++ texts_of more
texts_append [] more = refl
texts_append (o ∷ os) more = ap (λ (xs : List ℕ). text_of o ++ xs) (texts_append os more) ∙ sym (append_assoc (text_of o) (texts_of os) (texts_of more))

pub sends_none : (now : Sending) → Sends true now now
sends_none now = record {
  outs = [];
  taken = sym (append-nil now.taken);
  text = written_none (now.buffer.held ++ []) now.buffer.held (progress_of now) (sym (append-nil now.buffer.held));
}

pub sends_more : (fine : Bool) (old between new : Sending) → Sends true old between → Sends fine between new → Sends fine old new
sends_more fine old between new a b = record {
  outs = a.outs ++ b.outs;
  taken = b.taken ∙ ap (λ (xs : List Out). xs ++ b.outs) a.taken ∙ append_assoc old.taken a.outs b.outs;
  text =
      subst (λ (xs : List ℕ). IsWritten fine xs new.buffer.held (progress_of old) (progress_of new))
      (append_assoc old.buffer.held (texts_of a.outs) (texts_of b.outs) ∙ ap (λ (xs : List ℕ). old.buffer.held ++ xs) (sym (texts_append a.outs b.outs)))
      (written_both fine (old.buffer.held ++ texts_of a.outs) between.buffer.held (texts_of b.outs) new.buffer.held (progress_of old) (progress_of between) (progress_of new) a.text b.text);
}

-- one message was taken, and its text put into the buffer
pub sends_one : (fine : Bool) (old new : Sending) (out : Out) → new.taken ≡ old.taken ++ out ∷ []
    → IsWritten fine (old.buffer.held ++ text_of out) new.buffer.held (progress_of old) (progress_of new) → Sends fine old new
sends_one fine old new out taken w = record {
  outs = out ∷ [];
  taken = taken;
  text =
      subst (λ (xs : List ℕ). IsWritten fine (old.buffer.held ++ xs) new.buffer.held (progress_of old) (progress_of new)) (sym (append-nil (text_of out)))
      w;
}

-- none was taken, and what was held is written
pub sends_held : (fine : Bool) (old new : Sending) → new.taken ≡ old.taken → IsWritten fine old.buffer.held new.buffer.held (progress_of old) (progress_of new) → Sends fine old new
sends_held fine old new same w = record {
  outs = [];
  taken = same ∙ sym (append-nil old.taken);
  text = subst (λ (xs : List ℕ). IsWritten fine xs new.buffer.held (progress_of old) (progress_of new)) (sym (append-nil old.buffer.held)) w;
}

-- what a writer stands on, with what it was told
abbrev pub standing_of : Sending → ℕ → TimesTold → WriterStanding
standing_of s stops ends = record { written = s.written; failed = s.failed; taken = s.taken; stops = stops; ends = ends }

-- a writer whose link failed has written the front of the text of what it took
pub served_to_fault : (dest : Dest) (start now : Sending) (stops stops_now : ℕ) (told told_now : TimesTold) → start.buffer ≡ record { held = []; count = 0 } → Sends false start now
    → IsServedOut dest (ends.WriteFault now.buffer.count) (standing_of start stops told) (standing_of now stops_now told_now)
served_to_fault dest start now stops stops_now told told_now fresh s =
    let none = ap (λ (b : BufferState). b.count) fresh in
    record {
      outs = s.outs;
      bytes = s.text.part;
      taken = s.taken;
      written = s.text.written;
      text = (
        s.text.left,
        (
          ap (λ (b : BufferState). b.held ++ texts_of s.outs) (sym fresh) ∙ s.text.parts,
          (s.text.counted (omega (arith, none)) ∙ ap (λ (n : ℕ). min n most_counted) (omega (arith, none)), s.text.so_far),
        ),
      );
    }

-- a writer that got no more has written all
all_written : (start now : Sending) → start.buffer ≡ record { held = []; count = 0 } → (s : Sends true start now) → now.buffer.held ≡ [] → s.text.part ≡ texts_of s.outs
all_written start now fresh s none =
    sym (append-nil s.text.part)
    ∙ ap (λ (xs : List ℕ). s.text.part ++ xs) (sym (s.text.so_far.0 ∙ none))
    ∙ sym s.text.parts
    ∙ ap (λ (b : BufferState). b.held ++ texts_of s.outs) fresh

pub served_to_end : (dest : Dest) (start now : Sending) (taken : List Out) (stops stops_now : ℕ) (told told_now : TimesTold) → start.buffer ≡ record { held = []; count = 0 } → Sends true start now → now.buffer.held ≡ []
    → taken ≡ now.taken → told.times < told_now.times → told_now.last ≡ name_of dest
    → IsServedOut dest ends.Closed (standing_of start stops told) (record { written = now.written; failed = now.failed; taken = taken; stops = stops_now; ends = told_now })
served_to_end dest start now taken stops stops_now told told_now fresh s none same more last =
    record { outs = s.outs; bytes = s.text.part; taken = same ∙ s.taken; written = s.text.written; text = (all_written start now fresh s none, (more, last)) }

pub served_to_stop : (dest : Dest) (start now : Sending) (taken : List Out) (stops stops_now : ℕ) (told told_now : TimesTold) → start.buffer ≡ record { held = []; count = 0 } → Sends true start now → now.buffer.held ≡ []
    → taken ≡ now.taken → stops < stops_now
    → IsServedOut dest ends.GateFailed (standing_of start stops told) (record { written = now.written; failed = now.failed; taken = taken; stops = stops_now; ends = told_now })
served_to_stop dest start now taken stops stops_now told told_now fresh s none same more =
    record { outs = s.outs; bytes = s.text.part; taken = same ∙ s.taken; written = s.text.written; text = (all_written start now fresh s none, more) }
