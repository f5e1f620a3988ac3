-- Pieces that are read, and messages that are taken of them.
use Rattle.std.proofs.Common.{◌≡◌, ℕ, zero, suc, ◌<◌, ◌≤◌, List, [], ◌∷◌, ◌++◌, length, Option, Some, None, Ok, refl, sym, ap, subst, ◌∙◌, arith}
use Rattle.std.specs.Io.KnownBytes.{Consumes, IsAtEnd, Keeps}
use Rattle.std.proofs.lemmas.List.{append-nil, append_assoc, map-append}
use Rattle.std.proofs.Math.Seq.{drop-append_seam}
use Rattle.ca_header.specs.Reading.{after_first, first_message, front_at, header_at}
use Rattle.ca_header.specs.Spelling.{AreSpelled, IsBytes}
use Rattle.ca_header.specs.declared.header.Header.{Header}
use Rattle.ca_header.specs.declared.header.Message.{Message}
use Rattle.ca_header.specs.Intake.{IsTake}
use Rattle.ca_header.specs.declared.reading.Front.{Front}
use Rattle.ca_header.specs.declared.reading.Front.TheVariants as fronts
use Rattle.ca_header.proofs.Fields.{IsBytes-drop}
use Rattle.ca_header.proofs.Fronts.{faulty-front_at, partial-front_at}
use Rattle.ca_header.proofs.Messages.{cut-front_at}
use Rattle.session_worker.specs.Links.{HasRisen}
use Rattle.session_worker.specs.Serving.{AreOf, as_items, GoesOn, Hears, IsServedIn, IsWhy, last_item, Offers, Standing, Stops}
use Rattle.session_worker.specs.declared.reader.InEnd.{InEnd}
use Rattle.session_worker.specs.declared.reader.InEnd.TheVariants as ends
use Rattle.board_rings.specs.declared.inbound.Inbound.{Inbound}
use Rattle.board_rings.specs.declared.inbound.Inbound.TheVariants as inbound

-- MESSAGES THAT ARE TAKEN

-- messages are spelled behind others
spelled_both : (messages others : List Message) (whole more : List ℕ) → AreSpelled messages whole → AreSpelled others more → AreSpelled (messages ++ others) (whole ++ more)
spelled_both [] others whole more is next = subst (λ (xs : List ℕ). AreSpelled others (xs ++ more)) (sym is) next
spelled_both (m ∷ ms) others whole more (first_text, rest, one, left, parts) next =
    (first_text, rest ++ more, one, spelled_both ms others rest more left next, ap (λ (xs : List ℕ). xs ++ more) parts ∙ append_assoc first_text rest more)

-- what is left of bytes are bytes
left_fits : (whole left : List ℕ) → IsBytes (whole ++ left) → IsBytes left
left_fits whole left fits = subst IsBytes (drop-append_seam whole left) (IsBytes-drop (length whole) (whole ++ left) fits)

pub offers_none : (held : List ℕ) (offered : List Inbound) → Offers held held offered offered
offers_none held offered = record { messages = []; whole = []; spelled = refl; parts = refl; told = sym (append-nil offered) }

-- a message that was found at the front was offered
offers_one : (base held : List ℕ) (start offered offered_now : List Inbound) (h : Header) (n : ℕ) → IsBytes held → Offers base held start offered → front_at held ≡ fronts.Whole h n
    → offered_now ≡ offered ++ inbound.Message (first_message h n held) ∷ [] → Offers base (after_first h n held) start offered_now
offers_one base held start offered offered_now h n fits so_far found told =
    let cut = cut-front_at held h n fits found in
    record {
      messages = so_far.messages ++ first_message h n held ∷ [];
      whole = so_far.whole ++ cut.text;
      spelled = spelled_both so_far.messages (first_message h n held ∷ []) so_far.whole cut.text so_far.spelled (cut.text, [], cut.spelled, refl, sym (append-nil cut.text));
      parts = so_far.parts ∙ ap (λ (xs : List ℕ). so_far.whole ++ xs) cut.parts ∙ sym (append_assoc so_far.whole cut.text (after_first h n held));
      told =
          told
          ∙ ap (λ (xs : List Inbound). xs ++ inbound.Message (first_message h n held) ∷ []) so_far.told
          ∙ append_assoc start (as_items so_far.messages) (inbound.Message (first_message h n held) ∷ [])
          ∙ ap (λ (xs : List Inbound). start ++ xs) (sym (map-append inbound.Message so_far.messages (first_message h n held ∷ [])));
    }

after_fits : (held : List ℕ) (h : Header) (n : ℕ) → IsBytes held → front_at held ≡ fronts.Whole h n → IsBytes (after_first h n held)
after_fits held h n fits found =
    let cut = cut-front_at held h n fits found in
    left_fits cut.text (after_first h n held) (subst IsBytes cut.parts fits)

pub record IsOneMore (base left : List ℕ) (start offered_now : List Inbound) : Type 0 where
  pub offers : Offers base left start offered_now
  pub fits : IsBytes left

taken_by : (base held left : List ℕ) (start offered offered_now : List Inbound) (m : Message) (found : Front) → IsBytes held → Offers base held start offered → front_at held ≡ found
    → IsTake held found (Ok (Some m)) left → offered_now ≡ offered ++ inbound.Message m ∷ [] → IsOneMore base left start offered_now
taken_by base held left start offered offered_now m (fronts.Whole h n) fits so_far found take told =
    record {
      offers =
          subst (λ (xs : List ℕ). Offers base xs start offered_now) (sym take.1)
          (offers_one base held start offered offered_now h n fits so_far found (told ∙ ap (λ (x : Message). offered ++ inbound.Message x ∷ []) take.0));
      fits = subst IsBytes (sym take.1) (after_fits held h n fits found);
    }
taken_by base held left start offered offered_now m fronts.Partial fits so_far found take told = absurd take
taken_by base held left start offered offered_now m (fronts.Fault f) fits so_far found take told = absurd take

-- a message that was taken off the front was offered
pub taken_is_offered : (base held left : List ℕ) (start offered offered_now : List Inbound) (m : Message) → IsBytes held → Offers base held start offered
    → IsTake held (front_at held) (Ok (Some m)) left → offered_now ≡ offered ++ inbound.Message m ∷ [] → IsOneMore base left start offered_now
taken_is_offered base held left start offered offered_now m fits so_far take told =
    taken_by base held left start offered offered_now m (front_at held) fits so_far refl take told

-- what was held is bytes again once messages were offered of it
pub offered_fits : (held left : List ℕ) (offered offered_now : List Inbound) → IsBytes held → Offers held left offered offered_now → IsBytes left
offered_fits held left offered offered_now fits o = left_fits o.whole left (subst IsBytes o.parts fits)

-- PIECES THAT ARE READ

bytes_both : (xs ys : List ℕ) → IsBytes xs → IsBytes ys → IsBytes (xs ++ ys)
bytes_both [] ys xs_fit ys_fit = ys_fit
bytes_both (x ∷ xs) ys xs_fit ys_fit = elim [ zero ↦ xs_fit 0 | suc i ↦ bytes_both xs ys (λ k. xs_fit (suc k)) ys_fit i ]

consumes_none : (unread : Option (List ℕ)) → Consumes unread unread []
consumes_none None = tt
consumes_none (Some bytes) = refl

consumes_more : (unread between left : Option (List ℕ)) (piece more : List ℕ) → Consumes unread between piece → Consumes between left more → Consumes unread left (piece ++ more)
consumes_more None between left piece more a b = tt
consumes_more (Some xs) None left piece more a b = absurd a
consumes_more (Some xs) (Some ys) None piece more a b = absurd b
consumes_more (Some xs) (Some ys) (Some zs) piece more a b = a ∙ ap (λ (bytes : List ℕ). piece ++ bytes) b ∙ sym (append_assoc piece more zs)

pub nothing_heard : (old : Standing) → Hears old old [] [] []
nothing_heard old =
    record { fits = λ i. omega arith; consumed = consumes_none old.unread; offers = offers_none [] old.offered }

offers_more : (held between left : List ℕ) (start offered offered_now : List Inbound) (more : List ℕ) → Offers held between start offered → Offers (between ++ more) left offered offered_now → Offers (held ++ more) left start offered_now
offers_more held between left start offered offered_now more a b = record {
  messages = a.messages ++ b.messages;
  whole = a.whole ++ b.whole;
  spelled = spelled_both a.messages b.messages a.whole b.whole a.spelled b.spelled;
  parts =
      ap (λ (xs : List ℕ). xs ++ more) a.parts
      ∙ append_assoc a.whole between more
      ∙ ap (λ (xs : List ℕ). a.whole ++ xs) b.parts
      ∙ sym (append_assoc a.whole b.whole left);
  told =
      b.told
      ∙ ap (λ (xs : List Inbound). xs ++ as_items b.messages) a.told
      ∙ append_assoc start (as_items a.messages) (as_items b.messages)
      ∙ ap (λ (xs : List Inbound). start ++ xs) (sym (map-append inbound.Message a.messages b.messages));
}

-- one piece more was heard
pub heard_more : (old between new : Standing) (held left start piece more : List ℕ) → Hears old between start held piece → Hears between new held left more → Hears old new start left (piece ++ more)
heard_more old between new held left start piece more a b = record {
  fits = bytes_both piece more a.fits b.fits;
  consumed = consumes_more old.unread between.unread new.unread piece more a.consumed b.consumed;
  offers =
      subst (λ (xs : List ℕ). Offers xs left old.offered new.offered) (append_assoc start piece more)
      (offers_more (start ++ piece) held left old.offered between.offered new.offered more a.offers b.offers);
}

consumes_kept : (unread left : Option (List ℕ)) → Keeps unread left → Consumes unread left []
consumes_kept None left kept = tt
consumes_kept (Some xs) None kept = absurd kept
consumes_kept (Some xs) (Some ys) kept = sym kept

-- nothing was read
pub heard_none : (old new : Standing) (held : List ℕ) → Keeps old.unread new.unread → new.offered ≡ old.offered → Hears old new held held []
heard_none old new held kept same = record {
  fits = λ i. omega arith;
  consumed = consumes_kept old.unread new.unread kept;
  offers = record {
    messages = [];
    whole = [];
    spelled = refl;
    parts = append-nil held;
    told = same ∙ sym (append-nil old.offered);
  };
}

-- a piece was read, and nothing was offered of it
pub heard_only : (old new : Standing) (held piece : List ℕ) → IsBytes piece → Consumes old.unread new.unread piece → new.offered ≡ old.offered → Hears old new held (held ++ piece) piece
heard_only old new held piece fits consumed same = record {
  fits = fits;
  consumed = consumed;
  offers = record {
    messages = [];
    whole = [];
    spelled = refl;
    parts = refl;
    told = same ∙ sym (append-nil old.offered);
  };
}

-- READERS

nothing_is_partial : front_at [] ≡ fronts.Partial
unfolding header_at
nothing_is_partial = refl

pub begins : (start : Standing) (held : List ℕ) → held ≡ [] → GoesOn start start [] held × IsBytes held
begins start held none =
    subst (λ (xs : List ℕ). GoesOn start start [] xs × IsBytes xs) (sym none)
    (record { piece = []; hears = nothing_heard start; partial = nothing_is_partial; fine = refl; told = omega arith }, λ i. omega arith)

-- what is held once messages were offered is bytes
pub held_fits : (old new : Standing) (held held_now : List ℕ) → IsBytes held → GoesOn old new held held_now → IsBytes held_now
held_fits old new held held_now fits on =
    offered_fits (held ++ on.piece) held_now old.offered new.offered (bytes_both held on.piece fits on.hears.fits) on.hears.offers

pub goes_further : (start now later : Standing) (held held_now : List ℕ) → GoesOn start now [] held → GoesOn now later held held_now → GoesOn start later [] held_now
goes_further start now later held held_now so_far on = record {
  piece = so_far.piece ++ on.piece;
  hears = heard_more start now later held held_now [] so_far.piece on.piece so_far.hears on.hears;
  partial = on.partial;
  fine = on.fine ∙ so_far.fine;
  told = omega (arith, so_far.told, on.told);
}

why_since : (end : InEnd) (left : List ℕ) (start now later : Standing) → now.failed ≡ start.failed → start.stops ≤ now.stops → IsWhy end left now later → IsWhy end left start later
why_since ends.Closed left start now later fine told why = why
why_since ends.ReadFault left start now later fine told why = (why.0, subst (λ (n : ℕ). HasRisen n later.failed) fine why.1)
why_since (ends.Framing fault) left start now later fine told why = why
why_since ends.GateFailed left start now later fine told why = omega (arith, told, why)
why_since ends.OutOfMemory left start now later fine told why = tt

pub stops_after : (end : InEnd) (start now later : Standing) (held : List ℕ) → GoesOn start now [] held → Stops end now later held → Stops end start later []
stops_after end start now later held so_far stops = record {
  piece = so_far.piece ++ stops.piece;
  left = stops.left;
  hears = heard_more start now later held stops.left [] so_far.piece stops.piece so_far.hears stops.hears;
  why = why_since end stops.left start now later so_far.fine so_far.told stops.why;
  told = omega (arith, so_far.told, stops.told);
}

-- why a reader stopped is how the bytes that it read end
ends_of : (end : InEnd) (bytes : List ℕ) (left : List ℕ) (old new : Standing) (o : Offers bytes left old.offered new.offered) → IsBytes bytes → IsWhy end left old new
    → AreOf end bytes o.messages left old new
ends_of ends.Closed bytes left old new o fits why =
    (record { whole = o.whole; left = left; spelled = o.spelled; ends = (refl, partial-front_at left (left_fits o.whole left (subst IsBytes o.parts fits)) why.0); parts = o.parts }, why.1)
ends_of ends.ReadFault bytes left old new o fits why =
    (record { whole = o.whole; left = left; spelled = o.spelled; ends = (refl, partial-front_at left (left_fits o.whole left (subst IsBytes o.parts fits)) why.0); parts = o.parts }, why.1)
ends_of (ends.Framing fault) bytes left old new o fits why =
    record { whole = o.whole; left = left; spelled = o.spelled; ends = faulty-front_at left fault (left_fits o.whole left (subst IsBytes o.parts fits)) why; parts = o.parts }
ends_of ends.GateFailed bytes left old new o fits why = (o.whole, (o.spelled, (o.parts, why)))
ends_of ends.OutOfMemory bytes left old new o fits why = (o.whole, (o.spelled, o.parts))

ends_apart : (end : InEnd) (bytes : List ℕ) (messages : List Message) (left : List ℕ) (old new other : Standing) → other.unread ≡ new.unread → other.failed ≡ new.failed → new.stops ≤ other.stops
    → AreOf end bytes messages left old new → AreOf end bytes messages left old other
ends_apart ends.Closed bytes messages left old new other unread failed told of = (of.0, subst IsAtEnd (sym unread) of.1)
ends_apart ends.ReadFault bytes messages left old new other unread failed told of = (of.0, subst (HasRisen old.failed) (sym failed) of.1)
ends_apart (ends.Framing fault) bytes messages left old new other unread failed told of = of
ends_apart ends.GateFailed bytes messages left old new other unread failed told of = (of.0, (of.1.0, (of.1.1.0, omega (arith, of.1.1.1, told))))
ends_apart ends.OutOfMemory bytes messages left old new other unread failed told of = of

-- a reader that stopped has ended once it has said so
pub served : (end : InEnd) (old new : Standing) (said : List Inbound) (heard : ℕ) → Stops end old new [] → said ≡ new.offered ++ last_item end → new.stops ≤ heard
    → IsServedIn end old (record { unread = new.unread; failed = new.failed; offered = said; stops = heard })
served end old new said heard stops told more =
    let o = stops.hears.offers in
    record {
      bytes = stops.piece;
      messages = o.messages;
      left = stops.left;
      fits = stops.hears.fits;
      consumed = stops.hears.consumed;
      told = told ∙ ap (λ (xs : List Inbound). xs ++ last_item end) o.told ∙ append_assoc old.offered (as_items o.messages) (last_item end);
      framed =
          ends_apart end stops.piece o.messages stops.left old new (record { unread = new.unread; failed = new.failed; offered = said; stops = heard }) refl refl more
          (ends_of end stops.piece stops.left old new o stops.hears.fits stops.why);
    }

-- a reader that the gate stopped says no more
pub served_no_more : (old new : Standing) → Stops ends.GateFailed old new [] → IsServedIn ends.GateFailed old (record { unread = new.unread; failed = new.failed; offered = new.offered; stops = new.stops })
served_no_more old new stops = served ends.GateFailed old new new.offered new.stops stops (sym (append-nil new.offered)) (omega arith)

told_more : (old new : Standing) (heard : ℕ) (held left piece : List ℕ) → Hears old new held left piece → Hears old (record new { stops = heard }) held left piece
told_more old new heard held left piece hears = record { fits = hears.fits; consumed = hears.consumed; offers = hears.offers }

-- nor one that was stopped when it would have said last that the connection is gone
pub served_in_vain : (end : InEnd) (old new : Standing) (said : List Inbound) (heard : ℕ) → Stops end old new [] → said ≡ new.offered → new.stops < heard
    → IsServedIn ends.GateFailed old (record { unread = new.unread; failed = new.failed; offered = said; stops = heard })
served_in_vain end old new said heard stops same more =
    served ends.GateFailed old (record new { stops = heard }) said heard
    (record {
      piece = stops.piece;
      left = stops.left;
      hears = told_more old new heard [] stops.left stops.piece stops.hears;
      why = omega (arith, stops.told, more);
      told = omega (arith, stops.told, more);
    })
    (same ∙ sym (append-nil new.offered)) (omega arith)

-- but for the gate it says last that the connection is gone
pub says_gone : (end : InEnd) → (end ≡ ends.GateFailed → ⊥) → last_item end ≡ inbound.Gone ∷ []
says_gone ends.Closed other = refl
says_gone ends.ReadFault other = refl
says_gone (ends.Framing fault) other = refl
says_gone ends.GateFailed other = absurd (other refl)
says_gone ends.OutOfMemory other = refl
