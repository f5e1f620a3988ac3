-- Messages are taken off a datagram one by one, and what is read from them is what is read from its framing.
use Rattle.std.proofs.Common.{◌≡◌, ℕ, ◌+◌, ◌<◌, ◌≤◌, List, [], ◌∷◌, ◌++◌, length, Option, Some, None, Bor, refl, sym, ap, subst, ◌∙◌, append_assoc, arith, inl, inr}
use Rattle.std.specs.List.{cons_option}
use Rattle.std.proofs.lemmas.List.{append-nil, length-drop}
use Rattle.std.proofs.lemmas.List.Elements.{filter_map-append}
use Rattle.ca_header.specs.declared.frames.Frame.{Frame}
use Rattle.ca_header.specs.declared.frames.Frame.TheVariants as frames
use Rattle.ca_header.specs.declared.header.Header.{Header}
use Rattle.ca_header.specs.declared.header.Message.{Message}
use Rattle.ca_header.specs.declared.reading.Front.{Front}
use Rattle.ca_header.specs.declared.reading.Front.TheVariants as fronts
use Rattle.ca_header.specs.Frames.{IsNext}
use Rattle.ca_header.specs.Framing.{Ending, Fault, IsFramed, Rest}
use Rattle.ca_header.specs.Reading.{after_first, first_message, front_at}
use Rattle.ca_header.specs.Spelling.{IsBytes, IsSpelling}
use Rattle.ca_header.proofs.Fields.{IsBytes-drop}
use Rattle.ca_header.proofs.Framings.{framed-next}
use Rattle.ca_header.proofs.Fronts.{begins-front_at}
use Rattle.ca_header.proofs.Messages.{IsCut, cut-front_at}
use Rattle.pv_search.specs.Picked.{IsPicked, picked_from}

-- a message was taken off the front
pub record IsTaken (m : Message) (old new : List ℕ) : Type 0 where
  pub cut : IsCut m old new
  pub fits : IsBytes new
  pub shorter : length new < length old

pub some_bytes : (h : Header) (head : List ℕ) → IsSpelling h head → 0 < length head
some_bytes h head spelling =
    elim spelling.1 as (λ _. 0 < length head) [
      | inl plain ↦ subst (λ (t : List ℕ). 0 < length t) (sym plain.1) (omega arith)
      | inr extended ↦ subst (λ (t : List ℕ). 0 < length t) (sym extended) (omega arith)
    ]

taken-front : (old : List ℕ) (h : Header) (n : ℕ) → IsBytes old → front_at old ≡ fronts.Whole h n → IsTaken (first_message h n old) old (after_first h n old)
taken-front old h n fits is =
    let found = begins-front_at old h n fits is in
    let begins = found.0 in
    let some = some_bytes h begins.head begins.spelling in
    let len = begins.len in
    let within : n + h.size ≤ length old = found.2 in
    record {
      cut = cut-front_at old h n fits is;
      fits = IsBytes-drop (n + h.size) old fits;
      shorter = omega (arith, length-drop (n + h.size) old);
    }

taken-next : (old new : List ℕ) (found : Front) (head : Header) (payload : Bor (List ℕ)) → IsBytes old → front_at old ≡ found
    → IsNext old found (frames.Message head payload) new → IsTaken (record { head = head; payload = payload.now }) old new
taken-next old new (fronts.Whole h n) head payload fits is next =
    subst (λ (m : Message). IsTaken m old new) (sym next.0) (subst (IsTaken (first_message h n old) old) (sym next.1) (taken-front old h n fits is))
taken-next old new fronts.Partial head payload fits is next = absurd next
taken-next old new (fronts.Fault f) head payload fits is next = absurd next

-- a call that gives a message takes it off
pub taken : (old new : List ℕ) (head : Header) (payload : Bor (List ℕ)) → IsBytes old
    → IsNext old (front_at old) (frames.Message head payload) new → IsTaken (record { head = head; payload = payload.now }) old new
taken old new head payload fits next = taken-next old new (front_at old) head payload fits refl next

-- where a call gives none, the framing ends
pub ended : (old new : List ℕ) (frame : Frame) → IsBytes old → IsNext old (front_at old) frame new
    → ((head : Header) (payload : Bor (List ℕ)) → frame ≡ frames.Message head payload → ⊥) → (end : Ending) × IsFramed old [] end
ended old new (frames.Message head payload) fits next none = absurd (none head payload refl)
ended old new (frames.Rest rest) fits next none =
    (Rest rest.now, framed-next old [] (frames.Rest rest) (Rest rest.now) fits (new, next, tt) refl)
ended old new (frames.Fault f) fits next none =
    (Fault f, framed-next old [] (frames.Fault f) (Fault f) fits (new, next, tt) refl)

-- a message in front of a framing
pub more-framed : (old : List ℕ) (m : Message) (new : List ℕ) (ms : List Message) (end : Ending) → IsCut m old new → IsFramed new ms end → IsFramed old (m ∷ ms) end
more-framed old m new ms end cut f =
    record {
      whole = cut.text ++ f.whole;
      left = f.left;
      spelled = (cut.text, f.whole, cut.spelled, f.spelled, refl);
      ends = f.ends;
      parts = cut.parts ∙ ap (λ (t : List ℕ). cut.text ++ t) f.parts ∙ sym (append_assoc cut.text f.whole f.left);
    }

module _ {X : Type 0} (pick : Header → List ℕ → Option X) where
  -- what was read so far, and what is read from the framing of what is left, is what is read from the framing of all
  pub record IsReading (datagram left : List ℕ) (picked : List X) : Type 0 where
    pub fits : IsBytes left
    pub joined : (ms : List Message) (end : Ending) → IsFramed left ms end
        → (all : List Message) × IsFramed datagram all end × (picked ++ picked_from pick ms ≡ picked_from pick all)

  pub reading-begins : (datagram : List ℕ) → IsBytes datagram → IsReading datagram datagram []
  reading-begins datagram fits = record { fits = fits; joined = λ ms end f. (ms, f, refl) }

  reading-on : (datagram old new : List ℕ) (picked : List X) (m : Message) → IsTaken m old new → IsReading datagram old picked
      → IsReading datagram new (picked ++ picked_from pick (m ∷ []))
  reading-on datagram old new picked m t r =
      record {
        fits = t.fits;
        joined = λ ms end f.
            let on = r.joined (m ∷ ms) end (more-framed old m new ms end t.cut f) in
            (on.0, on.1, append_assoc picked (picked_from pick (m ∷ [])) (picked_from pick ms) ∙ ap (λ (xs : List X). picked ++ xs) (sym (filter_map-append (λ (x : Message). pick x.head x.payload) (m ∷ []) ms)) ∙ on.2);
      }

  -- the message gives something, or nothing
  pub reading-some : (datagram old new : List ℕ) (picked : List X) (m : Message) (x : X) → IsTaken m old new → IsReading datagram old picked
      → pick m.head m.payload ≡ Some x → IsReading datagram new (picked ++ x ∷ [])
  reading-some datagram old new picked m x t r e =
      subst (λ (o : Option X). IsReading datagram new (picked ++ cons_option o [])) e (reading-on datagram old new picked m t r)

  pub reading-none : (datagram old new : List ℕ) (picked : List X) (m : Message) → IsTaken m old new → IsReading datagram old picked
      → pick m.head m.payload ≡ None → IsReading datagram new picked
  reading-none datagram old new picked m t r e =
      subst (λ (xs : List X). IsReading datagram new xs) (append-nil picked) (subst (λ (o : Option X). IsReading datagram new (picked ++ cons_option o [])) e (reading-on datagram old new picked m t r))

  pub reading-ends : (datagram left : List ℕ) (picked : List X) (end : Ending) → IsReading datagram left picked → IsFramed left [] end → IsPicked pick datagram picked
  reading-ends datagram left picked end r f =
      let on = r.joined [] end f in
      record { messages = on.0; end = end; framed = on.1; all = sym (append-nil picked) ∙ on.2 }
