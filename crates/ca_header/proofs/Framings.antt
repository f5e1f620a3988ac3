-- The framing of a whole stream: it is one, and the calls of `Frames` and `Intake` give it.
use Rattle.std.proofs.Common.{◌≡◌, ℕ, ◌+◌, List, [], ◌∷◌, ◌++◌, length, take, Some, Ok, refl, sym, ap, subst, ◌∙◌, append_assoc, ◌<◌, zero, suc, arith, inl, inr}
use Rattle.std.proofs.Math.Seq.{take-append_seam, drop-append_seam}
use Rattle.std.proofs.lemmas.List.{append-nil, length-append}
use Rattle.ca_header.specs.declared.frames.Frame.{Frame}
use Rattle.ca_header.specs.declared.frames.Frame.TheVariants as frames
use Rattle.ca_header.specs.declared.header.Header.{Header}
use Rattle.ca_header.specs.declared.header.Message.{Message}
use Rattle.ca_header.specs.declared.reading.FrameFault.{FrameFault}
use Rattle.ca_header.specs.declared.reading.Front.{Front}
use Rattle.ca_header.specs.declared.reading.Front.TheVariants as fronts
use Rattle.ca_header.specs.Frames.{AreNext, IsNext, ending_in, messages_in}
use Rattle.ca_header.specs.Framing.{Ending, Ends, Fault, IsFramed, Rest}
use Rattle.ca_header.specs.Intake.{Fed, Happening, IsTake, LeadsTo, Taken, ending_at, fed, taken}
use Rattle.ca_header.specs.Reading.{after_first, first_message, front_at}
use Rattle.ca_header.specs.Spelling.{AreSpelled, IsBytes, IsSpelling}
use Rattle.ca_header.proofs.Fields.{IsBytes-drop, IsBytes-take}
use Rattle.ca_header.proofs.Fronts.{faulty-front_at, front_at-faulty, partial-front_at}
use Rattle.ca_header.proofs.Messages.{IsCut, IsFound, cut-front_at, found-spelled, front_at-partial}

IsBytes-front : (xs ys : List ℕ) → IsBytes (xs ++ ys) → IsBytes xs
IsBytes-front xs ys fits = subst IsBytes (take-append_seam xs ys) (IsBytes-take (length xs) (xs ++ ys) fits)

IsBytes-back : (xs ys : List ℕ) → IsBytes (xs ++ ys) → IsBytes ys
IsBytes-back xs ys fits = subst IsBytes (drop-append_seam xs ys) (IsBytes-drop (length xs) (xs ++ ys) fits)

-- ---- one framing for a stream

-- what a framing that goes on says of the front
found-framed : (stream : List ℕ) (m : Message) (ms : List Message) (end : Ending) → IsFramed stream (m ∷ ms) end
    → (rest : List ℕ) × IsFound m stream rest × IsFramed rest ms end
found-framed stream m ms end f =
    let first = f.spelled.0 in
    let others = f.spelled.1 in
    let parts : stream ≡ first ++ (others ++ f.left) = f.parts ∙ ap (λ (t : List ℕ). t ++ f.left) f.spelled.4 ∙ append_assoc first others f.left in
    let found : IsFound m stream (others ++ f.left) = subst (λ (t : List ℕ). IsFound m t (others ++ f.left)) (sym parts) (found-spelled m first (others ++ f.left) f.spelled.2) in
    (others ++ f.left, found, record { whole = others; left = f.left; spelled = f.spelled.3; ends = f.ends; parts = refl })

-- what one that ends here says
abbrev front_of_end : Ending → Front
front_of_end (Rest rest) = fronts.Partial
front_of_end (Fault f) = fronts.Fault f

ended : (stream left : List ℕ) (end : Ending) → IsBytes stream → stream ≡ left → Ends left end → (front_at stream ≡ front_of_end end) × ((rest : List ℕ) → end ≡ Rest rest → rest ≡ stream)
ended stream left (Rest rest) fits same ends =
    let here = subst IsBytes same fits in
    (ap front_at same ∙ front_at-partial left here ends.1, λ other e. let is : rest ≡ other = cc in sym is ∙ ends.0 ∙ sym same)
ended stream left (Fault f) fits same ends =
    (ap front_at same ∙ front_at-faulty left ends.0 ends.1 f ends.2 ends.3, λ other e. absurd cc)

ended-framed : (stream : List ℕ) (end : Ending) → IsBytes stream → IsFramed stream [] end → (front_at stream ≡ front_of_end end) × ((rest : List ℕ) → end ≡ Rest rest → rest ≡ stream)
ended-framed stream end fits f =
    let same : stream ≡ f.left = f.parts ∙ ap (λ (t : List ℕ). t ++ f.left) f.spelled in
    ended stream f.left end fits same f.ends

not_both : (end : Ending) (h : Header) (n : ℕ) → front_of_end end ≡ fronts.Whole h n → ⊥
not_both (Rest rest) h n e = cc
not_both (Fault f) h n e = cc

same_end : (stream : List ℕ) (end other : Ending) → front_of_end end ≡ front_of_end other → ((rest : List ℕ) → end ≡ Rest rest → rest ≡ stream) → ((rest : List ℕ) → other ≡ Rest rest → rest ≡ stream) → end ≡ other
same_end stream (Rest xs) (Rest ys) e p q = ap Rest (p xs refl ∙ sym (q ys refl))
same_end stream (Rest xs) (Fault g) e p q = absurd cc
same_end stream (Fault f) (Rest ys) e p q = absurd cc
same_end stream (Fault f) (Fault g) e p q = let same : f ≡ g = cc in ap Fault same

record IsSameStep (m n : Message) (rest others : List ℕ) : Type 0 where
  same : m ≡ n
  on : rest ≡ others

same_step : (stream rest others : List ℕ) (m n : Message) → IsFound m stream rest → IsFound n stream others → IsSameStep m n rest others
same_step stream rest others m n p q =
    let fronts_are : fronts.Whole m.head p.len ≡ fronts.Whole n.head q.len = sym p.front ∙ q.front in
    let heads_are : m.head ≡ n.head = cc in
    let lens_are : p.len ≡ q.len = cc in
    let messages_are : first_message m.head p.len stream ≡ first_message n.head q.len stream = ap (λ (h : Header). first_message h p.len stream) heads_are ∙ ap (λ (k : ℕ). first_message n.head k stream) lens_are in
    let after_are : after_first m.head p.len stream ≡ after_first n.head q.len stream = ap (λ (h : Header). after_first h p.len stream) heads_are ∙ ap (λ (k : ℕ). after_first n.head k stream) lens_are in
    record { same = sym p.message ∙ messages_are ∙ q.message; on = sym p.after ∙ after_are ∙ q.after }

IsBytes-found : (m : Message) (stream rest : List ℕ) → IsBytes stream → IsFound m stream rest → IsBytes rest
IsBytes-found m stream rest fits found = subst IsBytes found.after (IsBytes-drop (found.len + m.head.size) stream fits)

pub unique : (stream : List ℕ) (ms ns : List Message) (end other : Ending) → IsBytes stream → IsFramed stream ms end → IsFramed stream ns other → (ms ≡ ns) × (end ≡ other)
unique stream [] [] end other fits f g =
    let p = ended-framed stream end fits f in
    let q = ended-framed stream other fits g in
    (refl, same_end stream end other (sym p.0 ∙ q.0) p.1 q.1)
unique stream [] (n ∷ ns) end other fits f g =
    let p = ended-framed stream end fits f in
    let q = found-framed stream n ns other g in
    absurd (not_both end n.head q.1.len (sym p.0 ∙ q.1.front))
unique stream (m ∷ ms) [] end other fits f g =
    let p = found-framed stream m ms end f in
    let q = ended-framed stream other fits g in
    absurd (not_both other m.head p.1.len (sym q.0 ∙ p.1.front))
unique stream (m ∷ ms) (n ∷ ns) end other fits f g =
    let p = found-framed stream m ms end f in
    let q = found-framed stream n ns other g in
    let step = same_step stream p.0 q.0 m n p.1 q.1 in
    let rest_of_g : IsFramed p.0 ns other = subst (λ (t : List ℕ). IsFramed t ns other) (sym step.on) q.2 in
    let more = unique p.0 ms ns end other (IsBytes-found m stream p.0 fits p.1) p.2 rest_of_g in
    (ap (λ (x : Message). x ∷ ms) step.same ∙ ap (λ (xs : List Message). n ∷ xs) more.0, more.1)

-- ---- what calls of `Frames::next` give

-- a framing with one more message in front
more-framed : (stream : List ℕ) (m : Message) (rest : List ℕ) (ms : List Message) (end : Ending) → IsCut m stream rest → IsFramed rest ms end → IsFramed stream (m ∷ ms) end
more-framed stream m rest ms end cut f =
    record {
      whole = cut.text ++ f.whole;
      left = f.left;
      spelled = (cut.text, f.whole, cut.spelled, f.spelled, refl);
      ends = f.ends;
      parts = cut.parts ∙ ap (λ (t : List ℕ). cut.text ++ t) f.parts ∙ sym (append_assoc cut.text f.whole f.left);
    }

-- a framing without a message
ends-framed : (stream : List ℕ) (end : Ending) → Ends stream end → IsFramed stream [] end
ends-framed stream end ends = record { whole = []; left = stream; spelled = refl; ends = ends; parts = refl }

ends-at : (stream : List ℕ) (found : Front) (end : Ending) → IsBytes stream → front_at stream ≡ found → ending_at stream found ≡ Some end → Ends stream end
ends-at stream (fronts.Whole h n) end fits is e = absurd cc
ends-at stream fronts.Partial end fits is e =
    let same : Rest stream ≡ end = cc in
    subst (Ends stream) same (refl, partial-front_at stream fits is)
ends-at stream (fronts.Fault f) end fits is e =
    let same : Fault f ≡ end = cc in
    subst (Ends stream) same (faulty-front_at stream f fits is)

-- a call that gives a message
record IsStep (m : Message) (bytes left : List ℕ) : Type 0 where
  cut : IsCut m bytes left
  fits : IsBytes left

step_by : (bytes left : List ℕ) (found : Front) (h : Header) (n : ℕ) (m : Message) → IsBytes bytes → front_at bytes ≡ fronts.Whole h n → m ≡ first_message h n bytes → left ≡ after_first h n bytes → IsStep m bytes left
step_by bytes left found h n m fits is same on =
    let cut : IsCut m bytes left = subst (λ (x : Message). IsCut x bytes left) (sym same) (subst (λ (t : List ℕ). IsCut (first_message h n bytes) bytes t) (sym on) (cut-front_at bytes h n fits is)) in
    record { cut = cut; fits = IsBytes-back cut.text left (subst IsBytes cut.parts fits) }

message-next : (bytes left : List ℕ) (found : Front) (frame : Frame) (m : Message) → IsBytes bytes → front_at bytes ≡ found → messages_in (frame ∷ []) ≡ m ∷ [] → IsNext bytes found frame left → IsStep m bytes left
message-next bytes left (fronts.Whole h n) (frames.Message head payload) m fits is e next =
    let same : record { head = head; payload = payload.now } ≡ m = cc in
    step_by bytes left (fronts.Whole h n) h n m fits is (sym same ∙ next.0) next.1
message-next bytes left (fronts.Whole h n) (frames.Rest rest) m fits is e next = absurd next
message-next bytes left (fronts.Whole h n) (frames.Fault g) m fits is e next = absurd next
message-next bytes left fronts.Partial (frames.Message head payload) m fits is e next = absurd next
message-next bytes left fronts.Partial (frames.Rest rest) m fits is e next = absurd cc
message-next bytes left fronts.Partial (frames.Fault g) m fits is e next = absurd next
message-next bytes left (fronts.Fault f) (frames.Message head payload) m fits is e next = absurd next
message-next bytes left (fronts.Fault f) (frames.Rest rest) m fits is e next = absurd next
message-next bytes left (fronts.Fault f) (frames.Fault g) m fits is e next = absurd cc

-- a call that gives none leaves the bytes as they are
none-next : (bytes left : List ℕ) (found : Front) (frame : Frame) → messages_in (frame ∷ []) ≡ [] → IsNext bytes found frame left → left ≡ bytes
none-next bytes left (fronts.Whole h n) (frames.Message head payload) e next = absurd cc
none-next bytes left (fronts.Whole h n) (frames.Rest rest) e next = absurd next
none-next bytes left (fronts.Whole h n) (frames.Fault g) e next = absurd next
none-next bytes left fronts.Partial (frames.Message head payload) e next = absurd next
none-next bytes left fronts.Partial (frames.Rest rest) e next = next.1
none-next bytes left fronts.Partial (frames.Fault g) e next = absurd next
none-next bytes left (fronts.Fault f) (frames.Message head payload) e next = absurd next
none-next bytes left (fronts.Fault f) (frames.Rest rest) e next = absurd next
none-next bytes left (fronts.Fault f) (frames.Fault g) e next = next.1

-- the last call says how the stream ends
last-next : (bytes left : List ℕ) (found : Front) (frame : Frame) (end : Ending) → ending_in frame ≡ Some end → IsNext bytes found frame left → ending_at bytes found ≡ Some end
last-next bytes left (fronts.Whole h n) (frames.Message head payload) end e next = absurd cc
last-next bytes left (fronts.Whole h n) (frames.Rest rest) end e next = absurd next
last-next bytes left (fronts.Whole h n) (frames.Fault g) end e next = absurd next
last-next bytes left fronts.Partial (frames.Message head payload) end e next = absurd next
last-next bytes left fronts.Partial (frames.Rest rest) end e next = ap (λ (t : List ℕ). Some (Rest t)) (sym next.0) ∙ e
last-next bytes left fronts.Partial (frames.Fault g) end e next = absurd next
last-next bytes left (fronts.Fault f) (frames.Message head payload) end e next = absurd next
last-next bytes left (fronts.Fault f) (frames.Rest rest) end e next = absurd next
last-next bytes left (fronts.Fault f) (frames.Fault g) end e next = ap (λ (x : FrameFault). Some (Fault x)) (sym next.0) ∙ e

pub framed-next : (bytes : List ℕ) (given : List Frame) (last : Frame) (end : Ending) → IsBytes bytes → AreNext bytes (given ++ last ∷ []) → ending_in last ≡ Some end → IsFramed bytes (messages_in given) end
framed-next bytes [] last end fits calls e =
    ends-framed bytes end (ends-at bytes (front_at bytes) end fits refl (last-next bytes calls.0 (front_at bytes) last end e calls.1))
framed-next bytes (frames.Message head payload ∷ more) last end fits calls e =
    let m : Message = record { head = head; payload = payload.now } in
    let step = message-next bytes calls.0 (front_at bytes) (frames.Message head payload) m fits refl refl calls.1 in
    more-framed bytes m calls.0 (messages_in more) end step.cut (framed-next calls.0 more last end step.fits calls.2 e)
framed-next bytes (frames.Rest rest ∷ more) last end fits calls e =
    let same = none-next bytes calls.0 (front_at bytes) (frames.Rest rest) refl calls.1 in
    framed-next bytes more last end fits (subst (λ (t : List ℕ). AreNext t (more ++ last ∷ [])) same calls.2) e
framed-next bytes (frames.Fault f ∷ more) last end fits calls e =
    let same = none-next bytes calls.0 (front_at bytes) (frames.Fault f) refl calls.1 in
    framed-next bytes more last end fits (subst (λ (t : List ℕ). AreNext t (more ++ last ∷ [])) same calls.2) e

-- ---- what an intake gives

taken-step : (old left : List ℕ) (found : Front) (m : Message) → IsBytes old → front_at old ≡ found → IsTake old found (Ok (Some m)) left → IsStep m old left
taken-step old left (fronts.Whole h n) m fits is take = step_by old left (fronts.Whole h n) h n m fits is take.0 take.1
taken-step old left fronts.Partial m fits is take = absurd take
taken-step old left (fronts.Fault f) m fits is take = absurd take

pub record IsAccountedFor (stream : List ℕ) (messages : List Message) (held : List ℕ) : Type 0 where
  pub whole : List ℕ
  pub spelled : AreSpelled messages whole
  pub parts : stream ≡ whole ++ held

pub accounted_for : (old : List ℕ) (happenings : List Happening) (held : List ℕ) → IsBytes (old ++ fed happenings) → LeadsTo old happenings held → IsAccountedFor (old ++ fed happenings) (taken happenings) held
accounted_for old [] held fits same = record { whole = []; spelled = refl; parts = append-nil old ∙ sym same }
accounted_for old (Fed piece ∷ more) held fits leads =
    let regrouped : (old ++ piece) ++ fed more ≡ old ++ (piece ++ fed more) = append_assoc old piece (fed more) in
    subst (λ (t : List ℕ). IsAccountedFor t (taken more) held) regrouped (accounted_for (old ++ piece) more held (subst IsBytes (sym regrouped) fits) leads)
accounted_for old (Taken m ∷ more) held fits leads =
    let left = leads.0 in
    let step = taken-step old left (front_at old) m (IsBytes-front old (fed more) fits) refl leads.1 in
    let cut = step.cut in
    let parts : old ++ fed more ≡ cut.text ++ (left ++ fed more) = ap (λ (t : List ℕ). t ++ fed more) cut.parts ∙ append_assoc cut.text left (fed more) in
    let on = accounted_for left more held (IsBytes-back cut.text (left ++ fed more) (subst IsBytes parts fits)) leads.2 in
    record {
      whole = cut.text ++ on.whole;
      spelled = (cut.text, on.whole, cut.spelled, on.spelled, refl);
      parts = parts ∙ ap (λ (t : List ℕ). cut.text ++ t) on.parts ∙ sym (append_assoc cut.text on.whole held);
    }

pub framed-intake : (happenings : List Happening) (held : List ℕ) (end : Ending) → IsBytes (fed happenings) → LeadsTo [] happenings held → ending_at held (front_at held) ≡ Some end → IsFramed (fed happenings) (taken happenings) end
framed-intake happenings held end fits leads e =
    let on = accounted_for [] happenings held fits leads in
    record {
      whole = on.whole;
      left = held;
      spelled = on.spelled;
      ends = ends-at held (front_at held) end (IsBytes-back on.whole held (subst IsBytes on.parts fits)) refl e;
      parts = on.parts;
    }

-- ---- each stream has a framing

IsSpelling-long : (h : Header) (head : List ℕ) → IsSpelling h head → 0 < length head
IsSpelling-long h head spelling =
    elim spelling.1 as (λ _. 0 < length head) [
      | inl plain ↦ subst (λ (t : List ℕ). 0 < length t) (sym plain.1) (omega arith)
      | inr extended ↦ subst (λ (t : List ℕ). 0 < length t) (sym extended) (omega arith)
    ]

abbrev HasFraming : List ℕ → Type 0
HasFraming stream = (ms : List Message) × (end : Ending) × IsFramed stream ms end

framing_by : (fuel : ℕ) (stream : List ℕ) (found : Front) → length stream < suc fuel → IsBytes stream → front_at stream ≡ found
    → ((rest : List ℕ) → length rest < fuel → IsBytes rest → HasFraming rest) → HasFraming stream
framing_by fuel stream (fronts.Whole h n) short fits is next =
    let m = first_message h n stream in
    let rest = after_first h n stream in
    let cut = cut-front_at stream h n fits is in
    let head_long = IsSpelling-long h cut.spelled.head cut.spelled.spelling in
    let text_len : length cut.text ≡ length cut.spelled.head + length m.payload = ap length cut.spelled.parts ∙ length-append cut.spelled.head m.payload in
    let lens : length stream ≡ length cut.text + length rest = ap length cut.parts ∙ length-append cut.text rest in
    let more = next rest (omega arith) (IsBytes-drop (n + h.size) stream fits) in
    (m ∷ more.0, more.1, more-framed stream m rest more.0 more.1 cut more.2)
framing_by fuel stream fronts.Partial short fits is next =
    ([], Rest stream, ends-framed stream (Rest stream) (ends-at stream fronts.Partial (Rest stream) fits is refl))
framing_by fuel stream (fronts.Fault f) short fits is next =
    ([], Fault f, ends-framed stream (Fault f) (ends-at stream (fronts.Fault f) (Fault f) fits is refl))

framing_within : (fuel : ℕ) (stream : List ℕ) → length stream < fuel → IsBytes stream → HasFraming stream
framing_within zero stream short fits = absurd (omega arith)
framing_within (suc fuel) stream short fits =
    framing_by fuel stream (front_at stream) short fits refl (λ rest shorter all. framing_within fuel rest shorter all)

pub framing_of : (stream : List ℕ) → IsBytes stream → (ms : List Message) × (end : Ending) × IsFramed stream ms end
framing_of stream fits = framing_within (length stream + 1) stream (omega arith) fits
