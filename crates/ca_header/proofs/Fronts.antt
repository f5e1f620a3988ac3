-- What stands at the front of a stream is what its bytes spell.
use Rattle.std.proofs.Common.{◌≡◌, ℕ, ◌+◌, ◌-◌, ◌%◌, ◌<◌, ◌≤◌, List, ◌++◌, length, Option, None, refl, sym, ap, subst, ◌∙◌, append_assoc, arith, inl, inr}
use Rattle.std.proofs.lemmas.Bool.{cases_eq, cases_lt, eq-eqb, le-leb, lt-leb, ne_eqb}
use Rattle.std.proofs.lemmas.List.{length-append, length-replicate}
use Rattle.std.proofs.Math.ListN.{replicate}
use Rattle.ca_header.specs.declared.header.Header.{Header}
use Rattle.ca_header.specs.declared.header.Message.{Message}
use Rattle.ca_header.specs.declared.header.TheConstants.{ALIGNMENT, MAX_PAYLOAD}
use Rattle.ca_header.specs.declared.reading.FrameFault.{FrameFault}
use Rattle.ca_header.specs.declared.reading.FrameFault.TheVariants as faults
use Rattle.ca_header.specs.declared.reading.Front.{Front}
use Rattle.ca_header.specs.declared.reading.Front.TheVariants.{Whole, Partial, Fault}
use Rattle.ca_header.specs.declared.reading.Head.{Head}
use Rattle.ca_header.specs.declared.reading.Head.TheVariants as heads
use Rattle.ca_header.specs.Framing.{IsFaulty, IsPartHead, IsPartMessage, IsPartial}
use Rattle.ca_header.specs.Reading.{front_at, front_of, head_at, header_at, judged, refused, verdict}
use Rattle.ca_header.specs.Spelling.{BeginsWith, HasFault, IsBytes, IsProperPrefix, IsSpelled, IsWellFormed}
use Rattle.ca_header.proofs.Heads.{IsPartHead-none, IsRead, IsRead-header_at, begins, cut, header_at-begins, short}

-- ---- what a header's size makes of it

pub verdict-well_formed : (h : Header) (n : ℕ) → IsWellFormed h → verdict h n ≡ heads.Got h n
verdict-well_formed h n w = rw (eq-eqb (h.size % ALIGNMENT) 0 w.aligned, le-leb h.size MAX_PAYLOAD w.within_limit) refl

pub verdict-fault : (h : Header) (n : ℕ) (f : FrameFault) → HasFault h f → verdict h n ≡ refused f
verdict-fault h n faults.Misaligned fault = rw (ne_eqb (h.size % ALIGNMENT) 0 fault) refl
verdict-fault h n faults.TooLarge fault = rw (eq-eqb (h.size % ALIGNMENT) 0 fault.0, lt-leb h.size MAX_PAYLOAD fault.1) refl

-- the two ways of a header
pub data IsJudged (h : Header) : Type 0 where
  fair : IsWellFormed h → IsJudged h
  unfair : (f : FrameFault) → HasFault h f → IsJudged h

pub IsJudged-all : (h : Header) → IsJudged h
IsJudged-all h =
    elim (cases_eq (h.size % ALIGNMENT) 0) [
      | inr apart ↦ unfair faults.Misaligned apart
      | inl aligned ↦ elim (cases_lt MAX_PAYLOAD h.size) [
        | inl above ↦ unfair faults.TooLarge (aligned, above)
        | inr within ↦ fair (record { aligned = aligned; within_limit = within })
      ]
    ]

-- ---- what is spelled is found

pub head_at-begins : (bytes : List ℕ) (h : Header) (n : ℕ) → BeginsWith bytes h n → head_at bytes ≡ verdict h n
head_at-begins bytes h n b = ap judged (header_at-begins bytes h n b)

pub front_at-begins : (bytes : List ℕ) (h : Header) (n : ℕ) → BeginsWith bytes h n → IsWellFormed h → n + h.size ≤ length bytes → front_at bytes ≡ Whole h n
front_at-begins bytes h n b w long =
    ap (λ (found : Head). front_of found (length bytes)) (head_at-begins bytes h n b ∙ verdict-well_formed h n w)
    ∙ rw (le-leb (n + h.size) (length bytes) long) refl

pub front_at-cut : (bytes : List ℕ) (h : Header) (n : ℕ) → BeginsWith bytes h n → IsWellFormed h → length bytes < n + h.size → front_at bytes ≡ Partial
front_at-cut bytes h n b w less =
    ap (λ (found : Head). front_of found (length bytes)) (head_at-begins bytes h n b ∙ verdict-well_formed h n w)
    ∙ rw (lt-leb (n + h.size) (length bytes) less) refl

front_of-refused : (f : FrameFault) (len : ℕ) → front_of (refused f) len ≡ Fault f
front_of-refused faults.Misaligned len = refl
front_of-refused faults.TooLarge len = refl

pub front_at-faulty : (bytes : List ℕ) (h : Header) (n : ℕ) (f : FrameFault) → BeginsWith bytes h n → HasFault h f → front_at bytes ≡ Fault f
front_at-faulty bytes h n f b fault =
    ap (λ (found : Head). front_of found (length bytes)) (head_at-begins bytes h n b ∙ verdict-fault h n f fault) ∙ front_of-refused f (length bytes)

-- ---- what is found is spelled

pub data IsFront (bytes : List ℕ) : Front → Type 0 where
  whole : (h : Header) (n : ℕ) → BeginsWith bytes h n → IsWellFormed h → n + h.size ≤ length bytes → IsFront bytes (Whole h n)
  faulty : (h : Header) (n : ℕ) (f : FrameFault) → BeginsWith bytes h n → HasFault h f → IsFront bytes (Fault f)
  headless : IsPartHead bytes → IsFront bytes Partial
  bodiless : (h : Header) (n : ℕ) → BeginsWith bytes h n → IsWellFormed h → length bytes < n + h.size → IsFront bytes Partial

with_header : (bytes : List ℕ) (h : Header) (n : ℕ) → BeginsWith bytes h n → IsJudged h → IsFront bytes (front_at bytes)
with_header bytes h n b (unfair f fault) = rw (front_at-faulty bytes h n f b fault) (faulty h n f b fault)
with_header bytes h n b (fair w) =
    elim (cases_lt (length bytes) (n + h.size)) [
      | inl less ↦ rw (front_at-cut bytes h n b w less) (bodiless h n b w less)
      | inr all ↦ rw (front_at-begins bytes h n b w all) (whole h n b w all)
    ]

without_header : (bytes : List ℕ) → IsBytes bytes → header_at bytes ≡ None → IsFront bytes (front_at bytes)
without_header bytes fits none =
    let P : Option (Header × ℕ) → Type 0 = λ found. IsFront bytes (front_of (judged found) (length bytes)) in
    subst P (sym none) (headless (IsPartHead-none bytes fits none))

front_by : (bytes : List ℕ) (found : Option (Header × ℕ)) → IsBytes bytes → header_at bytes ≡ found → IsRead bytes found → IsFront bytes (front_at bytes)
front_by bytes _ fits is (begins h n b within) = with_header bytes h n b (IsJudged-all h)
front_by bytes _ fits is (short few) = without_header bytes fits is
front_by bytes _ fits is (cut all few marked) = without_header bytes fits is

pub IsFront-front_at : (bytes : List ℕ) → IsBytes bytes → IsFront bytes (front_at bytes)
IsFront-front_at bytes fits = front_by bytes (header_at bytes) fits refl (IsRead-header_at bytes fits)

-- a whole header whose payload is cut is the beginning of a message
part_message : (bytes : List ℕ) (h : Header) (n : ℕ) → BeginsWith bytes h n → IsWellFormed h → length bytes < n + h.size → IsPartMessage bytes
part_message bytes h n b w less =
    let lens : length bytes ≡ n + length b.rest = ap length b.parts ∙ length-append b.head b.rest ∙ ap (λ (k : ℕ). k + length b.rest) b.len in
    let zeros : List ℕ = replicate (h.size - length b.rest) 0 in
    let padded : length zeros ≡ h.size - length b.rest = length-replicate {A = ℕ} (h.size - length b.rest) 0 in
    let m : Message = record { head = h; payload = b.rest ++ zeros } in
    let text : List ℕ = b.head ++ (b.rest ++ zeros) in
    let spelled : IsSpelled m text = record { head = b.head; spelling = b.spelling; well_formed = w; size = omega (arith, length-append b.rest zeros); parts = refl } in
    let prefix : IsProperPrefix bytes text = record { missing = zeros; some_missing = omega arith; parts = ap (λ (t : List ℕ). t ++ zeros) b.parts ∙ append_assoc b.head b.rest zeros } in
    (m, text, spelled, prefix)

-- ---- each front, exactly

whole_by : (bytes : List ℕ) (found : Front) (h : Header) (n : ℕ) → IsFront bytes found → found ≡ Whole h n → BeginsWith bytes h n × IsWellFormed h × (n + h.size ≤ length bytes)
whole_by bytes _ h n (whole g k b w all) e =
    let same_head : g ≡ h = cc in
    let same_len : k ≡ n = cc in
    let P : Header → ℕ → Type 0 = λ x y. BeginsWith bytes x y × IsWellFormed x × (y + x.size ≤ length bytes) in
    subst (λ (x : Header). P x n) same_head (subst (λ (y : ℕ). P g y) same_len (b, w, all))
whole_by bytes _ h n (faulty g k f b fault) e = absurd cc
whole_by bytes _ h n (headless part) e = absurd cc
whole_by bytes _ h n (bodiless g k b w less) e = absurd cc

pub begins-front_at : (bytes : List ℕ) (h : Header) (n : ℕ) → IsBytes bytes → front_at bytes ≡ Whole h n → BeginsWith bytes h n × IsWellFormed h × (n + h.size ≤ length bytes)
begins-front_at bytes h n fits e = whole_by bytes (front_at bytes) h n (IsFront-front_at bytes fits) e

faulty_by : (bytes : List ℕ) (found : Front) (f : FrameFault) → IsFront bytes found → found ≡ Fault f → IsFaulty bytes f
faulty_by bytes _ f (whole g k b w all) e = absurd cc
faulty_by bytes _ f (faulty g k f' b fault) e = let same : f' ≡ f = cc in subst (λ (x : FrameFault). IsFaulty bytes x) same (g, k, b, fault)
faulty_by bytes _ f (headless part) e = absurd cc
faulty_by bytes _ f (bodiless g k b w less) e = absurd cc

pub faulty-front_at : (bytes : List ℕ) (f : FrameFault) → IsBytes bytes → front_at bytes ≡ Fault f → IsFaulty bytes f
faulty-front_at bytes f fits e = faulty_by bytes (front_at bytes) f (IsFront-front_at bytes fits) e

partial_by : (bytes : List ℕ) (found : Front) → IsFront bytes found → found ≡ Partial → IsPartial bytes
partial_by bytes _ (whole g k b w all) e = absurd cc
partial_by bytes _ (faulty g k f b fault) e = absurd cc
partial_by bytes _ (headless part) e = inl part
partial_by bytes _ (bodiless g k b w less) e = inr (part_message bytes g k b w less)

pub partial-front_at : (bytes : List ℕ) → IsBytes bytes → front_at bytes ≡ Partial → IsPartial bytes
partial-front_at bytes fits e = partial_by bytes (front_at bytes) (IsFront-front_at bytes fits) e

-- ---- each head, exactly

refused-got : (f : FrameFault) (h : Header) (n : ℕ) → refused f ≡ heads.Got h n → ⊥
refused-got faults.Misaligned h n e = cc
refused-got faults.TooLarge h n e = cc

refused-need : (f : FrameFault) → refused f ≡ heads.Need → ⊥
refused-need faults.Misaligned e = cc
refused-need faults.TooLarge e = cc

refused-refused : (f g : FrameFault) → refused f ≡ refused g → f ≡ g
refused-refused faults.Misaligned faults.Misaligned e = refl
refused-refused faults.Misaligned faults.TooLarge e = absurd cc
refused-refused faults.TooLarge faults.Misaligned e = absurd cc
refused-refused faults.TooLarge faults.TooLarge e = refl

pub data IsHead (bytes : List ℕ) : Head → Type 0 where
  got : (h : Header) (n : ℕ) → BeginsWith bytes h n → IsWellFormed h → IsHead bytes (heads.Got h n)
  bad : (h : Header) (n : ℕ) (f : FrameFault) → BeginsWith bytes h n → HasFault h f → IsHead bytes (refused f)
  need : IsPartHead bytes → IsHead bytes heads.Need

judged_head : (bytes : List ℕ) (h : Header) (n : ℕ) → BeginsWith bytes h n → IsJudged h → IsHead bytes (head_at bytes)
judged_head bytes h n b (fair w) = rw (head_at-begins bytes h n b ∙ verdict-well_formed h n w) (got h n b w)
judged_head bytes h n b (unfair f fault) = rw (head_at-begins bytes h n b ∙ verdict-fault h n f fault) (bad h n f b fault)

headless_head : (bytes : List ℕ) → IsBytes bytes → header_at bytes ≡ None → IsHead bytes (head_at bytes)
headless_head bytes fits none =
    let P : Option (Header × ℕ) → Type 0 = λ found. IsHead bytes (judged found) in
    subst P (sym none) (need (IsPartHead-none bytes fits none))

head_by : (bytes : List ℕ) (found : Option (Header × ℕ)) → IsBytes bytes → header_at bytes ≡ found → IsRead bytes found → IsHead bytes (head_at bytes)
head_by bytes _ fits is (begins h n b within) = judged_head bytes h n b (IsJudged-all h)
head_by bytes _ fits is (short few) = headless_head bytes fits is
head_by bytes _ fits is (cut all few marked) = headless_head bytes fits is

pub IsHead-head_at : (bytes : List ℕ) → IsBytes bytes → IsHead bytes (head_at bytes)
IsHead-head_at bytes fits = head_by bytes (header_at bytes) fits refl (IsRead-header_at bytes fits)

got_by : (bytes : List ℕ) (found : Head) (h : Header) (n : ℕ) → IsHead bytes found → found ≡ heads.Got h n → BeginsWith bytes h n × IsWellFormed h
got_by bytes _ h n (got g k b w) e =
    let same_head : g ≡ h = cc in
    let same_len : k ≡ n = cc in
    let P : Header → ℕ → Type 0 = λ x y. BeginsWith bytes x y × IsWellFormed x in
    subst (λ (x : Header). P x n) same_head (subst (λ (y : ℕ). P g y) same_len (b, w))
got_by bytes _ h n (bad g k f b fault) e = absurd (refused-got f h n e)
got_by bytes _ h n (need part) e = absurd cc

pub begins-head_at : (bytes : List ℕ) (h : Header) (n : ℕ) → IsBytes bytes → head_at bytes ≡ heads.Got h n → BeginsWith bytes h n × IsWellFormed h
begins-head_at bytes h n fits e = got_by bytes (head_at bytes) h n (IsHead-head_at bytes fits) e

bad_by : (bytes : List ℕ) (found : Head) (f : FrameFault) → IsHead bytes found → found ≡ refused f → IsFaulty bytes f
bad_by bytes _ f (got g k b w) e = absurd (refused-got f g k (sym e))
bad_by bytes _ f (bad g k f' b fault) e = subst (λ (x : FrameFault). IsFaulty bytes x) (refused-refused f' f e) (g, k, b, fault)
bad_by bytes _ f (need part) e = absurd (refused-need f (sym e))

pub faulty-head_at : (bytes : List ℕ) (f : FrameFault) → IsBytes bytes → head_at bytes ≡ refused f → IsFaulty bytes f
faulty-head_at bytes f fits e = bad_by bytes (head_at bytes) f (IsHead-head_at bytes fits) e

need_by : (bytes : List ℕ) (found : Head) → IsHead bytes found → found ≡ heads.Need → IsPartHead bytes
need_by bytes _ (got g k b w) e = absurd cc
need_by bytes _ (bad g k f b fault) e = absurd (refused-need f e)
need_by bytes _ (need part) e = part

pub part-head_at : (bytes : List ℕ) → IsBytes bytes → head_at bytes ≡ heads.Need → IsPartHead bytes
part-head_at bytes fits e = need_by bytes (head_at bytes) (IsHead-head_at bytes fits) e
