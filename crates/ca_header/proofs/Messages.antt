-- Messages at the front of a stream, spelled and found.
use Rattle.std.proofs.Common.{◌≡◌, ℕ, ◌+◌, ◌≤◌, List, [], ◌++◌, length, take, drop, Option, Some, refl, sym, ap, subst, ◌∙◌, append_assoc, arith, inl, inr}
use Rattle.std.proofs.lemmas.List.{append-nil, drop-drop, drop_at, length-append, length-take-le, take_at, take-append-drop}
use Rattle.ca_header.specs.declared.header.Header.{Header}
use Rattle.ca_header.specs.declared.header.Message.{Message}
use Rattle.ca_header.specs.declared.reading.FrameFault.{FrameFault}
use Rattle.ca_header.specs.declared.reading.Front.{Front}
use Rattle.ca_header.specs.declared.reading.Front.TheVariants.{Whole, Partial, Fault}
use Rattle.ca_header.specs.declared.reading.Head.{Head}
use Rattle.ca_header.specs.declared.reading.Head.TheVariants.{Need}
use Rattle.ca_header.specs.Framing.{IsPartHead, IsPartMessage, IsPartial}
use Rattle.ca_header.specs.Reading.{after_first, first_message, front_at, head_at, header_at}
use Rattle.ca_header.specs.Spelling.{BeginsWith, HasFault, IsBytes, IsSpelled}
use Rattle.ca_header.proofs.Heads.{BeginsWith-append, header_at-begins, header_at-spelling}
use Rattle.ca_header.proofs.Fronts.{IsFront, IsFront-front_at, IsHead, IsHead-head_at, bad, begins-front_at, bodiless, faulty, front_at-begins, front_at-faulty, got, headless, need, whole}

abbrev message_of : Header → List ℕ → Message
message_of h payload = record { head = h; payload = payload }

-- the header, the message and what follows it, where the bytes after the header are known
first_message-parts : (h : Header) (head payload rest : List ℕ) → length payload ≡ h.size → first_message h (length head) (head ++ (payload ++ rest)) ≡ message_of h payload
first_message-parts h head payload rest size =
    ap (message_of h) (ap (take h.size) (drop_at head (payload ++ rest) (length head) refl) ∙ take_at payload rest h.size size)

after_first-parts : (h : Header) (head payload rest : List ℕ) → length payload ≡ h.size → after_first h (length head) (head ++ (payload ++ rest)) ≡ rest
after_first-parts h head payload rest size =
    sym (drop-drop h.size (length head) (head ++ (payload ++ rest)))
    ∙ ap (drop h.size) (drop_at head (payload ++ rest) (length head) refl)
    ∙ drop_at payload rest h.size size

-- ---- a spelled message is found

pub record IsFound (m : Message) (bytes rest : List ℕ) : Type 0 where
  pub len : ℕ
  pub front : front_at bytes ≡ Whole m.head len
  pub message : first_message m.head len bytes ≡ m
  pub after : after_first m.head len bytes ≡ rest

pub found-spelled : (m : Message) (text rest : List ℕ) → IsSpelled m text → IsFound m (text ++ rest) rest
found-spelled m text rest s =
    let parts : text ++ rest ≡ s.head ++ (m.payload ++ rest) = ap (λ (t : List ℕ). t ++ rest) s.parts ∙ append_assoc s.head m.payload rest in
    let head : BeginsWith (text ++ rest) m.head (length s.head) = record { head = s.head; rest = m.payload ++ rest; spelling = s.spelling; len = refl; parts = parts } in
    let size = s.size in
    let lens : length (text ++ rest) ≡ length s.head + length (m.payload ++ rest) = ap length parts ∙ length-append s.head (m.payload ++ rest) in
    record {
      len = length s.head;
      front = front_at-begins (text ++ rest) m.head (length s.head) head s.well_formed (omega (arith, length-append m.payload rest));
      message = ap (first_message m.head (length s.head)) parts ∙ first_message-parts m.head s.head m.payload rest s.size;
      after = ap (after_first m.head (length s.head)) parts ∙ after_first-parts m.head s.head m.payload rest s.size;
    }

-- ---- a message that is found is spelled

pub record IsCut (m : Message) (bytes rest : List ℕ) : Type 0 where
  pub text : List ℕ
  pub spelled : IsSpelled m text
  pub parts : bytes ≡ text ++ rest

pub cut-front_at : (bytes : List ℕ) (h : Header) (n : ℕ) → IsBytes bytes → front_at bytes ≡ Whole h n → IsCut (first_message h n bytes) bytes (after_first h n bytes)
cut-front_at bytes h n fits e =
    let found = begins-front_at bytes h n fits e in
    let b = found.0 in
    let lens : length bytes ≡ length b.head + length b.rest = ap length b.parts ∙ length-append b.head b.rest in
    let head_len = b.len in
    let payload : List ℕ = take h.size b.rest in
    let rest : List ℕ = drop h.size b.rest in
    let size : length payload ≡ h.size = length-take-le h.size b.rest (omega (arith, found.2)) in
    let parts : bytes ≡ b.head ++ (payload ++ rest) = b.parts ∙ ap (λ (t : List ℕ). b.head ++ t) (sym (take-append-drop h.size b.rest)) in
    let message : first_message h n bytes ≡ message_of h payload =
    ap (λ (k : ℕ). first_message h k bytes) (sym b.len) ∙ ap (first_message h (length b.head)) parts ∙ first_message-parts h b.head payload rest size in
    let after : after_first h n bytes ≡ rest =
    ap (λ (k : ℕ). after_first h k bytes) (sym b.len) ∙ ap (after_first h (length b.head)) parts ∙ after_first-parts h b.head payload rest size in
    let cut : IsCut (message_of h payload) bytes rest = record {
      text = b.head ++ payload;
      spelled = record { head = b.head; spelling = b.spelling; well_formed = found.1; size = size; parts = refl };
      parts = parts ∙ sym (append_assoc b.head payload rest);
    } in
    subst (λ (m : Message). IsCut m bytes (after_first h n bytes)) (sym message) (subst (λ (t : List ℕ). IsCut (message_of h payload) bytes t) (sym after) cut)

-- ---- the beginning of a header or of a message holds no whole one

abbrev found_header : Header → ℕ → Option (Header × ℕ)
found_header h n = Some (h, n)

same_pair : (x y : Header × ℕ) → Some x ≡ Some y → x ≡ y
same_pair x y e = cc

same_found : (g h : Header) (k n : ℕ) → found_header g k ≡ found_header h n → (g ≡ h) × (k ≡ n)
same_found g h k n e =
    let pair : Header × ℕ = (g, k) in
    let other : Header × ℕ = (h, n) in
    let same = same_pair pair other e in
    (ap (λ (p : Header × ℕ). p.0) same, ap (λ (p : Header × ℕ). p.1) same)

no_head : (bytes : List ℕ) (g : Header) (k : ℕ) → IsPartHead bytes → BeginsWith bytes g k → ⊥
no_head bytes g k part b =
    let h = part.0 in
    let head = part.1 in
    let missing = part.3.missing in
    let all : header_at (bytes ++ missing) ≡ Some (h, length head) =
    ap header_at (part.3.parts ∙ sym (append-nil head)) ∙ header_at-spelling h head [] part.2 in
    let here : header_at (bytes ++ missing) ≡ Some (g, k) = header_at-begins (bytes ++ missing) g k (BeginsWith-append bytes missing g k b) in
    let same = (same_found g h k (length head) (sym here ∙ all)).1 in
    let total : length bytes + length missing ≡ length head = sym (length-append bytes missing) ∙ ap length part.3.parts in
    let within : length bytes ≡ length b.head + length b.rest = ap length b.parts ∙ length-append b.head b.rest in
    omega (arith, b.len, part.3.some_missing)

no_whole : (bytes : List ℕ) (g : Header) (k : ℕ) → IsPartMessage bytes → BeginsWith bytes g k → k + g.size ≤ length bytes → ⊥
no_whole bytes g k part b all =
    let m = part.0 in
    let s = part.2 in
    let missing = part.3.missing in
    let there : header_at (bytes ++ missing) ≡ Some (m.head, length s.head) = ap header_at (part.3.parts ∙ s.parts) ∙ header_at-spelling m.head s.head m.payload s.spelling in
    let here : header_at (bytes ++ missing) ≡ Some (g, k) = header_at-begins (bytes ++ missing) g k (BeginsWith-append bytes missing g k b) in
    let same = same_found g m.head k (length s.head) (sym here ∙ there) in
    let same_size : g.size ≡ m.head.size = ap (λ (h : Header). h.size) same.0 in
    let total : length bytes + length missing ≡ length s.head + length m.payload = sym (length-append bytes missing) ∙ ap length (part.3.parts ∙ s.parts) ∙ length-append s.head m.payload in
    omega (arith, s.size, part.3.some_missing)

no_fault : (bytes : List ℕ) (g : Header) (k : ℕ) (f : FrameFault) → IsPartMessage bytes → BeginsWith bytes g k → HasFault g f → ⊥
no_fault bytes g k f part b fault =
    let m = part.0 in
    let text = part.1 in
    let missing = part.3.missing in
    let found = found-spelled m text [] part.2 in
    let there : front_at (bytes ++ missing) ≡ Whole m.head found.len = ap front_at (part.3.parts ∙ sym (append-nil text)) ∙ found.front in
    let here : front_at (bytes ++ missing) ≡ Fault f = front_at-faulty (bytes ++ missing) g k f (BeginsWith-append bytes missing g k b) fault in
    absurd (cc)

partial_of : (bytes : List ℕ) (found : Front) → IsFront bytes found → IsPartial bytes → found ≡ Partial
partial_of bytes _ (headless part) p = refl
partial_of bytes _ (bodiless g k b w less) p = refl
partial_of bytes _ (whole g k b w all) (inl part) = absurd (no_head bytes g k part b)
partial_of bytes _ (whole g k b w all) (inr part) = absurd (no_whole bytes g k part b all)
partial_of bytes _ (faulty g k f b fault) (inl part) = absurd (no_head bytes g k part b)
partial_of bytes _ (faulty g k f b fault) (inr part) = absurd (no_fault bytes g k f part b fault)

pub front_at-partial : (bytes : List ℕ) → IsBytes bytes → IsPartial bytes → front_at bytes ≡ Partial
front_at-partial bytes fits part = partial_of bytes (front_at bytes) (IsFront-front_at bytes fits) part

needed_of : (bytes : List ℕ) (found : Head) → IsHead bytes found → IsPartHead bytes → found ≡ Need
needed_of bytes _ (got g k b w) part = absurd (no_head bytes g k part b)
needed_of bytes _ (bad g k f b fault) part = absurd (no_head bytes g k part b)
needed_of bytes _ (need it) part = refl

pub head_at-part : (bytes : List ℕ) → IsBytes bytes → IsPartHead bytes → head_at bytes ≡ Need
head_at-part bytes fits part = needed_of bytes (head_at bytes) (IsHead-head_at bytes fits) part
