-- Whole messages at the front of a stream.
use Rattle.std.proofs.Common.{◌≡◌, ℕ, ◌+◌, ◌<◌, ◌≤◌, Bool, true, false, nat_lt, nat_le, if◌then◌else◌, List, [], ◌∷◌, ◌++◌, length, take, drop, Option, Some, None, Result, Ok, Err, refl, sym, ap, subst, ◌∙◌, append_assoc, arith, inl, inr}
use Rattle.std.proofs.lemmas.Bool.Decides.{nat_tests}
use Rattle.std.proofs.lemmas.List.{append-nil, append_cancel_right, drop-drop, length-append, length-drop, take-append-drop}
use Rattle.std.proofs.lemmas.List.Elements.{All-append, All-cons, All-nil}
use Rattle.ca_header.specs.Framing.{Ending, IsFramed, IsPartHead, Rest}
use Rattle.ca_header.specs.Reading.{first_message, front_at, front_of, head_at}
use Rattle.ca_header.specs.Spelling.{AreSpelled, IsBytes, IsSpelled, IsSpelling}
use Rattle.ca_header.specs.declared.header.Header.{Header}
use Rattle.ca_header.specs.declared.header.Message.{Message}
use Rattle.ca_header.specs.declared.header.TheConstants.{EXTENDED_LEN}
use Rattle.ca_header.specs.declared.reading.Front.{Front}
use Rattle.ca_header.specs.declared.reading.Front.TheVariants.{Partial, Whole}
use Rattle.ca_header.specs.declared.reading.Head.{Head}
use Rattle.ca_header.specs.declared.reading.Head.TheVariants.{Got, Misaligned, Need, TooLarge}
use Rattle.ca_header.proofs.Fields.{IsBytes-drop}
use Rattle.ca_header.proofs.Framings.{unique}
use Rattle.ca_header.proofs.Fronts.{begins-front_at, begins-head_at, part-head_at, partial-front_at}
use Rattle.ca_header.proofs.Messages.{cut-front_at}
use Rattle.name_server.specs.Streams.{AreShort, IsHeard, IsNoStream, IsWholePart, is_refused, len_of}
use Rattle.name_server.specs.declared.stream_replies.StreamFault.{StreamFault}
use Rattle.name_server.specs.declared.stream_replies.StreamFault.TheVariants.{NoAnswers}
use Rattle.name_server.specs.declared.stream_replies.TheConstants.{PAYLOAD_LIMIT}
use Rattle.name_server.specs.StreamReplies.{stream_reply_of}
use Rattle.pv_search.specs.Picked.{IsPicked, picked_from}
use Rattle.pv_search.specs.declared.replies.Reply.{Reply}
use Rattle.pv_search.proofs.Cutting.{spelled-append}
use Rattle.pv_search.proofs.Taking.{some_bytes}

-- ---- what stands at the front

short_head : (h : Header) (head : List ℕ) → IsSpelling h head → length head ≤ 24
short_head h head spelling =
    elim spelling.1 as (λ _. length head ≤ 24) [
      | inl plain ↦ subst (λ (t : List ℕ). length t ≤ 24) (sym plain.1) (omega arith)
      | inr extended ↦ subst (λ (t : List ℕ). length t ≤ 24) (sym extended) (omega arith)
    ]

few_of_part : (bytes : List ℕ) → IsPartHead bytes → length bytes < EXTENDED_LEN + PAYLOAD_LIMIT
few_of_part bytes p =
    let short = short_head p.0 p.1 p.2 in
    let prefix = p.3 in
    let some = prefix.some_missing in
    let len : length bytes + length prefix.missing ≡ length p.1 = sym (length-append bytes prefix.missing) ∙ ap length prefix.parts in
    omega arith

-- the message at the front
pub record IsFrontMessage (bytes : List ℕ) (len : ℕ) : Type 0 where
  pub message : Message
  pub text : IsSpelled message (take len bytes)
  pub short : message.head.size ≤ PAYLOAD_LIMIT
  pub within : len ≤ length bytes
  pub some : 0 < len

front-whole : (bytes : List ℕ) (h : Header) (n : ℕ) → IsBytes bytes → front_at bytes ≡ Whole h n → h.size ≤ PAYLOAD_LIMIT → IsFrontMessage bytes (n + h.size)
front-whole bytes h n fits is short =
    let found = begins-front_at bytes h n fits is in
    let begins = found.0 in
    let some = some_bytes h begins.head begins.spelling in
    let len = begins.len in
    let cut = cut-front_at bytes h n fits is in
    let text : cut.text ≡ take (n + h.size) bytes =
    append_cancel_right cut.text (take (n + h.size) bytes) (drop (n + h.size) bytes) (sym cut.parts ∙ sym (take-append-drop (n + h.size) bytes)) in
    record {
      message = first_message h n bytes;
      text = subst (IsSpelled (first_message h n bytes)) text cut.spelled;
      short = short;
      within = found.2;
      some = omega arith;
    }

-- what is told of a header that is got
abbrev told : Bool → Bool → ℕ → Result (Option ℕ) StreamFault
told long whole len = if long then Err NoAnswers else if whole then Ok (Some len) else Ok None

front-got : (bytes : List ℕ) (h : Header) (n len : ℕ) (long whole : Bool) → IsBytes bytes → head_at bytes ≡ Got h n → nat_lt PAYLOAD_LIMIT h.size ≡ long
    → nat_le (n + h.size) (length bytes) ≡ whole → told long whole (n + h.size) ≡ Ok (Some len) → IsFrontMessage bytes len
front-got bytes h n len true whole fits is size room e = absurd cc
front-got bytes h n len false false fits is size room e = absurd cc
front-got bytes h n len false true fits is size room e =
    let same : n + h.size ≡ len = cc in
    let short : h.size ≤ PAYLOAD_LIMIT = grind (arith, nat_tests) in
    let front : front_at bytes ≡ Whole h n =
    ap (λ (f : Head). front_of f (length bytes)) is ∙ ap (λ (b : Bool). if b then Whole h n else Partial) room in
    subst (IsFrontMessage bytes) same (front-whole bytes h n fits front short)

front-of : (bytes : List ℕ) (found : Head) (len : ℕ) → IsBytes bytes → head_at bytes ≡ found → len_of found (length bytes) ≡ Ok (Some len) → IsFrontMessage bytes len
front-of bytes Need len fits is e = absurd cc
front-of bytes (Got h n) len fits is e = front-got bytes h n len (nat_lt PAYLOAD_LIMIT h.size) (nat_le (n + h.size) (length bytes)) fits is refl refl e
front-of bytes Misaligned len fits is e = absurd cc
front-of bytes TooLarge len fits is e = absurd cc

pub front-some : (bytes : List ℕ) (len : ℕ) → IsBytes bytes → len_of (head_at bytes) (length bytes) ≡ Ok (Some len) → IsFrontMessage bytes len
front-some bytes len fits e = front-of bytes (head_at bytes) len fits refl e

-- less than a message
record IsPart (bytes : List ℕ) : Type 0 where
  partial : front_at bytes ≡ Partial
  few : length bytes < EXTENDED_LEN + PAYLOAD_LIMIT

part-got : (bytes : List ℕ) (h : Header) (n : ℕ) (long whole : Bool) → IsBytes bytes → head_at bytes ≡ Got h n → nat_lt PAYLOAD_LIMIT h.size ≡ long
    → nat_le (n + h.size) (length bytes) ≡ whole → told long whole (n + h.size) ≡ Ok None → IsPart bytes
part-got bytes h n true whole fits is size room e = absurd cc
part-got bytes h n false true fits is size room e = absurd cc
part-got bytes h n false false fits is size room e =
    let short : h.size ≤ PAYLOAD_LIMIT = grind (arith, nat_tests) in
    let less : length bytes < n + h.size = grind (arith, nat_tests) in
    let begins = (begins-head_at bytes h n fits is).0 in
    let head = short_head h begins.head begins.spelling in
    let len = begins.len in
    record {
      partial = ap (λ (f : Head). front_of f (length bytes)) is ∙ ap (λ (b : Bool). if b then Whole h n else Partial) room;
      few = omega arith;
    }

part-of : (bytes : List ℕ) (found : Head) → IsBytes bytes → head_at bytes ≡ found → len_of found (length bytes) ≡ Ok None → IsPart bytes
part-of bytes Need fits is e =
    record { partial = ap (λ (f : Head). front_of f (length bytes)) is; few = few_of_part bytes (part-head_at bytes fits is) }
part-of bytes (Got h n) fits is e = part-got bytes h n (nat_lt PAYLOAD_LIMIT h.size) (nat_le (n + h.size) (length bytes)) fits is refl refl e
part-of bytes Misaligned fits is e = absurd cc
part-of bytes TooLarge fits is e = absurd cc

refused-got : (h : Header) (len : ℕ) (fault : StreamFault) (long whole : Bool) → nat_lt PAYLOAD_LIMIT h.size ≡ long → told long whole len ≡ Err fault
    → nat_lt PAYLOAD_LIMIT h.size ≡ true
refused-got h len fault true whole size e = size
refused-got h len fault false true size e = absurd cc
refused-got h len fault false false size e = absurd cc

refused-of : (found : Head) (bytes : ℕ) (fault : StreamFault) → len_of found bytes ≡ Err fault → is_refused found ≡ true
refused-of Need bytes fault e = absurd cc
refused-of (Got h n) bytes fault e = refused-got h (n + h.size) fault (nat_lt PAYLOAD_LIMIT h.size) (nat_le (n + h.size) bytes) refl e
refused-of Misaligned bytes fault e = refl
refused-of TooLarge bytes fault e = refl

-- ---- the messages so far

pub record IsSoFar (bytes : List ℕ) (len : ℕ) : Type 0 where
  pub messages : List Message
  pub spelled : AreSpelled messages (take len bytes)
  pub short : AreShort messages
  pub within : len ≤ length bytes
  pub fits : IsBytes bytes

pub begins : (bytes : List ℕ) → IsBytes bytes → IsSoFar bytes 0
begins bytes fits =
    record { messages = []; spelled = refl; short = All-nil (λ (m : Message). m.head.size ≤ PAYLOAD_LIMIT); within = omega arith; fits = fits }

-- a longer front
take_longer : (bytes : List ℕ) (n k : ℕ) → take (n + k) bytes ≡ take n bytes ++ take k (drop n bytes)
take_longer bytes n k =
    append_cancel_right (take (n + k) bytes) (take n bytes ++ take k (drop n bytes)) (drop (n + k) bytes)
    (take-append-drop (n + k) bytes
    ∙ sym (take-append-drop n bytes)
    ∙ ap (λ (t : List ℕ). take n bytes ++ t) (sym (take-append-drop k (drop n bytes)))
    ∙ sym (append_assoc (take n bytes) (take k (drop n bytes)) (drop k (drop n bytes)))
    ∙ ap (λ (t : List ℕ). (take n bytes ++ take k (drop n bytes)) ++ t) (drop-drop k n bytes))

pub goes-on : (bytes : List ℕ) (len more : ℕ) → IsSoFar bytes len → IsFrontMessage (drop len bytes) more → IsSoFar bytes (len + more)
goes-on bytes len more s f =
    record {
      messages = s.messages ++ f.message ∷ [];
      spelled =
          subst (AreSpelled (s.messages ++ f.message ∷ [])) (sym (take_longer bytes len more))
          (spelled-append s.messages (f.message ∷ []) (take len bytes) (take more (drop len bytes)) s.spelled
          (take more (drop len bytes), [], f.text, refl, sym (append-nil (take more (drop len bytes)))));
      short =
          All-append (λ (m : Message). m.head.size ≤ PAYLOAD_LIMIT) s.messages (f.message ∷ []) s.short
          (All-cons (λ (m : Message). m.head.size ≤ PAYLOAD_LIMIT) f.message [] f.short (All-nil (λ (m : Message). m.head.size ≤ PAYLOAD_LIMIT)));
      within = let rest = length-drop len bytes in let there = f.within in let sofar = s.within in omega arith;
      fits = s.fits;
    }

pub ends : (bytes : List ℕ) (len : ℕ) → IsSoFar bytes len → len_of (head_at (drop len bytes)) (length (drop len bytes)) ≡ Ok None → IsWholePart bytes len
ends bytes len s e =
    let part = part-of (drop len bytes) (head_at (drop len bytes)) (IsBytes-drop len bytes s.fits) refl e in
    record { messages = s.messages; spelled = s.spelled; short = s.short; within = s.within; partial = part.partial; few = part.few }

pub is_no_stream : (bytes : List ℕ) (len : ℕ) (fault : StreamFault) → IsSoFar bytes len → len_of (head_at (drop len bytes)) (length (drop len bytes)) ≡ Err fault
    → IsNoStream bytes
is_no_stream bytes len fault s e =
    record { messages = s.messages; len = len; spelled = s.spelled; short = s.short; refused = refused-of (head_at (drop len bytes)) (length (drop len bytes)) fault e }

-- ---- what is heard

pub heard : (bytes left : List ℕ) (len : ℕ) (replies : List Reply) → IsBytes bytes → IsWholePart bytes len → IsPicked stream_reply_of bytes replies
    → left ≡ drop len bytes → IsHeard bytes replies left
heard bytes left len replies fits part picked rest =
    let framed : IsFramed bytes part.messages (Rest (drop len bytes)) =
    record {
      whole = take len bytes;
      left = drop len bytes;
      spelled = part.spelled;
      ends = (refl, partial-front_at (drop len bytes) (IsBytes-drop len bytes fits) part.partial);
      parts = sym (take-append-drop len bytes);
    } in
    let one = unique bytes picked.messages part.messages picked.end (Rest (drop len bytes)) fits picked.framed framed in
    record {
      messages = part.messages;
      framed = subst (λ (t : List ℕ). IsFramed bytes part.messages (Rest t)) (sym rest) framed;
      short = part.short;
      all = picked.all ∙ ap (picked_from stream_reply_of) one.0;
    }
