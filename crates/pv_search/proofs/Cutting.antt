-- A datagram is cut behind one of its messages.
use Rattle.std.proofs.Common.{◌≡◌, ℕ, ◌+◌, ◌<◌, ◌≤◌, Bool, true, false, ◌==◌, List, [], ◌∷◌, ◌++◌, length, take, drop, Some, None, refl, sym, ap, subst, ◌∙◌, append_assoc, arith}
use Rattle.std.proofs.lemmas.List.{append-nil, append_cancel_right, drop-drop, length-drop, take-append-drop}
use Rattle.std.proofs.lemmas.List.Sums.{sum_by-append}
use Rattle.ca_header.specs.Framing.{Ending, Fault, IsFramed, Rest}
use Rattle.ca_header.specs.Reading.{first_message, front_at}
use Rattle.ca_header.specs.Spelling.{AreSpelled, IsBytes, IsSpelled}
use Rattle.ca_header.specs.declared.header.Header.{Header}
use Rattle.ca_header.specs.declared.header.Message.{Message}
use Rattle.ca_header.specs.declared.reading.Front.{Front}
use Rattle.ca_header.specs.declared.reading.Front.TheVariants as fronts
use Rattle.ca_header.proofs.Fields.{IsBytes-drop}
use Rattle.ca_header.proofs.Framings.{framing_of}
use Rattle.ca_header.proofs.Fronts.{begins-front_at, faulty-front_at, partial-front_at}
use Rattle.ca_header.proofs.Messages.{IsCut, cut-front_at}
use Rattle.ca_message.specs.declared.commands.TheConstants.{CA_PROTO_SEARCH}
use Rattle.pv_search.specs.declared.parts.FrontMessage.{FrontMessage}
use Rattle.pv_search.specs.PartFront.{cut_of}
use Rattle.pv_search.specs.Parts.{IsFirstPart, searches_among}
use Rattle.pv_search.proofs.Taking.{more-framed, some_bytes}

-- ---- messages and what follows them

pub spelled-append : (ms ns : List Message) (text more : List ℕ) → AreSpelled ms text → AreSpelled ns more → AreSpelled (ms ++ ns) (text ++ more)
spelled-append [] ns text more none s = subst (λ (t : List ℕ). AreSpelled ns (t ++ more)) (sym none) s
spelled-append (m ∷ ms) ns text more some s =
    (some.0, some.1 ++ more, some.2, spelled-append ms ns some.1 more some.3 s, ap (λ (t : List ℕ). t ++ more) some.4 ∙ append_assoc some.0 some.1 more)

-- the messages of the first bytes, and then those of the others, are those of all
pub framed-behind : (bytes : List ℕ) (n : ℕ) (part left : List Message) (end : Ending) → AreSpelled part (take n bytes) → IsFramed (drop n bytes) left end
    → IsFramed bytes (part ++ left) end
framed-behind bytes n part left end spelled f =
    record {
      whole = take n bytes ++ f.whole;
      left = f.left;
      spelled = spelled-append part left (take n bytes) f.whole spelled f.spelled;
      ends = f.ends;
      parts = sym (take-append-drop n bytes) ∙ ap (λ (t : List ℕ). take n bytes ++ t) f.parts ∙ sym (append_assoc (take n bytes) f.whole f.left);
    }

-- a longer front
take_longer : (bytes : List ℕ) (n k : ℕ) → take (n + k) bytes ≡ take n bytes ++ take k (drop n bytes)
take_longer bytes n k =
    append_cancel_right (take (n + k) bytes) (take n bytes ++ take k (drop n bytes)) (drop (n + k) bytes)
    (take-append-drop (n + k) bytes
    ∙ sym (take-append-drop n bytes)
    ∙ ap (λ (t : List ℕ). take n bytes ++ t) (sym (take-append-drop k (drop n bytes)))
    ∙ sym (append_assoc (take n bytes) (take k (drop n bytes)) (drop k (drop n bytes)))
    ∙ ap (λ (t : List ℕ). (take n bytes ++ take k (drop n bytes)) ++ t) (drop-drop k n bytes))

one_more_search : (part : List Message) (m : Message) → searches_among (part ++ m ∷ []) ≡ searches_among part + searches_among (m ∷ [])
one_more_search part m = sum_by-append _ part (m ∷ [])

-- ---- the message at the front

pub record IsFrontCut (bytes : List ℕ) (cut : FrontMessage) : Type 0 where
  pub message : Message
  pub taken : IsCut message bytes (drop cut.len bytes)
  pub text : IsSpelled message (take cut.len bytes)
  pub within : cut.len ≤ length bytes
  pub some : 0 < cut.len
  pub search : cut.is_search ≡ (message.head.command == CA_PROTO_SEARCH)

front-whole : (bytes : List ℕ) (h : Header) (n : ℕ) → IsBytes bytes → front_at bytes ≡ fronts.Whole h n
    → IsFrontCut bytes (record { len = n + h.size; is_search = h.command == CA_PROTO_SEARCH })
front-whole bytes h n fits is =
    let found = begins-front_at bytes h n fits is in
    let begins = found.0 in
    let some = some_bytes h begins.head begins.spelling in
    let len = begins.len in
    let cut = cut-front_at bytes h n fits is in
    let text : cut.text ≡ take (n + h.size) bytes =
    append_cancel_right cut.text (take (n + h.size) bytes) (drop (n + h.size) bytes) (sym cut.parts ∙ sym (take-append-drop (n + h.size) bytes)) in
    record {
      message = first_message h n bytes;
      taken = cut;
      text = subst (IsSpelled (first_message h n bytes)) text cut.spelled;
      within = found.2;
      some = omega arith;
      search = refl;
    }

front-found : (bytes : List ℕ) (found : Front) (cut : FrontMessage) → IsBytes bytes → front_at bytes ≡ found → Some cut ≡ cut_of found → IsFrontCut bytes cut
front-found bytes (fronts.Whole h n) cut fits is e =
    let there : FrontMessage = record { len = n + h.size; is_search = h.command == CA_PROTO_SEARCH } in
    let same : cut ≡ there = cc in
    subst (IsFrontCut bytes) (sym same) (front-whole bytes h n fits is)
front-found bytes fronts.Partial cut fits is e = absurd cc
front-found bytes (fronts.Fault f) cut fits is e = absurd cc

pub front-some : (bytes : List ℕ) (cut : FrontMessage) → IsBytes bytes → Some cut ≡ cut_of (front_at bytes) → IsFrontCut bytes cut
front-some bytes cut fits e = front-found bytes (front_at bytes) cut fits refl e

ended-found : (bytes : List ℕ) (found : Front) → IsBytes bytes → front_at bytes ≡ found → None ≡ cut_of found → (end : Ending) × IsFramed bytes [] end
ended-found bytes (fronts.Whole h n) fits is e = absurd cc
ended-found bytes fronts.Partial fits is e =
    (Rest bytes, record { whole = []; left = bytes; spelled = refl; ends = (refl, partial-front_at bytes fits is); parts = refl })
ended-found bytes (fronts.Fault f) fits is e =
    (Fault f, record { whole = []; left = bytes; spelled = refl; ends = faulty-front_at bytes f fits is; parts = refl })

pub front-none : (bytes : List ℕ) → IsBytes bytes → None ≡ cut_of (front_at bytes) → (end : Ending) × IsFramed bytes [] end
front-none bytes fits e = ended-found bytes (front_at bytes) fits refl e

-- ---- the messages so far

pub record IsCutting (datagram : List ℕ) (most len searches : ℕ) : Type 0 where
  pub part : List Message
  pub spelled : AreSpelled part (take len datagram)
  pub fits : IsBytes datagram
  pub within : len ≤ length datagram
  pub count : searches ≡ searches_among part
  pub few : searches ≤ most

pub cutting-begins : (datagram : List ℕ) (most : ℕ) → IsBytes datagram → IsCutting datagram most 0 0
cutting-begins datagram most fits =
    record { part = []; spelled = refl; fits = fits; within = omega arith; count = refl; few = omega arith }

-- whether the message is a search, as a number
counted : (m : Message) (is : Bool) → is ≡ (m.head.command == CA_PROTO_SEARCH) → is ≡ true → searches_among (m ∷ []) ≡ 1
counted m is same holds = rw (sym same ∙ holds) refl

uncounted : (m : Message) (is : Bool) → is ≡ (m.head.command == CA_PROTO_SEARCH) → is ≡ false → searches_among (m ∷ []) ≡ 0
uncounted m is same fails = rw (sym same ∙ fails) refl

cutting-on : (datagram : List ℕ) (most len searches more : ℕ) (cut : FrontMessage) (c : IsCutting datagram most len searches) (f : IsFrontCut (drop len datagram) cut)
    → more ≡ searches + searches_among (f.message ∷ []) → more ≤ most → IsCutting datagram most (len + cut.len) more
cutting-on datagram most len searches more cut c f is few =
    record {
      part = c.part ++ f.message ∷ [];
      spelled =
          subst (AreSpelled (c.part ++ f.message ∷ [])) (sym (take_longer datagram len cut.len))
          (spelled-append c.part (f.message ∷ []) (take len datagram) (take cut.len (drop len datagram)) c.spelled
          (take cut.len (drop len datagram), [], f.text, refl, sym (append-nil (take cut.len (drop len datagram)))));
      fits = c.fits;
      within = let rest = length-drop len datagram in let there = f.within in let sofar = c.within in omega arith;
      count = is ∙ ap (λ (n : ℕ). n + searches_among (f.message ∷ [])) c.count ∙ sym (one_more_search c.part f.message);
      few = few;
    }

pub cutting-search : (datagram : List ℕ) (most len searches : ℕ) (cut : FrontMessage) → IsCutting datagram most len searches → IsFrontCut (drop len datagram) cut
    → cut.is_search ≡ true → searches < most → IsCutting datagram most (len + cut.len) (searches + 1)
cutting-search datagram most len searches cut c f holds less =
    cutting-on datagram most len searches (searches + 1) cut c f (ap (λ (n : ℕ). searches + n) (sym (counted f.message cut.is_search f.search holds))) (omega arith)

pub cutting-other : (datagram : List ℕ) (most len searches : ℕ) (cut : FrontMessage) → IsCutting datagram most len searches → IsFrontCut (drop len datagram) cut
    → cut.is_search ≡ false → IsCutting datagram most (len + cut.len) searches
cutting-other datagram most len searches cut c f fails =
    let none = uncounted f.message cut.is_search f.search fails in
    cutting-on datagram most len searches searches cut c f (omega arith) c.few

pub cutting-ends : (datagram : List ℕ) (most len searches : ℕ) → IsCutting datagram most len searches → None ≡ cut_of (front_at (drop len datagram))
    → IsFirstPart datagram most len
cutting-ends datagram most len searches c none =
    let ended = front-none (drop len datagram) (IsBytes-drop len datagram c.fits) none in
    record {
      part = c.part;
      left = [];
      end = ended.0;
      framed = framed-behind datagram len c.part [] ended.0 c.spelled ended.1;
      spelled = c.spelled;
      within = c.within;
      few = subst (λ (n : ℕ). n ≤ most) c.count c.few;
      full = λ next later e. absurd cc;
    }

too_many : (part : List Message) (m next : Message) (ms later : List Message) (most searches : ℕ) → searches ≡ searches_among part → searches ≡ most
    → searches_among (m ∷ []) ≡ 1 → m ∷ ms ≡ next ∷ later → most < searches_among (part ++ next ∷ [])
too_many part m next ms later most searches count full one e =
    let same : m ≡ next = cc in
    subst (λ (x : Message). most < searches_among (part ++ x ∷ [])) same (let all = one_more_search part m in omega arith)

pub cutting-full : (datagram : List ℕ) (most len searches : ℕ) (cut : FrontMessage) → IsCutting datagram most len searches → IsFrontCut (drop len datagram) cut
    → cut.is_search ≡ true → searches ≡ most → IsFirstPart datagram most len
cutting-full datagram most len searches cut c f holds full =
    let rest : List ℕ = drop len datagram in
    let bytes : IsBytes rest = IsBytes-drop len datagram c.fits in
    let more = framing_of (drop cut.len rest) (IsBytes-drop cut.len rest bytes) in
    let left = more-framed rest f.message (drop cut.len rest) more.0 more.1 f.taken more.2 in
    let one = counted f.message cut.is_search f.search holds in
    record {
      part = c.part;
      left = f.message ∷ more.0;
      end = more.1;
      framed = framed-behind datagram len c.part (f.message ∷ more.0) more.1 c.spelled left;
      spelled = c.spelled;
      within = c.within;
      few = subst (λ (n : ℕ). n ≤ most) c.count c.few;
      full = λ next later e. too_many c.part f.message next more.0 later most searches c.count full one e;
    }
