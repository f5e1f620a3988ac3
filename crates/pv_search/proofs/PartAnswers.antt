-- What answers the parts of a datagram, joined, answers the datagram.
use Rattle.std.proofs.Common.{◌≡◌, ℕ, ◌+◌, ◌<◌, ◌≤◌, ◌==◌, Bool, true, false, List, [], ◌∷◌, ◌++◌, length, take, drop, Option, refl, sym, ap, subst, ◌∙◌, append_assoc, arith, cond}
use Rattle.std.specs.List.{AllZip, flat_map}
use Rattle.std.proofs.lemmas.Bool.Decides.{nat_tests}
use Rattle.std.proofs.lemmas.List.{append-nil, length-append, map-append}
use Rattle.std.proofs.lemmas.List.Concat.{flat_map-append}
use Rattle.std.proofs.lemmas.List.Elements.{filter_map-append}
use Rattle.ca_header.specs.Framing.{Rest}
use Rattle.ca_header.specs.Header.{message_text}
use Rattle.ca_header.specs.Spelling.{AreSpelled, IsBytes}
use Rattle.ca_header.specs.declared.header.Header.{Header}
use Rattle.ca_header.specs.declared.header.Message.{Message}
use Rattle.ca_header.proofs.Fields.{IsBytes-drop, IsBytes-take}
use Rattle.ca_header.proofs.Framings.{unique}
use Rattle.ca_message.specs.declared.commands.TheConstants.{CA_PROTO_SEARCH}
use Rattle.pv_search.specs.declared.answering.SearchAnswer.{SearchAnswer}
use Rattle.pv_search.specs.declared.search.SearchRequest.{SearchRequest}
use Rattle.pv_search.specs.Answer.{IsAnswer, IsTested, cids_passed, names}
use Rattle.pv_search.specs.Parts.{AreAnswers, IsFirstPart, joined, joined_answers, nothing_answered, searches_among, with_answer}
use Rattle.pv_search.specs.Picked.{IsPicked, picked_from}
use Rattle.pv_search.specs.Reply.{found, search_reply}
use Rattle.pv_search.specs.Search.{search_of}
use Rattle.pv_search.specs.Version.{version}
use Rattle.pv_search.proofs.Cutting.{framed-behind}
use Rattle.pv_search.proofs.ReadBack.{framed-sent, reply-some}
use Rattle.pv_search.proofs.Taking.{some_bytes}

-- ---- replies

abbrev finds : ℕ → List ℕ → List ℕ
finds port cids = flat_map (λ (cid : ℕ). message_text (found port cid)) cids

-- behind a reply that says something
joined-some : (reply more : List ℕ) → 0 < length reply → joined reply more ≡ reply ++ drop 16 more
joined-some reply more long =
    let some : (length reply == 0) ≡ false = grind (arith, nat_tests) in
    rw some refl

said_long : (rest : List ℕ) → 0 < length (message_text version ++ rest)
said_long rest = omega (arith, length-append (message_text version) rest)

-- the reply for these CIDs and for those is one for all
pub reply-joined : (port : ℕ) (xs ys : List ℕ) → joined (search_reply port xs) (search_reply port ys) ≡ search_reply port (xs ++ ys)
reply-joined port [] ys = refl
reply-joined port (x ∷ xs) [] =
    ap (λ (t : List ℕ). joined t []) (sym (reply-some port x xs))
    ∙ joined-some (message_text version ++ finds port (x ∷ xs)) [] (said_long (finds port (x ∷ xs)))
    ∙ append-nil (message_text version ++ finds port (x ∷ xs))
    ∙ reply-some port x xs
    ∙ ap (search_reply port) (sym (append-nil (x ∷ xs)))
reply-joined port (x ∷ xs) (y ∷ ys) =
    ap (λ (t : List ℕ). joined t (search_reply port (y ∷ ys))) (sym (reply-some port x xs))
    ∙ ap (joined (message_text version ++ finds port (x ∷ xs))) (sym (reply-some port y ys))
    ∙ joined-some (message_text version ++ finds port (x ∷ xs)) (message_text version ++ finds port (y ∷ ys)) (said_long (finds port (x ∷ xs)))
    ∙ append_assoc (message_text version) (finds port (x ∷ xs)) (finds port (y ∷ ys))
    ∙ ap (λ (t : List ℕ). message_text version ++ t) (sym (flat_map-append (λ (cid : ℕ). message_text (found port cid)) (x ∷ xs) (y ∷ ys)))
    ∙ reply-some port x (xs ++ y ∷ ys)

-- ---- what is read of the parts

picked-joined : {X : Type 0} (pick : Header → List ℕ → Option X) (datagram : List ℕ) (most n : ℕ) (xs ys : List X) → IsBytes datagram → IsFirstPart datagram most n
    → IsPicked pick (take n datagram) xs → IsPicked pick (drop n datagram) ys → IsPicked pick datagram (xs ++ ys)
picked-joined {X = X} pick datagram most n xs ys fits f p q =
    let same = unique (take n datagram) p.messages f.part p.end (Rest []) (IsBytes-take n datagram fits) p.framed (framed-sent f.part (take n datagram) f.spelled) in
    record {
      messages = f.part ++ q.messages;
      end = q.end;
      framed = framed-behind datagram n f.part q.messages q.end f.spelled q.framed;
      all =
          ap (λ (t : List X). t ++ ys) (p.all ∙ ap (picked_from pick) same.0)
          ∙ ap (λ (t : List X). picked_from pick f.part ++ t) q.all
          ∙ sym (filter_map-append (λ (m : Message). pick m.head m.payload) f.part q.messages);
    }

nothing_in : (head payload first rest : List ℕ) → first ≡ head ++ payload → [] ≡ first ++ rest → length head ≡ 0
nothing_in head payload first rest parts none =
    let all : 0 ≡ length first + length rest = ap length none ∙ length-append first rest in
    let one : length first ≡ length head + length payload = ap length parts ∙ length-append head payload in
    omega arith

one_or_none : (is : Bool) → 0 + cond is 1 0 ≤ 1
one_or_none true = omega arith
one_or_none false = omega arith

at_most_one : (m : Message) → searches_among (m ∷ []) ≤ 1
at_most_one m = one_or_none (m.head.command == CA_PROTO_SEARCH)

-- a message takes bytes, so where none are taken no message was
no_messages : (ms : List Message) → AreSpelled ms [] → ms ≡ []
no_messages [] s = refl
no_messages (m ∷ ms) s =
    let some = some_bytes m.head s.2.head s.2.spelling in
    let none : length s.2.head ≡ 0 = nothing_in s.2.head m.payload s.0 s.1 s.2.parts s.4 in
    absurd (omega arith)

-- the first part is empty only where no message is left
none_left : (most : ℕ) (part left : List Message) → 0 < most → part ≡ []
    → ((next : Message) (later : List Message) → left ≡ next ∷ later → most < searches_among (part ++ next ∷ [])) → left ≡ []
none_left most part [] some empty full = refl
none_left most part (m ∷ left) some empty full =
    let more = subst (λ (ms : List Message). most < searches_among (ms ++ m ∷ [])) empty (full m left refl) in
    let one = at_most_one m in
    absurd (omega arith)

pub nothing_picked : {X : Type 0} (pick : Header → List ℕ → Option X) (datagram : List ℕ) (most : ℕ) → 0 < most → IsFirstPart datagram most 0 → IsPicked pick datagram []
nothing_picked pick datagram most some f =
    let empty = no_messages f.part f.spelled in
    let none = none_left most f.part f.left some empty f.full in
    record {
      messages = f.part ++ f.left;
      end = f.end;
      framed = f.framed;
      all = sym (ap (picked_from pick) (ap (λ (ms : List Message). ms ++ f.left) empty ∙ none));
    }

-- ---- what is answered

module _ (answers : List ℕ → Bool → Type 0) where
  tested-joined : (xs ys : List SearchRequest) (ps qs : List Bool)
      → AllZip (λ (s : SearchRequest) (b : Bool). answers s.name b) xs ps → AllZip (λ (s : SearchRequest) (b : Bool). answers s.name b) ys qs
      → AllZip (λ (s : SearchRequest) (b : Bool). answers s.name b) (xs ++ ys) (ps ++ qs)
  tested-joined [] ys [] qs p q = q
  tested-joined [] ys (b ∷ ps) qs p q = absurd p
  tested-joined (s ∷ xs) ys [] qs p q = absurd p
  tested-joined (s ∷ xs) ys (b ∷ ps) qs p q = (p.0, tested-joined xs ys ps qs p.1 q)

  passed-joined : (xs ys : List SearchRequest) (ps qs : List Bool) → AllZip (λ (s : SearchRequest) (b : Bool). answers s.name b) xs ps
      → cids_passed (xs ++ ys) (ps ++ qs) ≡ cids_passed xs ps ++ cids_passed ys qs
  passed-joined [] ys [] qs p = refl
  passed-joined [] ys (b ∷ ps) qs p = absurd p
  passed-joined (s ∷ xs) ys [] qs p = absurd p
  passed-joined (s ∷ xs) ys (true ∷ ps) qs p = ap (λ (cids : List ℕ). s.cid ∷ cids) (passed-joined xs ys ps qs p.1)
  passed-joined (s ∷ xs) ys (false ∷ ps) qs p = passed-joined xs ys ps qs p.1

  both-tested : (xs ys : List SearchRequest) (cids more : List ℕ) → IsTested answers xs cids → IsTested answers ys more → IsTested answers (xs ++ ys) (cids ++ more)
  both-tested xs ys cids more p q =
      record {
        passes = p.passes ++ q.passes;
        asked = tested-joined xs ys p.passes q.passes p.asked q.asked;
        passed =
            ap (λ (t : List ℕ). t ++ more) p.passed ∙ ap (λ (t : List ℕ). cids_passed xs p.passes ++ t) q.passed
            ∙ sym (passed-joined xs ys p.passes q.passes p.asked);
      }

  -- what was said before, and what is read and said of the rest
  record IsRest (datagram : List ℕ) (port : ℕ) (before : List SearchRequest) (sofar : List ℕ) (all : SearchAnswer) : Type 0 where
    searches : List SearchRequest
    cids : List ℕ
    picked : IsPicked search_of datagram searches
    tested : IsTested answers searches cids
    asked : all.asked ≡ names (before ++ searches)
    reply : all.reply ≡ search_reply port (sofar ++ cids)

  rest-answered : (datagram : List ℕ) (most port : ℕ) (parts : List SearchAnswer) (before : List SearchRequest) (sofar : List ℕ) (said : SearchAnswer)
      → IsBytes datagram → 0 < most → said.asked ≡ names before → said.reply ≡ search_reply port sofar → AreAnswers answers most port datagram parts
      → IsRest datagram port before sofar (joined_answers said parts)
  rest-answered datagram most port [] before sofar said fits some asked reply are =
      record {
        searches = [];
        cids = [];
        picked = nothing_picked search_of datagram most some are;
        tested = record { passes = []; asked = tt; passed = refl };
        asked = asked ∙ ap names (sym (append-nil before));
        reply = reply ∙ ap (search_reply port) (sym (append-nil sofar));
      }
  rest-answered datagram most port (part ∷ parts) before sofar said fits some asked reply are =
      let n = are.0 in
      let a = are.2 in
      let named : said.asked ++ part.asked ≡ names (before ++ a.searches) =
      ap (λ (t : List (List ℕ)). t ++ part.asked) asked ∙ ap (λ (t : List (List ℕ)). names before ++ t) a.asked ∙ sym (map-append (λ (s : SearchRequest). s.name) before a.searches) in
      let replied : joined said.reply part.reply ≡ search_reply port (sofar ++ a.cids) =
      ap (λ (t : List ℕ). joined t part.reply) reply ∙ ap (joined (search_reply port sofar)) a.reply ∙ reply-joined port sofar a.cids in
      let on = rest-answered (drop n datagram) most port parts (before ++ a.searches) (sofar ++ a.cids) (with_answer said part) (IsBytes-drop n datagram fits) some named replied are.3 in
      record {
        searches = a.searches ++ on.searches;
        cids = a.cids ++ on.cids;
        picked = picked-joined search_of datagram most n a.searches on.searches fits are.1 a.picked on.picked;
        tested = both-tested a.searches on.searches a.cids on.cids a.tested on.tested;
        asked = on.asked ∙ ap names (append_assoc before a.searches on.searches);
        reply = on.reply ∙ ap (search_reply port) (append_assoc sofar a.cids on.cids);
      }

  -- the answers to all parts, joined, are the answer
  pub parts-answered : (datagram : List ℕ) (most port : ℕ) (parts : List SearchAnswer) → IsBytes datagram → 0 < most → AreAnswers answers most port datagram parts
      → IsAnswer answers datagram port (joined_answers nothing_answered parts)
  parts-answered datagram most port parts fits some are =
      let all = rest-answered datagram most port parts [] [] nothing_answered fits some refl refl are in
      record { searches = all.searches; cids = all.cids; picked = all.picked; tested = all.tested; asked = all.asked; reply = all.reply }
