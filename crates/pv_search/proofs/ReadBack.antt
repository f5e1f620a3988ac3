-- What is written is read back.
use Rattle.std.proofs.Common.{◌≡◌, ℕ, ◌+◌, ◌-◌, ◌%◌, ◌<◌, ◌≤◌, ◌^◌, List, [], ◌∷◌, ◌++◌, length, map, min, Option, refl, sym, ap, ◌∙◌, subst, arith, inl, ◌==◌, false}
use Rattle.std.proofs.Math.Nat.{min-eq_left}
use Rattle.std.specs.List.{cons_option, flat_map}
use Rattle.std.proofs.lemmas.List.{append-nil, length-append, length-replicate}
use Rattle.std.proofs.lemmas.Bool.Decides.{nat_tests}
use Rattle.ca_header.specs.Framing.{IsFramed, IsPartial, Rest}
use Rattle.ca_header.specs.Header.{canonical_header, message_text}
use Rattle.ca_header.specs.Spelling.{AreSpelled, IsBytes, IsHeader, IsSpelled}
use Rattle.ca_header.specs.declared.header.Header.{Header}
use Rattle.ca_header.specs.declared.header.Message.{Message}
use Rattle.ca_header.proofs.Framings.{unique}
use Rattle.ca_header.proofs.Heads.{IsSpelling-canonical}
use Rattle.ca_message.specs.Padding.{nul_ended}
use Rattle.ca_message.specs.Wire.{IsWholeMessage}
use Rattle.ca_message.proofs.ReadBack.{word_read_back}
use Rattle.pv_name.specs.Name.{IsName}
use Rattle.pv_name.specs.declared.name.TheConstants.{NAME_LIMIT}
use Rattle.pv_search.specs.declared.asks.NameAsk.{NameAsk}
use Rattle.pv_search.specs.declared.search.SearchRequest.{SearchRequest}
use Rattle.pv_search.specs.Ask.{ask, ask_text}
use Rattle.pv_search.specs.Asks.{asked_searches, asks_text}
use Rattle.pv_search.specs.Found.{found_cid}
use Rattle.pv_search.specs.Laws.{AreAsks, AreCids}
use Rattle.pv_search.specs.Picked.{IsPicked, picked_from}
use Rattle.pv_search.specs.Reply.{found, search_reply}
use Rattle.pv_search.specs.Search.{search_for, search_of}
use Rattle.pv_search.specs.Version.{version}

-- a datagram has one framing, so one thing is read from it
pub read_in_one_way : {X : Type 0} (pick : Header → List ℕ → Option X) (datagram : List ℕ) (xs ys : List X) → IsBytes datagram
    → IsPicked pick datagram xs → IsPicked pick datagram ys → xs ≡ ys
read_in_one_way pick datagram xs ys fits p q =
    let same = unique datagram p.messages q.messages p.end q.end fits p.framed q.framed in
    p.all ∙ ap (picked_from pick) same.0 ∙ sym q.all

-- ---- messages that are sent

spelled-sent : (m : Message) → IsHeader m.head → IsWholeMessage m → IsSpelled m (message_text m)
spelled-sent m fits w =
    record { head = canonical_header m.head; spelling = IsSpelling-canonical m.head fits; well_formed = w.well_formed; size = w.size; parts = refl }

fits-version : IsHeader version.head
fits-version = record { command = omega arith; dtype = omega arith; p1 = omega arith; p2 = omega arith; count = omega arith; size = omega arith }

whole-version : IsWholeMessage version
whole-version = record { well_formed = record { aligned = refl; within_limit = omega arith }; size = refl }

-- no bytes are the beginning of any header
nothing_is_part : IsPartial []
nothing_is_part =
    inl (version.head, canonical_header version.head, IsSpelling-canonical version.head fits-version, record { missing = canonical_header version.head; some_missing = omega arith; parts = refl })

pub framed-sent : (ms : List Message) (text : List ℕ) → AreSpelled ms text → IsFramed text ms (Rest [])
framed-sent ms text spelled =
    record { whole = text; left = []; spelled = spelled; ends = (refl, nothing_is_part); parts = sym (append-nil text) }

-- ---- a search

whole-ask : (name : List ℕ) (cid : ℕ) → IsName name → IsWholeMessage (ask name cid)
whole-ask name cid is_name =
    let n : ℕ = length (name ++ 0 ∷ []) in
    let text : n ≡ length name + 1 = length-append name (0 ∷ []) in
    let short : length name ≤ 255 = is_name.short in
    let len : length (nul_ended name) ≡ n + (8 - n % 8) % 8 = simp (length-append, length-replicate) in
    let size : min (length (nul_ended name)) 0xFFFF_FFFF ≡ length (nul_ended name) = min-eq_left (omega arith) in
    record { well_formed = record { aligned = rw size (omega arith); within_limit = rw size (omega arith) }; size = sym size }

fits-ask : (name : List ℕ) (cid : ℕ) → IsName name → cid < 2 ^ 32 → IsHeader (ask name cid).head
fits-ask name cid is_name fits =
    let whole = whole-ask name cid is_name in
    let small = whole.well_formed.within_limit in
    record { command = omega arith; dtype = omega arith; p1 = fits; p2 = fits; count = omega arith; size = omega arith }

pub search_read_back : (name : List ℕ) (cid : ℕ) → IsName name → cid < 2 ^ 32 → IsPicked search_of (ask_text name cid) (record { cid = cid; name = name } ∷ [])
search_read_back name cid is_name fits =
    let m = ask name cid in
    let last : AreSpelled (m ∷ []) (message_text m) = (message_text m, [], spelled-sent m (fits-ask name cid is_name fits) (whole-ask name cid is_name), refl, sym (append-nil (message_text m))) in
    let both : AreSpelled (version ∷ m ∷ []) (ask_text name cid) = (message_text version, message_text m, spelled-sent version fits-version whole-version, last, refl) in
    record {
      messages = version ∷ m ∷ [];
      end = Rest [];
      framed = framed-sent (version ∷ m ∷ []) (ask_text name cid) both;
      all = sym (ap (λ found. cons_option (search_for cid found) []) (word_read_back NAME_LIMIT name is_name));
    }

-- ---- several searches

abbrev ask_of : NameAsk → Message
ask_of a = ask a.name a.cid

spelled-asks : (asks : List NameAsk) → AreAsks asks → AreSpelled (map ask_of asks) (flat_map (λ (a : NameAsk). message_text (ask a.name a.cid)) asks)
spelled-asks [] all = refl
spelled-asks (a ∷ asks) all =
    (message_text (ask_of a), flat_map (λ (x : NameAsk). message_text (ask x.name x.cid)) asks, spelled-sent (ask_of a) (fits-ask a.name a.cid all.0 all.1) (whole-ask a.name a.cid all.0), spelled-asks asks all.2, refl)

picked-asks : (asks : List NameAsk) → AreAsks asks → asked_searches asks ≡ picked_from search_of (map ask_of asks)
picked-asks [] all = refl
picked-asks (a ∷ asks) all =
    ap (λ (xs : List SearchRequest). record { cid = a.cid; name = a.name } ∷ xs) (picked-asks asks all.2)
    ∙ sym (ap (λ found. cons_option (search_for a.cid found) (picked_from search_of (map ask_of asks))) (word_read_back NAME_LIMIT a.name all.0))

pub searches_read_back : (asks : List NameAsk) → AreAsks asks → IsPicked search_of (asks_text asks) (asked_searches asks)
searches_read_back asks all =
    let text = flat_map (λ (a : NameAsk). message_text (ask a.name a.cid)) asks in
    record {
      messages = version ∷ map ask_of asks;
      end = Rest [];
      framed = framed-sent (version ∷ map ask_of asks) (asks_text asks) (message_text version, text, spelled-sent version fits-version whole-version, spelled-asks asks all, refl);
      all = picked-asks asks all;
    }

-- ---- a reply

fits-found : (port cid : ℕ) → port < 2 ^ 16 → cid < 2 ^ 32 → IsHeader (found port cid).head
fits-found port cid p c = record { command = omega arith; dtype = p; p1 = omega arith; p2 = c; count = omega arith; size = omega arith }

whole-found : (port cid : ℕ) → IsWholeMessage (found port cid)
whole-found port cid = record { well_formed = record { aligned = refl; within_limit = omega arith }; size = refl }

spelled-found : (port : ℕ) (cids : List ℕ) → port < 2 ^ 16 → AreCids cids → AreSpelled (map (found port) cids) (flat_map (λ (cid : ℕ). message_text (found port cid)) cids)
spelled-found port [] p all = refl
spelled-found port (cid ∷ cids) p all =
    (message_text (found port cid), flat_map (λ (c : ℕ). message_text (found port c)) cids, spelled-sent (found port cid) (fits-found port cid p all.0) (whole-found port cid), spelled-found port cids p all.1, refl)

picked-found : (port : ℕ) (cids : List ℕ) → cids ≡ picked_from found_cid (map (found port) cids)
picked-found port [] = refl
picked-found port (cid ∷ cids) = ap (λ (xs : List ℕ). cid ∷ xs) (picked-found port cids)

pub reply-some : (port cid : ℕ) (cids : List ℕ) → message_text version ++ flat_map (λ (c : ℕ). message_text (found port c)) (cid ∷ cids) ≡ search_reply port (cid ∷ cids)
reply-some port cid cids =
    let some : (length (cid ∷ cids) == 0) ≡ false = grind (arith, nat_tests) in
    rw some refl

pub reply_read_back : (port : ℕ) (cids : List ℕ) → port < 2 ^ 16 → AreCids cids → IsPicked found_cid (search_reply port cids) cids
reply_read_back port [] p all =
    record { messages = []; end = Rest []; framed = framed-sent [] [] refl; all = refl }
reply_read_back port (cid ∷ cids) p all =
    let ms = map (found port) (cid ∷ cids) in
    let text = flat_map (λ (c : ℕ). message_text (found port c)) (cid ∷ cids) in
    let spelled : AreSpelled (version ∷ ms) (message_text version ++ text) = (message_text version, text, spelled-sent version fits-version whole-version, spelled-found port (cid ∷ cids) p all, refl) in
    record {
      messages = version ∷ ms;
      end = Rest [];
      framed = subst (λ (t : List ℕ). IsFramed t (version ∷ ms) (Rest [])) (reply-some port cid cids) (framed-sent (version ∷ ms) (message_text version ++ text) spelled);
      all = picked-found port (cid ∷ cids);
    }
