-- A stream that is heard in pieces is heard as a whole.
use Rattle.std.proofs.Common.{◌≡◌, ℕ, List, [], ◌∷◌, ◌++◌, refl, sym, ap, subst, ◌∙◌, append_assoc, arith, inl}
use Rattle.std.proofs.lemmas.List.{append-nil}
use Rattle.std.proofs.lemmas.List.Elements.{filter_map-append}
use Rattle.ca_header.specs.Framing.{IsFramed, IsPartial, Rest}
use Rattle.ca_header.specs.Header.{canonical_header}
use Rattle.ca_header.specs.Spelling.{IsHeader}
use Rattle.ca_header.specs.declared.header.Message.{Message}
use Rattle.ca_header.proofs.Heads.{IsSpelling-canonical}
use Rattle.name_server.specs.Pieces.{AreHeard, HeardPiece, pieces, replies}
use Rattle.name_server.specs.StreamReplies.{stream_reply_of}
use Rattle.pv_search.specs.Picked.{IsPicked, picked_from}
use Rattle.pv_search.specs.Version.{version}
use Rattle.pv_search.specs.declared.replies.Reply.{Reply}
use Rattle.pv_search.proofs.Cutting.{spelled-append}

record IsJoined (bytes : List ℕ) (found : List Reply) : Type 0 where
  messages : List Message
  rest : List ℕ
  framed : IsFramed bytes messages (Rest rest)
  all : found ≡ picked_from stream_reply_of messages

joined : (held : List ℕ) (heard : List HeardPiece) (left : List ℕ) → IsPartial held → AreHeard held heard left → IsJoined (held ++ pieces heard) (replies heard)
joined held [] left part same =
    record { messages = []; rest = held; framed = record { whole = []; left = held; spelled = refl; ends = (refl, part); parts = append-nil held }; all = refl }
joined held (h ∷ more) left part are =
    let now = are.0 in
    let p = are.1 in
    let f = p.framed in
    let on = joined now more left (subst IsPartial (sym f.ends.0) f.ends.1) are.2 in
    let g = on.framed in
    record {
      messages = p.messages ++ on.messages;
      rest = on.rest;
      framed = record {
        whole = f.whole ++ g.whole;
        left = g.left;
        spelled = spelled-append p.messages on.messages f.whole g.whole f.spelled g.spelled;
        ends = g.ends;
        parts =
            sym (append_assoc held h.piece (pieces more))
            ∙ ap (λ (t : List ℕ). t ++ pieces more) f.parts
            ∙ append_assoc f.whole f.left (pieces more)
            ∙ ap (λ (t : List ℕ). f.whole ++ (t ++ pieces more)) (sym f.ends.0)
            ∙ ap (λ (t : List ℕ). f.whole ++ t) g.parts
            ∙ sym (append_assoc f.whole g.whole g.left);
      };
      all =
          ap (λ (xs : List Reply). xs ++ replies more) p.all
          ∙ ap (λ (xs : List Reply). picked_from stream_reply_of p.messages ++ xs) on.all
          ∙ sym (filter_map-append (λ (m : Message). stream_reply_of m.head m.payload) p.messages on.messages);
    }

fits-version : IsHeader version.head
fits-version = record { command = omega arith; dtype = omega arith; p1 = omega arith; p2 = omega arith; count = omega arith; size = omega arith }

-- no bytes are the beginning of a message
nothing_is_part : IsPartial []
nothing_is_part =
    inl (version.head, canonical_header version.head, IsSpelling-canonical version.head fits-version, record { missing = canonical_header version.head; some_missing = omega arith; parts = refl })

pub picked_in_pieces : (heard : List HeardPiece) (left : List ℕ) → AreHeard [] heard left → IsPicked stream_reply_of (pieces heard) (replies heard)
picked_in_pieces heard left are =
    let all = joined [] heard left nothing_is_part are in
    record { messages = all.messages; end = Rest all.rest; framed = all.framed; all = all.all }
