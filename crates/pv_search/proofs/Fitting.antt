-- As many searches stand in a datagram as fit.
use Rattle.std.proofs.Common.{◌≡◌, ℕ, ◌+◌, ◌<◌, ◌≤◌, Bool, true, false, List, [], ◌∷◌, ◌++◌, length, get_or, take, drop, refl, sym, ap, subst, ◌∙◌, ◌-◌, ◌%◌, arith, if◌then◌else◌, inl, inr}
use Rattle.std.specs.List.{flat_map}
use Rattle.std.proofs.lemmas.Bool.{cases_lt}
use Rattle.std.proofs.lemmas.List.{flat_map_more, length-append, length-replicate, take-append-drop, take-take, take_more}
use Rattle.std.proofs.lemmas.List.Concat.{flat_map-append}
use Rattle.ca_header.specs.Header.{canonical_header, extended_header, message_text, plain_header}
use Rattle.ca_header.specs.declared.header.Header.{Header}
use Rattle.ca_message.specs.Padding.{nul_ended}
use Rattle.pv_name.specs.Name.{IsName}
use Rattle.pv_search.specs.declared.asks.NameAsk.{NameAsk}
use Rattle.pv_search.specs.declared.asks.AskDatagram.{AskDatagram}
use Rattle.pv_search.specs.declared.asks.TheConstants.{ASK_LIMIT}
use Rattle.pv_search.specs.Ask.{ask}
use Rattle.pv_search.specs.Asks.{IsAddedIf, IsAskDatagram, asks_text}
use Rattle.pv_search.specs.Version.{version}

abbrev pub said : NameAsk → List ℕ
said a = message_text (ask a.name a.cid)

-- ---- a search is short

either_short : (b : Bool) (xs ys : List ℕ) → length xs ≤ 24 → length ys ≤ 24 → length (if b then xs else ys) ≤ 24
either_short true xs ys p q = p
either_short false xs ys p q = q

extended_long : (h : Header) → length (extended_header h) ≡ 24
extended_long h = refl

plain_long : (h : Header) → length (plain_header h) ≡ 16
plain_long h = refl

head_short : (h : Header) → length (canonical_header h) ≤ 24
head_short h = either_short _ (extended_header h) (plain_header h) (omega (arith, extended_long h)) (omega (arith, plain_long h))

pub ask_short : (name : List ℕ) (cid : ℕ) → IsName name → length (message_text (ask name cid)) ≤ 300
ask_short name cid is_name =
    let n : ℕ = length (name ++ 0 ∷ []) in
    let text : n ≡ length name + 1 = length-append name (0 ∷ []) in
    let short : length name ≤ 255 = is_name.short in
    let payload : length (nul_ended name) ≡ n + (8 - n % 8) % 8 = simp (length-append, length-replicate) in
    let all : length (message_text (ask name cid)) ≡ length (canonical_header (ask name cid).head) + length (nul_ended name) = length-append (canonical_header (ask name cid).head) (nul_ended name) in
    let head : length (canonical_header (ask name cid).head) ≤ 24 = head_short (ask name cid).head in
    omega arith

-- ---- the searches so far

-- the datagram has those of the first so many asks
pub record IsAsking (asks : List NameAsk) (i asked : ℕ) (bytes : List ℕ) : Type 0 where
  pub same : asked ≡ i
  pub text : bytes ≡ asks_text (take i asks)
  pub fits : length bytes ≤ ASK_LIMIT

pub asking-begins : (asks : List NameAsk) → IsAsking asks 0 0 (message_text version)
asking-begins asks = record { same = refl; text = refl; fits = omega arith }

one_more : (asks : List NameAsk) (i : ℕ) (a : NameAsk) → i < length asks → a ≡ get_or asks i a → asks_text (take (i + 1) asks) ≡ asks_text (take i asks) ++ said a
one_more asks i a within is =
    ap asks_text (take_more asks i a within ∙ ap (λ (x : NameAsk). take i asks ++ x ∷ []) (sym is))
    ∙ sym (flat_map_more said (message_text version) (take i asks) a)

pub asking-more : (asks : List NameAsk) (i asked : ℕ) (a : NameAsk) (old new : List ℕ) (fits : Bool) → i < length asks → a ≡ get_or asks i a
    → fits ≡ true → IsAddedIf fits old (said a) new → IsAsking asks i asked old → IsAsking asks (i + 1) (asked + 1) new
asking-more asks i asked a old new fits within is fit tried so_far =
    let added : IsAddedIf true old (said a) new = subst (λ (b : Bool). IsAddedIf b old (said a) new) fit tried in
    record {
      same = ap (λ (n : ℕ). n + 1) so_far.same;
      text = added.0 ∙ ap (λ (t : List ℕ). t ++ said a) so_far.text ∙ sym (one_more asks i a within is);
      fits = added.1;
    }

-- fewer asks are no longer a text
no_longer : (asks : List NameAsk) (m n : ℕ) → m ≤ n → length (asks_text (take m asks)) ≤ length (asks_text (take n asks))
no_longer asks m n le =
    let rest : List NameAsk = drop m (take n asks) in
    let split : take n asks ≡ take m asks ++ rest = sym (take-append-drop m (take n asks)) ∙ ap (λ (t : List NameAsk). t ++ rest) (take-take m n asks le) in
    let more : length (flat_map said (take m asks ++ rest)) ≡ length (flat_map said (take m asks)) + length (flat_map said rest) =
    ap length (flat_map-append said (take m asks) rest) ∙ length-append (flat_map said (take m asks)) (flat_map said rest) in
    let there : length (flat_map said (take n asks)) ≡ length (flat_map said (take m asks)) + length (flat_map said rest) = ap (λ (t : List NameAsk). length (flat_map said t)) split ∙ more in
    let fewer : length (asks_text (take m asks)) ≡ length (message_text version) + length (flat_map said (take m asks)) = length-append (message_text version) (flat_map said (take m asks)) in
    let all : length (asks_text (take n asks)) ≡ length (message_text version) + length (flat_map said (take n asks)) = length-append (message_text version) (flat_map said (take n asks)) in
    omega arith

most_of : (asks : List NameAsk) (i n asked : ℕ) → asked ≡ i → ASK_LIMIT < length (asks_text (take (i + 1) asks)) → length (asks_text (take n asks)) ≤ ASK_LIMIT → n ≤ asked
most_of asks i n asked count long short =
    elim (cases_lt i n) as (λ _. n ≤ asked) [
      | inl more ↦ let le = no_longer asks (i + 1) n (omega arith) in absurd (omega arith)
      | inr fewer ↦ omega arith
    ]

-- the next one does not fit
pub asking-full : (asks : List NameAsk) (i asked : ℕ) (a : NameAsk) (old : List ℕ) (datagram : AskDatagram) (fits : Bool) → i < length asks → a ≡ get_or asks i a
    → fits ≡ false → IsAddedIf fits old (said a) datagram.text → datagram.asked ≡ asked → IsAsking asks i asked old → IsAskDatagram asks datagram
asking-full asks i asked a old datagram fits within is unfit tried said_so so_far =
    let added : IsAddedIf false old (said a) datagram.text = subst (λ (b : Bool). IsAddedIf b old (said a) datagram.text) unfit tried in
    let count : datagram.asked ≡ i = said_so ∙ so_far.same in
    let next : asks_text (take (i + 1) asks) ≡ old ++ said a = one_more asks i a within is ∙ ap (λ (t : List ℕ). t ++ said a) (sym so_far.text) in
    let long : ASK_LIMIT < length (asks_text (take (i + 1) asks)) = subst (λ (t : List ℕ). ASK_LIMIT < length t) (sym next) added.1 in
    record {
      text = added.0 ∙ so_far.text ∙ ap (λ (n : ℕ). asks_text (take n asks)) (sym count);
      within = omega arith;
      fits = subst (λ (t : List ℕ). length t ≤ ASK_LIMIT) (sym added.0) so_far.fits;
      most = λ n there short. most_of asks i n datagram.asked count long short;
    }

-- all of them fit
pub asking-all : (asks : List NameAsk) (i asked : ℕ) (datagram : AskDatagram) → length asks ≤ i → i ≤ length asks → datagram.asked ≡ asked → IsAsking asks i asked datagram.text
    → IsAskDatagram asks datagram
asking-all asks i asked datagram all within said_so so_far =
    let count : datagram.asked ≡ i = said_so ∙ so_far.same in
    record {
      text = so_far.text ∙ ap (λ (n : ℕ). asks_text (take n asks)) (sym count);
      within = omega arith;
      fits = so_far.fits;
      most = λ n there short. omega arith;
    }

-- the first one fits
pub first_fits : (asks : List NameAsk) (i asked : ℕ) (a : NameAsk) (old new : List ℕ) (fits : Bool) → IsName a.name → fits ≡ false → IsAddedIf fits old (said a) new → IsAsking asks i asked old → 0 < asked
first_fits asks i asked a old new fits is_name unfit tried so_far =
    let added : IsAddedIf false old (said a) new = subst (λ (b : Bool). IsAddedIf b old (said a) new) unfit tried in
    elim (cases_lt 0 i) as (λ _. 0 < asked) [
      | inl some ↦ let same = so_far.same in omega arith
      | inr none ↦
          let at : i ≡ 0 = omega arith in
          let text : old ≡ message_text version = so_far.text ∙ ap (λ (n : ℕ). asks_text (take n asks)) at in
          let lens : length (old ++ said a) ≡ length old + length (said a) = length-append old (said a) in
          let short = ask_short a.name a.cid is_name in
          let head : length old ≡ 16 = ap length text in
          absurd (omega (arith, added.1))
    ]
