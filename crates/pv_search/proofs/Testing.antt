-- The test is asked for one search after the other.
use Rattle.std.proofs.Common.{◌≡◌, ℕ, ◌+◌, ◌<◌, Bool, true, false, List, [], ◌∷◌, ◌++◌, length, get_or, drop, refl, sym, ap, subst, ◌∙◌, append_assoc}
use Rattle.std.proofs.lemmas.List.{append-nil}
use Rattle.std.specs.List.{AllZip}
use Rattle.ca_header.specs.Spelling.{IsBytes}
use Rattle.pv_search.specs.declared.answering.SearchAnswer.{SearchAnswer}
use Rattle.pv_search.specs.declared.search.SearchRequest.{SearchRequest}
use Rattle.pv_search.specs.Answer.{HasUnanswered, IsAnswer, IsTested, cids_passed, names}
use Rattle.pv_search.specs.Search.{search_of}
use Rattle.pv_search.proofs.ReadBack.{read_in_one_way}
use Rattle.pv_search.proofs.Writing.{left-at}

-- the search at the front of those that are left
front : (searches : List SearchRequest) (i : ℕ) (s : SearchRequest) → i < length searches → s ≡ get_or searches i s → drop i searches ≡ s ∷ drop (i + 1) searches
front searches i s within is = left-at searches i s within ∙ ap (λ (x : SearchRequest). x ∷ drop (i + 1) searches) (sym is)

-- its name joins those before it
pub named_on : (searches : List SearchRequest) (i : ℕ) (s : SearchRequest) (old new : List (List ℕ)) → i < length searches → s ≡ get_or searches i s
    → new ≡ old ++ s.name ∷ [] → old ++ names (drop i searches) ≡ names searches → new ++ names (drop (i + 1) searches) ≡ names searches
named_on searches i s old new within is e all =
    ap (λ (t : List (List ℕ)). t ++ names (drop (i + 1) searches)) e
    ∙ append_assoc old (s.name ∷ []) (names (drop (i + 1) searches))
    ∙ sym (ap (λ (t : List SearchRequest). old ++ names t) (front searches i s within is))
    ∙ all

module _ (answers : List ℕ → Bool → Type 0) where
  abbrev pub Answers : List SearchRequest → List Bool → Type 0
  Answers searches passes = AllZip (λ (s : SearchRequest) (b : Bool). answers s.name b) searches passes

  -- the CIDs so far, and those of the searches that are left, are those of all
  pub record IsTesting (searches left : List SearchRequest) (cids : List ℕ) : Type 0 where
    pub joined : (passes : List Bool) → Answers left passes
        → (all : List Bool) × Answers searches all × (cids ++ cids_passed left passes ≡ cids_passed searches all)

  pub testing-begins : (searches : List SearchRequest) → IsTesting searches searches []
  testing-begins searches = record { joined = λ passes asked. (passes, asked, refl) }

  pub testing-passed : (searches : List SearchRequest) (i : ℕ) (s : SearchRequest) (cids : List ℕ) → i < length searches → s ≡ get_or searches i s
      → answers s.name true → IsTesting searches (drop i searches) cids → IsTesting searches (drop (i + 1) searches) (cids ++ s.cid ∷ [])
  testing-passed searches i s cids within is answer before =
      let t : IsTesting searches (s ∷ drop (i + 1) searches) cids = subst (λ (left : List SearchRequest). IsTesting searches left cids) (front searches i s within is) before in
      record {
        joined = λ passes asked.
            let on = t.joined (true ∷ passes) (answer, asked) in
            (on.0, on.1, append_assoc cids (s.cid ∷ []) (cids_passed (drop (i + 1) searches) passes) ∙ on.2);
      }

  pub testing-refused : (searches : List SearchRequest) (i : ℕ) (s : SearchRequest) (cids : List ℕ) → i < length searches → s ≡ get_or searches i s
      → answers s.name false → IsTesting searches (drop i searches) cids → IsTesting searches (drop (i + 1) searches) cids
  testing-refused searches i s cids within is answer before =
      let t : IsTesting searches (s ∷ drop (i + 1) searches) cids = subst (λ (left : List SearchRequest). IsTesting searches left cids) (front searches i s within is) before in
      record { joined = λ passes asked. t.joined (false ∷ passes) (answer, asked) }

  pub testing-ends : (searches left : List SearchRequest) (cids : List ℕ) → left ≡ [] → IsTesting searches left cids → IsTested answers searches cids
  testing-ends searches left cids none before =
      let t : IsTesting searches [] cids = subst (λ (xs : List SearchRequest). IsTesting searches xs cids) none before in
      let on = t.joined [] tt in
      record { passes = on.0; asked = on.1; passed = sym (append-nil cids) ∙ on.2 }

  -- the search behind these has an answer
  answered-there : (before : List SearchRequest) (s : SearchRequest) (after : List SearchRequest) (passes : List Bool) → Answers (before ++ s ∷ after) passes
      → (b : Bool) × answers s.name b
  answered-there [] s after [] asked = absurd asked
  answered-there [] s after (b ∷ passes) asked = (b, asked.0)
  answered-there (x ∷ before) s after [] asked = absurd asked
  answered-there (x ∷ before) s after (b ∷ passes) asked = answered-there before s after passes asked.1

  -- there is no answer to a datagram where one of its searches has none
  pub none-unanswered : (datagram : List ℕ) (port : ℕ) (answer : SearchAnswer) → IsBytes datagram → HasUnanswered answers datagram
      → IsAnswer answers datagram port answer → ⊥
  none-unanswered datagram port answer fits h a =
      let all : List SearchRequest = h.before ++ h.search ∷ h.after in
      let same : a.searches ≡ all = read_in_one_way search_of datagram a.searches all fits a.picked h.picked in
      let asked : Answers all a.tested.passes = subst (λ (xs : List SearchRequest). Answers xs a.tested.passes) same a.tested.asked in
      let found = answered-there h.before h.search h.after a.tested.passes asked in
      h.none found.0 found.1
