-- What a client's datagram comes to.
use Rattle.std.specs.Prelude.{◌≡◌, ℕ, Bool, true, false, List, [], ◌∷◌, ◌++◌, map}
use Rattle.std.specs.List.{AllZip}
use Rattle.pv_search.specs.declared.answering.SearchAnswer.{SearchAnswer}
use Rattle.pv_search.specs.declared.search.SearchRequest.{SearchRequest}
use Rattle.pv_search.specs.Picked.{IsPicked}
use Rattle.pv_search.specs.Reply.{search_reply}
use Rattle.pv_search.specs.Search.{search_of}

abbrev pub names : List SearchRequest → List (List ℕ)
names searches = map (λ (s : SearchRequest). s.name) searches

-- the CIDs of the searches whose names passed, given what the test answered for each
abbrev pub cids_passed : List SearchRequest → List Bool → List ℕ
cids_passed (s ∷ searches) (true ∷ passes) = s.cid ∷ cids_passed searches passes
cids_passed (s ∷ searches) (false ∷ passes) = cids_passed searches passes
cids_passed _ _ = []

-- the test answers for the name of each search, and these are the CIDs of those that pass
pub record IsTested (answers : List ℕ → Bool → Type 0) (searches : List SearchRequest) (cids : List ℕ) : Type 0 where
  pub passes : List Bool
  pub asked : AllZip (λ (s : SearchRequest) (b : Bool). answers s.name b) searches passes
  pub passed : cids ≡ cids_passed searches passes

-- the names that the datagram searches for, and the reply for those that pass
pub record IsAnswer (answers : List ℕ → Bool → Type 0) (datagram : List ℕ) (port : ℕ) (answer : SearchAnswer) : Type 0 where
  pub searches : List SearchRequest
  pub cids : List ℕ
  pub picked : IsPicked search_of datagram searches
  pub tested : IsTested answers searches cids
  pub asked : answer.asked ≡ names searches
  pub reply : answer.reply ≡ search_reply port cids

-- among what the datagram searches for is a name for which the test has no answer
pub record HasUnanswered (answers : List ℕ → Bool → Type 0) (datagram : List ℕ) : Type 0 where
  pub before : List SearchRequest
  pub search : SearchRequest
  pub after : List SearchRequest
  pub picked : IsPicked search_of datagram (before ++ search ∷ after)
  pub none : (passes : Bool) → ¬ answers search.name passes
