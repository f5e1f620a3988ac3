-- Answers to searches, by what a test is known to answer.
use Rattle.std.proofs.Common.{ℕ, List, [], ◌∷◌, Bool}
use Rattle.std.specs.List.{AllZip}
use Rattle.pv_search.specs.declared.answering.SearchAnswer.{SearchAnswer}
use Rattle.pv_search.specs.declared.search.SearchRequest.{SearchRequest}
use Rattle.pv_search.specs.Answer.{IsAnswer}

module _ (answers others : List ℕ → Bool → Type 0) (weaker : (name : List ℕ) (passes : Bool) → answers name passes → others name passes) where
  zip_weaker : (searches : List SearchRequest) (passes : List Bool)
      → AllZip (λ (s : SearchRequest) (b : Bool). answers s.name b) searches passes → AllZip (λ (s : SearchRequest) (b : Bool). others s.name b) searches passes
  zip_weaker [] [] all = all
  zip_weaker [] (b ∷ passes) all = all
  zip_weaker (s ∷ searches) [] all = all
  zip_weaker (s ∷ searches) (b ∷ passes) all = (weaker s.name b all.0, zip_weaker searches passes all.1)

  pub answer_weaker : (datagram : List ℕ) (port : ℕ) (answer : SearchAnswer) → IsAnswer answers datagram port answer → IsAnswer others datagram port answer
  answer_weaker datagram port answer is = record {
    searches = is.searches;
    cids = is.cids;
    picked = is.picked;
    tested = record { passes = is.tested.passes; asked = zip_weaker is.searches is.tested.passes is.tested.asked; passed = is.tested.passed };
    asked = is.asked;
    reply = is.reply;
  }
