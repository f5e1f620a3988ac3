-- A stream that is heard in pieces.
use Rattle.std.specs.Prelude.{◌≡◌, ℕ, List, [], ◌∷◌, ◌++◌, flat_map}
use Rattle.name_server.specs.Streams.{IsHeard}
use Rattle.pv_search.specs.declared.replies.Reply.{Reply}

-- a piece, and what was heard when it came
pub record HeardPiece : Type 0 where
  pub piece : List ℕ
  pub replies : List Reply

-- what was held, what was heard of the pieces one after the other, and what is held then
abbrev pub AreHeard : List ℕ → List HeardPiece → List ℕ → Type 0
AreHeard held [] left = left ≡ held
AreHeard held (heard ∷ more) left = (now : List ℕ) × IsHeard (held ++ heard.piece) heard.replies now × AreHeard now more left

abbrev pub pieces : List HeardPiece → List ℕ
pieces heard = flat_map (λ (h : HeardPiece). h.piece) heard

abbrev pub replies : List HeardPiece → List Reply
replies heard = flat_map (λ (h : HeardPiece). h.replies) heard
