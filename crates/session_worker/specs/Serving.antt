-- What a reader has read and offered.
use Rattle.std.specs.Prelude.{◌≡◌, ℕ, ◌<◌, ◌≤◌, List, [], ◌∷◌, ◌++◌, map, Option, ⊤}
use Rattle.std.specs.Io.KnownBytes.{Consumes, IsAtEnd}
use Rattle.ca_header.specs.Framing.{IsFramed}
use Rattle.ca_header.specs.Framing.Ending.{Rest, Fault}
use Rattle.ca_header.specs.Reading.{front_at}
use Rattle.ca_header.specs.Spelling.{AreSpelled, IsBytes}
use Rattle.ca_header.specs.declared.header.Message.{Message}
use Rattle.ca_header.specs.declared.reading.Front.TheVariants as fronts
use Rattle.session_worker.specs.Links.{HasRisen}
use Rattle.session_worker.specs.declared.reader.HeardPiece.{HeardPiece}
use Rattle.session_worker.specs.declared.reader.HeardPiece.TheVariants.{More, End}
use Rattle.session_worker.specs.declared.reader.InEnd.{InEnd}
use Rattle.session_worker.specs.declared.reader.InEnd.TheVariants.{Closed, ReadFault, Framing, GateFailed, OutOfMemory}
use Rattle.board_rings.specs.declared.inbound.Inbound.{Inbound}
use Rattle.board_rings.specs.declared.inbound.Inbound.TheVariants as inbound

-- messages as a reader hands them over
abbrev pub as_items : List Message → List Inbound
as_items messages = map inbound.Message messages

-- the bytes that were held are spellings of messages, which were offered, and then what is left
pub record Offers (held left : List ℕ) (offered offered_now : List Inbound) : Type 0 where
  pub messages : List Message
  pub whole : List ℕ
  pub spelled : AreSpelled messages whole
  pub parts : held ≡ whole ++ left
  pub told : offered_now ≡ offered ++ as_items messages

-- why no more of what is held can be offered; where it is the gate, the reader was told so
abbrev pub IsStuck : InEnd → List ℕ → ℕ → ℕ → Type 0
IsStuck (Framing fault) left stops stops_now = front_at left ≡ fronts.Fault fault
IsStuck GateFailed left stops stops_now = stops < stops_now
IsStuck OutOfMemory left stops stops_now = ⊤
IsStuck Closed left stops stops_now = ⊥
IsStuck ReadFault left stops stops_now = ⊥

-- the whole messages of what was held were offered, up to the first that couldn't be
abbrev pub IsOffered : HeardPiece → List ℕ → List ℕ → List Inbound → List Inbound → ℕ → ℕ → Type 0
IsOffered More held held_now offered offered_now stops stops_now = Offers held held_now offered offered_now × (front_at held_now ≡ fronts.Partial)
IsOffered (End end) held held_now offered offered_now stops stops_now = (left : List ℕ) × (Offers held left offered offered_now × IsStuck end left stops stops_now)

-- what a reader stands on: the bytes of its link that are to come, where they are known, how many calls of
-- it have failed, what was offered, and how often it was told that nothing is moved any more
pub record Standing : Type 0 where
  pub unread : Option (List ℕ)
  pub failed : ℕ
  pub offered : List Inbound
  pub stops : ℕ

-- these bytes were read, and of what was held and them messages were offered
pub record Hears (old new : Standing) (held left piece : List ℕ) : Type 0 where
  pub fits : IsBytes piece
  pub consumed : Consumes old.unread new.unread piece
  pub offers : Offers (held ++ piece) left old.offered new.offered

-- why a reader stops, with what is left of what it has read
abbrev pub IsWhy : InEnd → List ℕ → Standing → Standing → Type 0
IsWhy Closed left old new = (front_at left ≡ fronts.Partial) × IsAtEnd new.unread
IsWhy ReadFault left old new = (front_at left ≡ fronts.Partial) × HasRisen old.failed new.failed
IsWhy (Framing fault) left old new = front_at left ≡ fronts.Fault fault
IsWhy GateFailed left old new = old.stops < new.stops
IsWhy OutOfMemory left old new = ⊤

-- a reader goes on, with less than a message held
pub record GoesOn (old new : Standing) (held held_now : List ℕ) : Type 0 where
  pub piece : List ℕ
  pub hears : Hears old new held held_now piece
  pub partial : front_at held_now ≡ fronts.Partial
  pub fine : new.failed ≡ old.failed
  pub told : old.stops ≤ new.stops

-- a reader stops
pub record Stops (end : InEnd) (old new : Standing) (held : List ℕ) : Type 0 where
  pub piece : List ℕ
  pub left : List ℕ
  pub hears : Hears old new held left piece
  pub why : IsWhy end left old new
  pub told : old.stops ≤ new.stops

abbrev pub IsHeard : HeardPiece → Standing → Standing → List ℕ → List ℕ → Type 0
IsHeard More old new held held_now = GoesOn old new held held_now
IsHeard (End end) old new held held_now = Stops end old new held

-- a reader that wasn't stopped by the gate says last that the connection is gone
abbrev pub last_item : InEnd → List Inbound
last_item Closed = inbound.Gone ∷ []
last_item ReadFault = inbound.Gone ∷ []
last_item (Framing fault) = inbound.Gone ∷ []
last_item OutOfMemory = inbound.Gone ∷ []
last_item GateFailed = []

-- the bytes are cut into these messages, and end so; where the gate or want of memory came between, the
-- messages are the first of them, and of the gate the reader was told
abbrev pub AreOf : InEnd → List ℕ → List Message → List ℕ → Standing → Standing → Type 0
AreOf Closed bytes messages left old new = IsFramed bytes messages (Rest left) × IsAtEnd new.unread
AreOf ReadFault bytes messages left old new = IsFramed bytes messages (Rest left) × HasRisen old.failed new.failed
AreOf (Framing fault) bytes messages left old new = IsFramed bytes messages (Fault fault)
AreOf GateFailed bytes messages left old new = (whole : List ℕ) × (AreSpelled messages whole × ((bytes ≡ whole ++ left) × (old.stops < new.stops)))
AreOf OutOfMemory bytes messages left old new = (whole : List ℕ) × (AreSpelled messages whole × (bytes ≡ whole ++ left))

-- a reader has ended: it has read these bytes, and offered these messages of them
pub record IsServedIn (end : InEnd) (old new : Standing) : Type 0 where
  pub bytes : List ℕ
  pub messages : List Message
  pub left : List ℕ
  pub fits : IsBytes bytes
  pub consumed : Consumes old.unread new.unread bytes
  pub told : new.offered ≡ old.offered ++ (as_items messages ++ last_item end)
  pub framed : AreOf end bytes messages left old new
