-- What a buffer has written to its link, and what it holds.
use Rattle.std.specs.Prelude.{◌≡◌, ℕ, ◌+◌, ◌≤◌, min, Bool, true, false, List, ◌++◌, length, Option}
use Rattle.std.specs.Io.KnownBytes.{Appends}
use Rattle.session_worker.specs.Links.{HasRisen}

-- the bytes that a buffer holds, and how many it has written, up to the largest that can be counted
pub record BufferState : Type 0 where
  pub held : List ℕ
  pub count : ℕ

-- the largest u128
abbrev pub most_counted : ℕ
most_counted = 340282366920938463463374607431768211455

-- how far bytes are written: those that the link was written, where they are known, how many calls of it
-- have failed, and how many bytes were counted, up to the largest that can be
pub record Progress : Type 0 where
  pub written : Option (List ℕ)
  pub failed : ℕ
  pub count : ℕ

-- what is left to write is what is held; or a call has failed
abbrev pub IsUpTo : Bool → List ℕ → List ℕ → Progress → Progress → Type 0
IsUpTo true left held old new = (left ≡ held) × (new.failed ≡ old.failed)
IsUpTo false left held old new = HasRisen old.failed new.failed

-- the bytes were written as far as that, and counted; if all went well, the rest of them is held
pub record IsWritten (fine : Bool) (bytes held : List ℕ) (old new : Progress) : Type 0 where
  pub part : List ℕ
  pub left : List ℕ
  pub parts : bytes ≡ part ++ left
  pub written : Appends old.written new.written part
  pub counted : old.count ≤ most_counted → new.count ≡ min (old.count + length part) most_counted
  pub so_far : IsUpTo fine left held old new
