-- How sessions are found: by their keys, and by their numbers in rising order.
use Rattle.std.specs.Prelude.{◌≡◌, ℕ, List, Bool, map}
use Rattle.std.specs.List.{count_by}
use Rattle.row_index.specs.declared.key.Key.{Key}
use Rattle.row_index.specs.Rows.{row_of}
use Rattle.channel_table.specs.declared.sessions.Session.{Session}
use Rattle.named_rows.specs.Indexes.{keyed}

-- the key of a session: there is one of its number
abbrev pub session_key : Session → Key
session_key session = record { owner = session.number; id = 0 }

-- each test passes as many of the numbers as of the numbers of the sessions
abbrev pub AreNumbersOf : List ℕ → List Session → Type 0
AreNumbersOf numbers sessions = (test : ℕ → Bool) → count_by test numbers ≡ count_by (λ session. test session.number) sessions

-- the sessions are each under its key, and the numbers are those of the sessions
pub record IsSessionIndex (entries : List (Key × Session)) (numbers : List ℕ) : Type 0 where
  pub under_keys : entries ≡ keyed session_key (map row_of entries)
  pub numbered : AreNumbersOf numbers (map row_of entries)
