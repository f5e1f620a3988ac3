-- A session's key is its number.
use Rattle.std.proofs.Common.{◌≡◌, ℕ, true, false, ◌&&◌, ◌==◌, refl}
use Rattle.row_index.specs.declared.key.Key.{Key}
use Rattle.row_index.specs.Rows.{same_key}
use Rattle.channel_table.specs.declared.sessions.Session.{Session}
use Rattle.channel_table.specs.Sessions.{is_numbered}
use Rattle.channel_table.specs.SessionIndex.{session_key}

-- the key under which the session of a number stands
abbrev pub number_key : ℕ → Key
number_key number = record { owner = number; id = 0 }

same_number : (number : ℕ) (session : Session) → same_key (session_key session) (number_key number) ≡ is_numbered number session
same_number number session = elim (session.number == number) as (λ t. (t && 0 == 0) ≡ t) [ true ↦ refl | false ↦ refl ]

-- a session has this key exactly where it has this number
pub by_number : (number : ℕ) → (λ session. same_key (session_key session) (number_key number)) ≡ is_numbered number
by_number number = λ i session. same_number number session i
