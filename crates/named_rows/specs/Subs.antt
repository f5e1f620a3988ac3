-- Rows of clients' subscriptions.
use Rattle.std.specs.Prelude.{ℕ, Bool, not, ◌&&◌, ◌==◌}
use Rattle.named_rows.specs.declared.subs.ClientSub.{ClientSub}

-- the session's subscription of this ID
abbrev pub is_sub : ℕ → ℕ → ClientSub → Bool
is_sub session id sub = sub.session == session && sub.id == id

-- another
abbrev pub is_not_sub : ℕ → ℕ → ClientSub → Bool
is_not_sub session id sub = not (is_sub session id sub)

-- a subscription of the session
abbrev pub is_sub_of : ℕ → ClientSub → Bool
is_sub_of session sub = sub.session == session

-- a subscription of another
abbrev pub is_not_sub_of : ℕ → ClientSub → Bool
is_not_sub_of session sub = not (is_sub_of session sub)

-- a subscription on the session's channel of this ID
abbrev pub is_sub_on : ℕ → ℕ → ClientSub → Bool
is_sub_on session sid sub = sub.session == session && sub.sid == sid

-- a subscription on another
abbrev pub is_not_sub_on : ℕ → ℕ → ClientSub → Bool
is_not_sub_on session sid sub = not (is_sub_on session sid sub)

-- the subscription with an update owed, or with none
abbrev pub with_owed : Bool → ClientSub → ClientSub
with_owed owed sub = record sub { owed = owed }
