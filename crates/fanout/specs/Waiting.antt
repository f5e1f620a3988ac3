-- The value of an outbox.
use Rattle.std.specs.Prelude.{◌≡◌, ℕ, ◌+◌, ◌-◌, ◌^◌, ◌≤◌, List, length, All, sum_by, min, Bool}
use Rattle.fanout.specs.declared.outbox.Out.{Out}

-- what waits for a connection, oldest first, and whether the connection must end
pub record Waiting : Type 0 where
  pub messages : List Out
  pub marked : Bool

-- how many bytes a message has as it goes out
abbrev pub out_len : Out → ℕ
out_len out = length out.head + length out.payload

-- how many bytes wait, as far as a number of 64 bits tells it
abbrev pub waiting_bytes : Waiting → ℕ
waiting_bytes box = min (sum_by out_len box.messages) (2 ^ 64 - 1)

-- the count of the bytes is that of these messages, which are so few and so short that it fits
pub record CountsBytes (messages : List Out) (count : ℕ) : Type 0 where
  pub few : length messages ≤ 2 ^ 32
  pub short : All (λ out. out_len out ≤ 2 ^ 65) messages
  pub counted : count ≡ sum_by out_len messages
