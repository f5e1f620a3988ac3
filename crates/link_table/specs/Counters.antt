-- The numbers that are given out.
use Rattle.std.specs.Prelude.{ℕ, zero, suc, ◌+◌, ◌^◌, ◌<◌, ◌==◌, List, length, Bool, false, ◌&&◌, ◌||◌, nat_lt, if◌then◌else◌, Option, Some, None}
use Rattle.std.specs.List.{sum}
use Rattle.std.specs.Option.{unwrap_or}
use Rattle.link_table.specs.declared.counter.Counter.{Counter}
use Rattle.link_table.specs.declared.counter.Counter.TheVariants.{Sid, Cid, Subscription, Write}
use Rattle.link_table.specs.declared.counter.TheConstants.{LAST_NUMBER}
use Rattle.link_table.specs.LinkRows.{Again, Counters}

-- no counter began again
abbrev pub never_again : Again
never_again = record { sid = false; cid = false; subscription = false; write = false }

-- each counter at this number
abbrev pub all_at : ℕ → Counters
all_at first = record { sid = first; cid = first; subscription = first; write = first; again = never_again }

-- the next number of this counter
abbrev pub counter_of : Counter → Counters → ℕ
counter_of Sid counters = counters.sid
counter_of Cid counters = counters.cid
counter_of Subscription counters = counters.subscription
counter_of Write counters = counters.write

-- NUMBERS THAT COME AGAIN

-- where numbers come again, a counter that gave out the last one goes on at the first. One that gave out a number
-- past the last one stays past its end
abbrev pub begins_again : Bool → ℕ → Bool
begins_again reuses next = reuses && next == LAST_NUMBER + 1

abbrev pub turned : Bool → ℕ → ℕ → ℕ
turned reuses first next = if begins_again reuses next then first else next

-- the first number from the next one on that nothing has, of so many that are looked at
unfoldable pub first_free : Bool → ℕ → (ℕ → Bool) → ℕ → ℕ → Option ℕ
first_free reuses first had zero next = None
first_free reuses first had (suc tries) next =
    if had (turned reuses first next) then first_free reuses first had tries (turned reuses first next + 1)
    else Some (turned reuses first next)

-- a number past the last one, and past all of these
abbrev pub past : List ℕ → ℕ
past numbers = LAST_NUMBER + 1 + sum numbers

-- the number that is given out next, where some are had. As long as its counter didn't begin again, those that were
-- given out are lower, and none is looked for. Where as many are had as there are, it is past the last one
unfoldable pub next_number : Bool → ℕ → Bool → (ℕ → Bool) → List ℕ → ℕ → ℕ
next_number reuses first again had numbers next =
    if again || begins_again reuses next
    then unwrap_or (first_free reuses first had (suc (length numbers)) next) (past numbers)
    else next

-- whether this counter began again
abbrev pub began_again : Counter → Counters → Bool
began_again Sid counters = counters.again.sid
began_again Cid counters = counters.again.cid
began_again Subscription counters = counters.again.subscription
began_again Write counters = counters.again.write

-- a number of this counter was given out: it goes on behind that
abbrev pub given_out : Counter → Bool → ℕ → Counters → Counters
given_out Sid reuses number counters = record counters {
  sid = number + 1;
  again = record counters.again { sid = counters.again.sid || begins_again reuses counters.sid };
}
given_out Cid reuses number counters = record counters {
  cid = number + 1;
  again = record counters.again { cid = counters.again.cid || begins_again reuses counters.cid };
}
given_out Subscription reuses number counters = record counters {
  subscription = number + 1;
  again = record counters.again { subscription = counters.again.subscription || begins_again reuses counters.subscription };
}
given_out Write reuses number counters = record counters {
  write = number + 1;
  again = record counters.again { write = counters.again.write || begins_again reuses counters.write };
}

-- each counter fits 32 bits, as the number that it gives out
pub record AreBounded (counters : Counters) : Type 0 where
  pub sid : counters.sid < 2 ^ 32
  pub cid : counters.cid < 2 ^ 32
  pub subscription : counters.subscription < 2 ^ 32
  pub write : counters.write < 2 ^ 32

-- a number past the last one was given out
abbrev pub is_over : ℕ → Bool
is_over next = nat_lt (LAST_NUMBER + 1) next

-- a number past the last one was given out by one of the counters
abbrev pub are_over : Counters → Bool
are_over counters =
    is_over counters.sid || is_over counters.cid || is_over counters.subscription || is_over counters.write
