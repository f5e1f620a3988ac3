-- What is done with an outbox.
use Rattle.std.specs.Prelude.{◌≡◌, ℕ, List, [], ◌∷◌, ◌++◌, length, drop, Bool, true, false, ◌||◌, nat_le, if◌then◌else◌, Option, Some, None}
use Rattle.fanout.specs.declared.outbox.Out.{Out}
use Rattle.fanout.specs.declared.outbox.AppendFault.{AppendFault}
use Rattle.fanout.specs.declared.outbox.AppendFault.TheVariants.{OutOfMemory, Marked}
use Rattle.fanout.specs.Waiting.{Waiting}

-- it takes no message: it is marked, or so many wait as may wait at most
abbrev pub refuses : ℕ → Waiting → Bool
refuses most box = box.marked || nat_le most (length box.messages)

-- with a message put last where so many may wait at most; one that is refused is dropped, and leaves the mark
abbrev pub appended : ℕ → Waiting → Out → Waiting
appended most box out =
    if refuses most box then record box { marked = true } else record box { messages = box.messages ++ out ∷ [] }

-- without its oldest messages
abbrev pub without_first : ℕ → Waiting → Waiting
without_first count box = record box { messages = drop count box.messages }

abbrev first_of : List Out → Option Out
first_of [] = None
first_of (out ∷ outs) = Some out

-- its oldest message
abbrev pub front : Waiting → Option Out
front box = first_of box.messages

-- why the message wasn't taken, and what that leaves
abbrev pub IsRefusalOf : ℕ → Waiting → Out → Waiting → AppendFault → Type 0
IsRefusalOf most old out new (OutOfMemory back) = (refuses most old ≡ false) × (new ≡ old) × (back ≡ out)
IsRefusalOf most old out new (Marked back) = (refuses most old ≡ true) × (new ≡ appended most old out) × (back ≡ out)
