-- Names for what numbers count or tell apart.
use Rattle.std.specs.Prelude.{ℕ}

-- a client's connection, and a server's
abbrev pub SessionNumber : Type 0
SessionNumber = ℕ

abbrev pub ServerNumber : Type 0
ServerNumber = ℕ

-- the number of a channel that who serves it gave it, and that who asked for it did
abbrev pub Sid : Type 0
Sid = ℕ

abbrev pub Cid : Type 0
Cid = ℕ

-- the number of a subscription, and of a read or write, from who asked for it
abbrev pub SubId : Type 0
SubId = ℕ

abbrev pub Ioid : Type 0
Ioid = ℕ

-- the number of a type, and of elements
abbrev pub Dtype : Type 0
Dtype = ℕ

abbrev pub Count : Type 0
Count = ℕ

-- the sum of the events that are asked for
abbrev pub Mask : Type 0
Mask = ℕ

-- how a request ended
abbrev pub Code : Type 0
Code = ℕ

-- a minor version of the protocol
abbrev pub Minor : Type 0
Minor = ℕ
