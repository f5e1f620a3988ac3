-- What the laws of merged wants say.
use Rattle.std.specs.Prelude.{◌≡◌, ◌≤◌, ◌↔◌, List, Contains, bit_and}
use Rattle.mask_merge.specs.declared.want.TheConstants.{KNOWN_EVENTS, ALWAYS_ASKED}
use Rattle.mask_merge.specs.declared.want.Want.{Want}

-- a want is met: each known event of it is asked for, and as many elements at least
abbrev pub Meets : Want → Want → Type 0
Meets asked want =
    (bit_and (bit_and want.mask KNOWN_EVENTS) asked.mask ≡ bit_and want.mask KNOWN_EVENTS)
    × (want.count ≤ asked.count)

-- the events that are always asked for are
abbrev pub AsksAlways : Want → Type 0
AsksAlways asked = bit_and ALWAYS_ASKED asked.mask ≡ ALWAYS_ASKED

-- the same wants are in both lists, in whatever order and however often
abbrev pub HasSame : List Want → List Want → Type 0
HasSame xs ys = (want : Want) → Contains xs want ↔ Contains ys want
