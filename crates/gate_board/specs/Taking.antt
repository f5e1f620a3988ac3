-- What a call that takes a message does to the writer's end.
use Rattle.std.specs.Prelude.{◌≡◌, ◌+◌, ◌<◌, [], ◌∷◌, ◌++◌}
use Rattle.gateway_state.specs.declared.event.Dest.{Dest}
use Rattle.board_rings.specs.Rings.{OutletState}
use Rattle.board_rings.specs.Told.{name_of}
use Rattle.gate_board.specs.declared.gate.Taken.{Taken}
use Rattle.gate_board.specs.declared.gate.Taken.TheVariants.{Item, Closed, Stopped}

-- the ring was looked into, once at least, and nothing else changed
abbrev pub LooksOnly : OutletState → OutletState → Type 0
LooksOnly old new = (new ≡ record old { looks = new.looks }) × (old.looks < new.looks)

-- the writer was told that the messages for the connection come to an end
abbrev pub told_over : Dest → OutletState → OutletState
told_over dest old = record old { ends = record { times = old.ends.times + 1; last = name_of dest } }

-- the writer was told that nothing is moved any more
abbrev pub told_stop : OutletState → OutletState
told_stop old = record old { stops = old.stops + 1 }

-- the message was taken last; without one nothing was: the ring was looked into, nothing is known to be there, and the
-- writer was told why none comes, of this connection
abbrev pub IsTaken : Dest → OutletState → Taken → OutletState → Type 0
IsTaken dest old (Item out) new = (new.taken ≡ old.taken ++ out ∷ []) × ((new.ring ≡ old.ring) × ((new.stops ≡ old.stops) × (new.ends ≡ old.ends)))
IsTaken dest old Closed new = LooksOnly (told_over dest old) new × (new.seen ≡ [])
IsTaken dest old Stopped new = LooksOnly (told_stop old) new × (new.seen ≡ [])
