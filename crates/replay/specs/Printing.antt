-- What is printed of a gateway's messages.
use Rattle.std.specs.Prelude.{◌≡◌, ℕ, ◌<◌, Bool, true, false, List, [], ◌∷◌, length, flat_map}
use Rattle.std.specs.List.{list_any}
use Rattle.fanout.specs.declared.outbox.Out.{Out}
use Rattle.gateway_state.specs.Gateway.{Gateway}
use Rattle.gateway_state.specs.Step as steps
use Rattle.gateway_state.specs.declared.event.Dest.{Dest}
use Rattle.gateway_state.specs.declared.event.Event.TheVariants.{Drain}
use Rattle.replay.specs.Performing.{Becomes, Rests, Then, Until}
use Rattle.replay.specs.Played.{out_line}
use Rattle.replay.specs.Player.{OnGateway, Playing, is_dest, standing}

-- the oldest messages that wait for a connection, so many at most
abbrev pub oldest : Dest → ℕ → Gateway → List Out
oldest dest count w = steps.taken w (Drain dest count) dest

-- they are taken, and each is printed
abbrev pub IsDrained : Dest → ℕ → Gateway → Gateway → List ℕ → Type 0
IsDrained dest count = Becomes (λ w. steps.step w (Drain dest count)) (λ w. flat_map (out_line dest) (oldest dest count w))

-- something waits for it, and 1,024 messages at most are taken
abbrev pub IsLessened : Dest → Gateway → Gateway → List ℕ → Type 0
IsLessened dest old new text = (0 < length (oldest dest 1024 old)) × IsDrained dest 1024 old new text

-- nothing waits for it, when it is looked
abbrev pub IsFoundEmpty : Dest → Gateway → Gateway → List ℕ → Type 0
IsFoundEmpty dest old new text = (length (oldest dest 1024 old) ≡ 0) × IsDrained dest 1024 old new text

-- all that waits for a connection is taken and printed
abbrev pub IsEmptied : Dest → Gateway → Gateway → List ℕ → Type 0
IsEmptied dest = Until (IsLessened dest) (IsFoundEmpty dest)

-- the same, but nothing is taken where its messages are kept back
abbrev pub IsEmptiedUnless : Bool → Dest → Gateway → Gateway → List ℕ → Type 0
IsEmptiedUnless true dest = Rests
IsEmptiedUnless false dest = IsEmptied dest

abbrev pub is_held : List Dest → Dest → Bool
is_held held dest = list_any (is_dest dest) held

-- so for each of these connections, in order
abbrev pub AreEmptied : List Dest → List Dest → Gateway → Gateway → List ℕ → Type 0
AreEmptied held [] = Rests
AreEmptied held (dest ∷ dests) = Then (IsEmptiedUnless (is_held held dest) dest) (AreEmptied held dests)

-- all that waits for the connections that stand is printed
abbrev pub IsPrinted : Playing → Playing → List ℕ → Type 0
IsPrinted old = OnGateway (AreEmptied old.held (standing old)) old
