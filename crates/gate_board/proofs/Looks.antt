-- Looks that found nothing, one after the other.
use Rattle.std.proofs.Common.{◌≡◌, ℕ, ◌+◌, ◌<◌, ◌≤◌, List, [], ◌∷◌, ◌++◌, refl, sym, ap, subst, ◌∙◌, arith}
use Rattle.fanout.specs.declared.outbox.Out.{Out}
use Rattle.gateway_state.specs.declared.event.Dest.{Dest}
use Rattle.board_rings.specs.Rings.{InletState, OutletState}
use Rattle.board_rings.specs.declared.inbound.Inbound.{Inbound}
use Rattle.gate_board.specs.Taking.{IsTaken, LooksOnly, told_over, told_stop}
use Rattle.gate_board.specs.declared.gate.Taken.{Taken}
use Rattle.gate_board.specs.declared.gate.Taken.TheVariants.{Item, Closed, Stopped}

-- A WRITER'S END

-- nothing changed but the count of looks, which didn't fall
abbrev pub HasLooked : OutletState → OutletState → Type 0
HasLooked old new = (new ≡ record old { looks = new.looks }) × (old.looks ≤ new.looks)

pub not_yet : (old : OutletState) → HasLooked old old
not_yet old = (refl, omega arith)

counted : (old now new : OutletState) (n : ℕ) → now ≡ record old { looks = now.looks } → new ≡ record now { looks = n } → new ≡ record old { looks = new.looks }
counted old now new n so_far is =
    let count : n ≡ new.looks = sym (ap (λ (o : OutletState). o.looks) is) in
    is ∙ ap (λ (o : OutletState). record o { looks = n }) so_far ∙ ap (λ (k : ℕ). record old { looks = k }) count

-- one look
pub looks_once : (old new : OutletState) → new ≡ record old { looks = old.looks + 1 } → LooksOnly old new
looks_once old new is =
    let count : new.looks ≡ old.looks + 1 = ap (λ (o : OutletState). o.looks) is in
    (counted old old new (old.looks + 1) refl is, omega (arith, count))

-- and one that followed others
pub looks_again : (old now new : OutletState) → HasLooked old now → new ≡ record now { looks = now.looks + 1 } → LooksOnly old new
looks_again old now new so_far is =
    let count : new.looks ≡ now.looks + 1 = ap (λ (o : OutletState). o.looks) is in
    (counted old now new (now.looks + 1) so_far.0 is, omega (arith, so_far.1, count))

looks_both : (old now new : OutletState) → LooksOnly old now → LooksOnly now new → LooksOnly old new
looks_both old now new a b = (counted old now new new.looks a.0 b.0, omega (arith, a.1, b.1))

-- a message behind such looks
pub taken_on : (dest : Dest) (old now new : OutletState) (out : Out) → HasLooked old now → new.taken ≡ now.taken ++ out ∷ [] → new.ring ≡ now.ring → new.stops ≡ now.stops → new.ends ≡ now.ends
    → IsTaken dest old (Item out) new
taken_on dest old now new out so_far taken ring stops ends = (
  taken ∙ ap (λ (o : OutletState). o.taken ++ out ∷ []) so_far.0,
  (ring ∙ ap (λ (o : OutletState). o.ring) so_far.0, (stops ∙ ap (λ (o : OutletState). o.stops) so_far.0, ends ∙ ap (λ (o : OutletState). o.ends) so_far.0)),
)

-- a writer that was told something behind them
told_after : (f : OutletState → OutletState) → ((o : OutletState) (n : ℕ) → f (record o { looks = n }) ≡ record (f o) { looks = n }) → ((o : OutletState) → (f o).looks ≡ o.looks)
    → (old next new : OutletState) → LooksOnly old next → LooksOnly (f next) new → LooksOnly (f old) new
told_after f through same old next new a b =
    let start : f next ≡ record (f old) { looks = next.looks } = ap f a.0 ∙ through old next.looks in (
      b.0 ∙ ap (λ (o : OutletState). record o { looks = new.looks }) start,
      omega (arith, a.1, b.1, same next, same old),
    )

told_at_once : (f : OutletState → OutletState) → ((o : OutletState) (n : ℕ) → f (record o { looks = n }) ≡ record (f o) { looks = n }) → ((o : OutletState) → (f o).looks ≡ o.looks)
    → (old next : OutletState) → LooksOnly old next → LooksOnly (f old) (f next)
told_at_once f through same old next a =
    let start : f next ≡ record (f old) { looks = next.looks } = ap f a.0 ∙ through old next.looks in (
      start ∙ ap (λ (n : ℕ). record (f old) { looks = n }) (sym (same next)),
      omega (arith, a.1, same next, same old),
    )

-- after one look it was told so
pub over_once : (dest : Dest) (old next new : OutletState) → next ≡ record old { looks = old.looks + 1 } → new ≡ told_over dest next → LooksOnly (told_over dest old) new
over_once dest old next new is told =
    subst (λ (o : OutletState). LooksOnly (told_over dest old) o) (sym told) (told_at_once (told_over dest) (λ o n. refl) (λ o. refl) old next (looks_once old next is))

pub stop_once : (old next new : OutletState) → next ≡ record old { looks = old.looks + 1 } → new ≡ told_stop next → LooksOnly (told_stop old) new
stop_once old next new is told =
    subst (λ (o : OutletState). LooksOnly (told_stop old) o) (sym told) (told_at_once told_stop (λ o n. refl) (λ o. refl) old next (looks_once old next is))

-- what a call came to that followed them
pub taken_after : (dest : Dest) (old now next new : OutletState) (taken : Taken) → HasLooked old now → next ≡ record now { looks = now.looks + 1 } → IsTaken dest next taken new → IsTaken dest old taken new
taken_after dest old now next new (Item out) so_far is took =
    let before = looks_again old now next so_far is in
    taken_on dest old next new out (before.0, omega (arith, before.1)) took.0 took.1.0 took.1.1.0 took.1.1.1
taken_after dest old now next new Closed so_far is took = (told_after (told_over dest) (λ o n. refl) (λ o. refl) old next new (looks_again old now next so_far is) took.0, took.1)
taken_after dest old now next new Stopped so_far is took = (told_after told_stop (λ o n. refl) (λ o. refl) old next new (looks_again old now next so_far is) took.0, took.1)

-- nothing came
pub waited_after : (old now next new : OutletState) → HasLooked old now → next ≡ record now { looks = now.looks + 1 } → LooksOnly next new → HasLooked old new
waited_after old now next new so_far is waited =
    let all = looks_both old next new (looks_again old now next so_far is) waited in
    (all.0, omega (arith, all.1))

-- A READER'S END

-- an item was offered in vain, once at least, and nothing changed but the count of looks
abbrev pub OffersInVain : InletState → InletState → Type 0
OffersInVain old new = (new ≡ record old { looks = new.looks }) × (old.looks < new.looks)

still : (old now new : InletState) (n : ℕ) → now ≡ record old { looks = now.looks } → new ≡ record now { looks = n } → new ≡ record old { looks = new.looks }
still old now new n so_far is =
    let count : n ≡ new.looks = sym (ap (λ (i : InletState). i.looks) is) in
    is ∙ ap (λ (i : InletState). record i { looks = n }) so_far ∙ ap (λ (k : ℕ). record old { looks = k }) count

pub offered_once : (old new : InletState) → new ≡ record old { looks = old.looks + 1 } → OffersInVain old new
offered_once old new is =
    let count : new.looks ≡ old.looks + 1 = ap (λ (i : InletState). i.looks) is in
    (still old old new (old.looks + 1) refl is, omega (arith, count))

pub offered_again : (old now new : InletState) → OffersInVain old now → new ≡ record now { looks = now.looks + 1 } → OffersInVain old new
offered_again old now new so_far is =
    let count : new.looks ≡ now.looks + 1 = ap (λ (i : InletState). i.looks) is in
    (still old now new (now.looks + 1) so_far.0 is, omega (arith, so_far.1, count))

-- an item behind such offers
pub offered_on : (old now : InletState) (offered : List Inbound) (item : Inbound) → OffersInVain old now → offered ≡ now.offered ++ item ∷ [] → offered ≡ old.offered ++ item ∷ []
offered_on old now offered item so_far is = is ∙ ap (λ (i : InletState). i.offered ++ item ∷ []) so_far.0

-- and was told that nothing is moved any more
pub stopped_on : (old now new : InletState) → OffersInVain old now → new ≡ record now { stops = now.stops + 1 } → (new ≡ record old { looks = new.looks; stops = old.stops + 1 }) × (old.looks < new.looks)
stopped_on old now new so_far is =
    let count : now.looks ≡ new.looks = sym (ap (λ (i : InletState). i.looks) is) in (
      is ∙ ap (λ (i : InletState). record i { stops = i.stops + 1 }) so_far.0 ∙ ap (λ (k : ℕ). record old { looks = k; stops = old.stops + 1 }) count,
      omega (arith, so_far.1, count),
    )
