-- Facts on what is done with a gateway's connections, and printed.
use Rattle.std.proofs.Common.{◌≡◌, ℕ, suc, ◌+◌, ◌<◌, ◌≤◌, List, [], ◌∷◌, drop, Option, Some, None, get_or, drop-cons, add-one, refl, sym, ap, subst, ◌∙◌}
use Rattle.std.proofs.lemmas.List.{drop_all}
use Rattle.std.specs.Prelude.{IfSome, flat_map, length, map, option_map}
use Rattle.std.specs.Io.KnownBytes.{Appends}
use Rattle.gateway_state.specs.Gateway.{Gateway}
use Rattle.gateway_state.specs.Step.{run, step, taken}
use Rattle.gateway_state.specs.declared.event.Dest.{Dest}
use Rattle.gateway_state.specs.declared.event.Event.{Event}
use Rattle.gateway_state.specs.declared.event.Event.TheVariants.{Drain, Search}
use Rattle.replay.specs.Performing.{Performs}
use Rattle.replay.specs.Played.{out_line}
use Rattle.replay.specs.Printing.{AreEmptied, IsDrained, IsEmptied, IsEmptiedUnless, IsFoundEmpty, IsLessened, is_held, oldest}
use Rattle.replay.proofs.PerformingLemmas.{Performs-again, Performs-then}

-- messages that are taken are printed
pub Performs-drained : (dest : Dest) (count : ℕ) (w v : Option Gateway) (x y : Option (List ℕ))
    → v ≡ option_map (λ u. step u (Drain dest count)) w
    → IfSome (option_map (λ u. flat_map (out_line dest) (taken u (Drain dest count) dest)) w) (Appends x y)
    → Performs (IsDrained dest count) w v x y
Performs-drained dest count None v x y is wrote = tt
Performs-drained dest count (Some u) v x y is wrote = (_, _, is, (refl, refl), wrote)

-- some were there
pub Performs-lessened : (dest : Dest) (n : ℕ) (w v o : Option Gateway) (x y z : Option (List ℕ))
    → Performs (IsDrained dest 1024) w v x y
    → Some n ≡ option_map (λ u. length (oldest dest 1024 u)) w → 0 < n
    → Performs (IsEmptied dest) v o y z
    → Performs (IsEmptied dest) w o x z
Performs-lessened dest n None v o x y z h counted some k = tt
Performs-lessened dest n (Some u) v o x y z h counted some k =
    let P : ℕ → Type 0 = λ m. 0 < m in
    let same : n ≡ length (oldest dest 1024 u) = cc in
    Performs-again (IsLessened dest) (IsFoundEmpty dest) (Some u) v o x y z
    (h.0, h.1, h.2, (subst P same some, h.3), h.4) k

-- one connection's messages are printed, and then those of the connections after it
pub Performs-emptied_next : (held : List Dest) (dest : Dest) (dests : List Dest) (w v o : Option Gateway) (x y z : Option (List ℕ))
    → Performs (IsEmptiedUnless (is_held held dest) dest) w v x y → Performs (AreEmptied held dests) v o y z
    → Performs (AreEmptied held (dest ∷ dests)) w o x z
Performs-emptied_next held dest dests w v o x y z h k =
    Performs-then (IsEmptiedUnless (is_held held dest) dest) (AreEmptied held dests) w v o x y z h k

-- one event, and then others
pub run-next : (event : Event) (events : List Event) (w v o : Option Gateway)
    → v ≡ option_map (λ u. step u event) w → o ≡ option_map (λ u. run u events) v
    → o ≡ option_map (λ u. run u (event ∷ events)) w
unfolding run
run-next event events None v o is ran = rw is at ran
run-next event events (Some w) v o is ran = rw is at ran

pub run-none : (w : Option Gateway) → w ≡ option_map (λ u. run u []) w
unfolding run
run-none None = refl
run-none (Some w) = refl

-- a name is looked for, and then those after it
pub run-next_name : (host name : List ℕ) (names : List (List ℕ)) (i : ℕ) (w v o : Option Gateway) → i < length names → name ≡ get_or names i name
    → v ≡ option_map (λ u. step u (Search host name)) w
    → o ≡ option_map (λ u. run u (map (Search host) (drop (i + 1) names))) v
    → o ≡ option_map (λ u. run u (map (Search host) (drop i names))) w
run-next_name host name names i w v o h is stepped ran =
    let left = drop-cons names i name h
    ∙ ap (λ (first : List ℕ). first ∷ drop (suc i) names) (sym is)
    ∙ ap (λ (k : ℕ). name ∷ drop k names) (sym (add-one i)) in
    let P : List (List ℕ) → Type 0 = λ left. o ≡ option_map (λ u. run u (map (Search host) left)) w in
    subst P (sym left) (run-next (Search host name) (map (Search host) (drop (i + 1) names)) w v o stepped ran)

-- all names were looked for
pub run-no_names : (host : List ℕ) (names : List (List ℕ)) (i : ℕ) (w : Option Gateway) → length names ≤ i
    → w ≡ option_map (λ u. run u (map (Search host) (drop i names))) w
run-no_names host names i w h =
    let P : List (List ℕ) → Type 0 = λ left. w ≡ option_map (λ u. run u (map (Search host) left)) w in
    subst P (sym (drop_all i names h)) (run-none w)
