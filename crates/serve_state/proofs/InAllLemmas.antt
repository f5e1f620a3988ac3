-- Who is cut off, counted from the back.
use Rattle.std.proofs.Common.{◌≡◌, ℕ, zero, suc, ◌+◌, ◌≤◌, ◌<◌, List, [], ◌∷◌, length, take, drop, get_or, Bool, true, false, refl, sym, subst, ◌∙◌, ap, arith}
use Rattle.std.specs.Prelude.{nat_lt}
use Rattle.std.proofs.lemmas.Bool.{ltb-false, ltb-true}
use Rattle.std.proofs.lemmas.List.Sums.{sum_by-cons, sum_by-drop_more, sum_by-take-drop}
use Rattle.serve_state.specs.declared.in_all.WaitingBytes.{WaitingBytes}
use Rattle.serve_state.specs.InAll.{IsFewest, bytes_of, front_over}

-- what a part from the back has, all have
no_more : (place : ℕ) (clients : List WaitingBytes) → bytes_of (drop place clients) ≤ bytes_of clients
no_more place clients = let both = sum_by-take-drop (λ (client : WaitingBytes). client.bytes) clients place in omega (arith, both)

-- all stay where all may wait
pub stay : (most : ℕ) (clients : List WaitingBytes) → bytes_of clients ≤ most → [] ≡ front_over most clients
stay most [] h = refl
stay most (client ∷ clients) h = grind (arith, h)

goes : (most : ℕ) (client : WaitingBytes) (clients : List WaitingBytes) → most < bytes_of (client ∷ clients)
    → client ∷ front_over most clients ≡ front_over most (client ∷ clients)
goes most client clients h = grind (arith, h)

-- those behind a place stay where they may wait, and it and those before it go where with it they may not
pub front_at : (most place : ℕ) (clients : List WaitingBytes) → bytes_of (drop (suc place) clients) ≤ most → most < bytes_of (drop place clients)
    → take (suc place) clients ≡ front_over most clients
front_at most zero [] fits over = refl
front_at most zero (client ∷ clients) fits over = ap (λ (l : List WaitingBytes). client ∷ l) (stay most clients fits) ∙ goes most client clients over
front_at most (suc place) [] fits over = refl
front_at most (suc place) (client ∷ clients) fits over =
    let rest = no_more place clients in
    let more : bytes_of (client ∷ clients) ≡ client.bytes + bytes_of clients = sum_by-cons (λ (client : WaitingBytes). client.bytes) client clients in
    ap (λ (l : List WaitingBytes). client ∷ l) (front_at most place clients fits over) ∙ goes most client clients (omega (arith, over, rest, more))

-- the same, as it is found out from the back: what the last one adds has no room
pub front_from : (most last room : ℕ) (clients : List WaitingBytes) (d : WaitingBytes) → last < length clients
    → bytes_of (drop (last + 1) clients) + room ≡ most → room < (get_or clients last d).bytes → take (last + 1) clients ≡ front_over most clients
front_from most last room clients d within kept less =
    let more : bytes_of (drop last clients) ≡ (get_or clients last d).bytes + bytes_of (drop (last + 1) clients) =
    sum_by-drop_more (λ (client : WaitingBytes). client.bytes) clients last d within in
    let same : last + 1 ≡ suc last = omega arith in
    let fits : bytes_of (drop (last + 1) clients) ≤ most = omega (arith, kept) in
    subst (λ (n : ℕ). take n clients ≡ front_over most clients) (sym same)
    (front_at most last clients (subst (λ (n : ℕ). bytes_of (drop n clients) ≤ most) same fits) (omega (arith, more, kept, less)))

needed_too : (most : ℕ) (client : WaitingBytes) (clients front : List WaitingBytes) → most < bytes_of (client ∷ clients)
    → ((k : ℕ) → k < length front → most < bytes_of (drop k clients))
    → (k : ℕ) → k < length (client ∷ front) → most < bytes_of (drop k (client ∷ clients))
needed_too most client clients front over rest zero h = over
needed_too most client clients front over rest (suc k) h = rest k (omega (arith, h))

nobody_needed : (most : ℕ) (clients : List WaitingBytes) (k : ℕ) → k < 0 → most < bytes_of (drop k clients)
nobody_needed most clients k h = absurd (omega (arith, h))

-- whether the first one goes
fewest_by : (most : ℕ) (client : WaitingBytes) (clients : List WaitingBytes) (b : Bool) → nat_lt most (bytes_of (client ∷ clients)) ≡ b
    → IsFewest most clients (front_over most clients) → IsFewest most (client ∷ clients) (front_over most (client ∷ clients))
fewest_by most client clients true is rest =
    let over : most < bytes_of (client ∷ clients) = ltb-true most (bytes_of (client ∷ clients)) is in
    subst (λ (front : List WaitingBytes). IsFewest most (client ∷ clients) front) (goes most client clients over) (record {
      enough = rest.enough;
      needed = needed_too most client clients (front_over most clients) over rest.needed;
    })
fewest_by most client clients false is rest =
    let fits : bytes_of (client ∷ clients) ≤ most = ltb-false most (bytes_of (client ∷ clients)) is in
    subst (λ (front : List WaitingBytes). IsFewest most (client ∷ clients) front) (stay most (client ∷ clients) fits) (record {
      enough = fits;
      needed = nobody_needed most (client ∷ clients);
    })

pub fewest : (most : ℕ) (clients : List WaitingBytes) → IsFewest most clients (front_over most clients)
fewest most [] = record { enough = omega arith; needed = nobody_needed most [] }
fewest most (client ∷ clients) = fewest_by most client clients (nat_lt most (bytes_of (client ∷ clients))) refl (fewest most clients)
