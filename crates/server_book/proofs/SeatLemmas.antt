-- Seats that are read and written.
use Rattle.std.proofs.Common.{◌≡◌, ℕ, zero, suc, ◌+◌, ◌<◌, ◌≤◌, List, [], ◌∷◌, ◌++◌, Bool, true, false, cond, length, get_or, set, Some, None, refl, sym, ap, ◌∙◌, arith, inl, inr}
use Rattle.std.specs.Option.{option_map}
use Rattle.std.proofs.lemmas.Bool.{cases_lt}
use Rattle.std.proofs.lemmas.List.{get_or_default, get_or_past, length-append, length-set, set_past}
use Rattle.std.proofs.lemmas.List.Sums.{get_or-le-sum_by, sum_by-set}
use Rattle.server_book.specs.declared.server.KnownServer.{KnownServer}
use Rattle.server_book.specs.Names.{is_among}
use Rattle.server_book.specs.Seats.{Seat, all_waiting, changed, count_handed_out, count_in, leaving, new_in, put, seat, staying}
use Rattle.server_book.specs.Servers.{connected, failed, is_connecting, may_leave, with_name}

-- ---- by its place

pub seat_there : (number place : ℕ) (seats : List Seat) → number ≡ place + 1 → get_or seats place None ≡ seat number seats
seat_there zero place seats e = absurd (omega arith)
seat_there (suc n) place seats e = let same : place ≡ n = omega arith in ap (λ (k : ℕ). get_or seats k None) same

pub put_there : (number place : ℕ) (seats : List Seat) (new : Seat) → number ≡ place + 1 → set seats place new ≡ put number new seats
put_there zero place seats new e = absurd (omega arith)
put_there (suc n) place seats new e = let same : place ≡ n = omega arith in ap (λ (k : ℕ). set seats k new) same

-- the seat that was read there
pub seat_read : (number place : ℕ) (seats : List Seat) (old : Seat) → number ≡ place + 1 → place < length seats → old ≡ get_or seats place old → old ≡ seat number seats
seat_read number place seats old e within is = is ∙ get_or_default seats place old None within ∙ seat_there number place seats e

pub changed_there : (number place : ℕ) (change : KnownServer → KnownServer) (seats : List Seat) (old new : Seat) → number ≡ place + 1 → place < length seats
    → old ≡ get_or seats place old → new ≡ option_map change old → set seats place new ≡ changed number change seats
changed_there number place change seats old new e within is by =
    ap (set seats place) (by ∙ ap (option_map change) (seat_read number place seats old e within is)) ∙ put_there number place seats (option_map change (seat number seats)) e

pub staying_there : (number place : ℕ) (seats : List Seat) (old new : Seat) → number ≡ place + 1 → place < length seats
    → old ≡ get_or seats place old → new ≡ staying old → set seats place new ≡ put number (staying (seat number seats)) seats
staying_there number place seats old new e within is by =
    ap (set seats place) (by ∙ ap staying (seat_read number place seats old e within is)) ∙ put_there number place seats (staying (seat number seats)) e

-- ---- of a number that no seat has

pub seat_nowhere : (number : ℕ) (seats : List Seat) → (0 < number → length seats < number) → seat number seats ≡ None
seat_nowhere zero seats past = refl
seat_nowhere (suc place) seats past = let over : length seats < suc place = past (omega arith) in get_or_past seats place None (omega arith)

pub put_nowhere : (number : ℕ) (new : Seat) (seats : List Seat) → (0 < number → length seats < number) → seats ≡ put number new seats
put_nowhere zero new seats past = refl
put_nowhere (suc place) new seats past = let over : length seats < suc place = past (omega arith) in sym (set_past seats place new (omega arith))

pub changed_nowhere : (number : ℕ) (change : KnownServer → KnownServer) (seats : List Seat) → (0 < number → length seats < number) → seats ≡ changed number change seats
changed_nowhere number change seats past = put_nowhere number (option_map change (seat number seats)) seats past

-- ---- what is read after a seat was written

pub length-put : (number : ℕ) (new : Seat) (seats : List Seat) → length (put number new seats) ≡ length seats
length-put zero new seats = refl
length-put (suc place) new seats = length-set seats place new

-- ---- how many names wait

pub waiting-put : (number : ℕ) (new : Seat) (seats : List Seat) → 0 < number → number ≤ length seats
    → all_waiting (put number new seats) + count_in (seat number seats) ≡ all_waiting seats + count_in new
waiting-put zero new seats some within = absurd (omega arith)
waiting-put (suc place) new seats some within = sum_by-set count_in seats place new None (omega arith)

none_more : (all : ℕ) (old : Seat) → old ≡ None → all + count_in old ≡ all + count_in None
none_more all old e = ap (λ (x : Seat). all + count_in x) e

pub waiting-changed : (number : ℕ) (change : KnownServer → KnownServer) (seats : List Seat)
    → all_waiting (changed number change seats) + count_in (seat number seats) ≡ all_waiting seats + count_in (option_map change (seat number seats))
waiting-changed zero change seats = refl
waiting-changed (suc place) change seats =
    elim (cases_lt place (length seats)) as (λ _. all_waiting (changed (suc place) change seats) + count_in (seat (suc place) seats) ≡ all_waiting seats + count_in (option_map change (seat (suc place) seats))) [
      | inl less ↦ sum_by-set count_in seats place (option_map change (seat (suc place) seats)) None less
      | inr past ↦
          let none : seat (suc place) seats ≡ None = get_or_past seats place None past in
          rw none (ap (λ (xs : List Seat). all_waiting xs + count_in None) (set_past seats place None past))
    ]

by_once : (b : Bool) (names : List (List ℕ)) (name : List ℕ) → length (cond b names (names ++ name ∷ [])) ≡ length names + cond b 0 1
by_once true names name = omega arith
by_once false names name = length-append names (name ∷ [])

pub count-with_name : (name : List ℕ) (old : Seat) → count_in (option_map (with_name name) old) ≡ count_in old + new_in name old
count-with_name name None = refl
count-with_name name (Some server) = by_once (is_among server.waiting name) server.waiting name

emptied : (b : Bool) (x server : KnownServer) → x.waiting ≡ [] → length ((cond b x server).waiting) + length (cond b server.waiting []) ≡ length server.waiting
emptied true x server e = rw e (omega arith)
emptied false x server e = omega arith

pub count-connected : (old : Seat) → count_in (option_map connected old) + count_handed_out old ≡ count_in old
count-connected None = refl
count-connected (Some server) = emptied (is_connecting server.standing) _ server refl

pub count-failed : (look : ℕ) (old : Seat) → count_in (option_map (failed look) old) + count_handed_out old ≡ count_in old
count-failed look None = refl
count-failed look (Some server) = emptied (is_connecting server.standing) _ server refl

left_out : (b : Bool) (server : KnownServer) → let none : Seat = None in count_in (cond b none (Some server)) + count_in (cond b (Some server) none) ≡ length server.waiting
left_out true server = omega arith
left_out false server = omega arith

pub count-left : (old : Seat) → count_in (staying old) + count_in (leaving old) ≡ count_in old
count-left None = refl
count-left (Some server) = left_out (may_leave server) server

-- ---- of the names of one seat

pub in-all : (number : ℕ) (seats : List Seat) → count_in (seat number seats) ≤ all_waiting seats
in-all zero seats = omega arith
in-all (suc place) seats =
    elim (cases_lt place (length seats)) as (λ _. count_in (seat (suc place) seats) ≤ all_waiting seats) [
      | inl less ↦ get_or-le-sum_by count_in seats place None less
      | inr past ↦ let none : count_in (get_or seats place None) ≡ 0 = ap count_in (get_or_past seats place None past) in omega arith
    ]
