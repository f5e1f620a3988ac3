-- Texts of nets, and nets of all hosts.
use Rattle.std.proofs.Common.{◌≡◌, ℕ, ◌+◌, ◌-◌, ◌<◌, ◌≤◌, ◌/◌, ◌%◌, ◌^◌, ◌==◌, true, false, cond, ltb, List, [], length, take, drop, Some, None, refl, sym, ap, ◌∙◌, arith}
use Rattle.std.specs.List.{after_first, before_first, position, position_or_len}
use Rattle.std.proofs.lemmas.Bool.{ltb-false}
use Rattle.std.proofs.lemmas.List.{drop_all, take_all, take_rest}
use Rattle.std.proofs.Math.Nat.{div-eq_of_lt, mod-eq_of_lt}
use Rattle.server_book.specs.Nets.{is_slash}

pub all_alike : (host first size : ℕ) → host < 2 ^ 128 → first < 2 ^ 128 → 2 ^ 128 ≤ size → true ≡ (host / size == first / size)
all_alike host first size host_fits first_fits most =
    let one : host / size ≡ 0 = div-eq_of_lt {n = host} {m = size} (omega arith) in
    let other : first / size ≡ 0 = div-eq_of_lt {n = first} {m = size} (omega arith) in
    rw (one, other) refl

pub itself_left : (first size : ℕ) → first < 2 ^ 128 → 2 ^ 128 ≤ size → first % size ≡ first
itself_left first size fits most = mod-eq_of_lt {n = first} {m = size} (omega arith)

-- ---- around the first slash

some_place : (a b place : ℕ) → cond (ltb a b) (Some a) None ≡ Some place → a ≡ place
some_place a b place e = elim (ltb a b) as (λ t. cond t (Some a) None ≡ Some place → a ≡ place) [ true ↦ λ h. cc | false ↦ λ h. cc ] e

no_place : (a b : ℕ) → cond (ltb a b) (Some a) None ≡ None → b ≤ a
no_place a b e = elim (ltb a b) as (λ t. ltb a b ≡ t → cond t (Some a) None ≡ None → b ≤ a) [ true ↦ λ _ h. cc | false ↦ λ g _. ltb-false a b g ] refl e

pub before-slash : (text : List ℕ) (place : ℕ) → position is_slash text ≡ Some place → take place text ≡ before_first is_slash text
before-slash text place e = ap (λ (k : ℕ). take k text) (sym (some_place (position_or_len is_slash text) (length text) place e))

pub after-slash : (text : List ℕ) (place : ℕ) → position is_slash text ≡ Some place → take (length text - (place + 1)) (drop (place + 1) text) ≡ after_first is_slash text
after-slash text place e = take_rest text (place + 1) ∙ ap (λ (k : ℕ). drop (k + 1) text) (sym (some_place (position_or_len is_slash text) (length text) place e))

pub before-none : (text : List ℕ) → position is_slash text ≡ None → text ≡ before_first is_slash text
before-none text e = sym (take_all (position_or_len is_slash text) text (no_place (position_or_len is_slash text) (length text) e))

pub after-none : (text : List ℕ) → position is_slash text ≡ None → [] ≡ after_first is_slash text
after-none text e = let past = no_place (position_or_len is_slash text) (length text) e in sym (drop_all (position_or_len is_slash text + 1) text (omega arith))
