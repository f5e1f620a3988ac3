-- Where looks stand in their period.
use Rattle.std.proofs.Common.{◌≡◌, ℕ, zero, suc, ◌+◌, ◌-◌, ◌*◌, ◌%◌, ◌<◌, ◌≤◌, Bool, true, false, refl, sym, ◌∙◌, arith}
use Rattle.std.specs.Prelude.{cond, ◌==◌, nat_le}
use Rattle.std.proofs.Math.Nat.{mod-eq_of_lt, mod_self, suc-mod, suc-ne-zero, zero-mod}
use Rattle.std.proofs.Math.Numerals.{suc-eq-add-one}
use Rattle.std.proofs.lemmas.Bool.{leb-true, leb-false, ne_eqb}
use Rattle.std.proofs.lemmas.Nat.{mod_below}
use Rattle.serve_state.specs.Rhythm.{RhythmState, after_looks, is_due, IsDueEachPeriod}

-- no look was taken of a period of so many
abbrev start : ℕ → RhythmState
start p = record { period = p; left = p }

same_period : (n p : ℕ) → (after_looks n (start p)).period ≡ p
same_period zero p = refl
same_period (suc n) p = same_period n p

-- the remainder of the next number, where one is left of the period, and where more are
wraps : (p r : ℕ) → r < p → p - r ≤ 1 → suc r % p ≡ 0
wraps p r h e = let last : suc r ≡ p = omega (arith, h, e) in rw (sym last) (mod_self (suc r))

goes_on : (p r : ℕ) → r < p → 1 < p - r → suc r % p ≡ suc r
goes_on p r h e = mod-eq_of_lt (omega (arith, h, e))

less_none : (p : ℕ) → p ≡ p - 0
less_none p = omega arith

-- what is left after the next look
next : (p r : ℕ) (b : Bool) → r < p → nat_le (p - r) 1 ≡ b → cond b p (p - r - 1) ≡ p - suc r % p
next p r true h e = rw (wraps p r h (leb-true (p - r) 1 e)) (less_none p)
next p r false h e = rw (goes_on p r h (leb-false (p - r) 1 e)) (omega (arith, h))

-- the next number is a multiple exactly where no more than one is left
last : (p r : ℕ) (b : Bool) → r < p → nat_le (p - r) 1 ≡ b → b ≡ (suc r % p == 0)
last p r true h e = rw (wraps p r h (leb-true (p - r) 1 e)) refl
last p r false h e = rw (goes_on p r h (leb-false (p - r) 1 e)) (sym (ne_eqb (suc r) 0 (suc-ne-zero r)))

-- what is left of the period after so many looks
left_after : (n p : ℕ) → 0 < p → (after_looks n (start p)).left ≡ p - n % p
left_after zero p h = rw (zero-mod p) (less_none p)
left_after (suc n) p h =
    rw (same_period n p) (rw (left_after n p h) (rw (suc-mod n p) (next p (n % p) _ (mod_below n p h) refl)))

is_due-start : (n p : ℕ) → 0 < p → is_due (after_looks n (start p)) ≡ ((n + 1) % p == 0)
is_due-start n p h =
    rw (sym (suc-eq-add-one n)) (rw (left_after n p h) (rw (suc-mod n p) (last p (n % p) _ (mod_below n p h) refl)))

pub due_each_period : (seconds : ℕ) → 1 ≤ seconds → IsDueEachPeriod seconds
due_each_period seconds h n = is_due-start n (4 * seconds) (omega (arith, h))
