-- The order of connections.
use Rattle.std.proofs.Common.{◌≡◌, ℕ, ◌<◌, ◌≤◌, true, false, refl, sym, ap, arith}
use Rattle.std.proofs.lemmas.Bool.{false≢true, ltb-true, ltb-false, eqb-true, eqb-false, lt-ltb, ne_eqb}
use Rattle.gateway_state.specs.Connections.{same_dest}
use Rattle.gateway_state.specs.declared.event.Dest.{Dest}
use Rattle.gateway_state.specs.declared.event.Dest.TheVariants.{Session, Upstream}
use Rattle.board_rings.specs.Attachments.{comes_before}

pub same_is_equal : (a b : Dest) → same_dest a b ≡ true → a ≡ b
same_is_equal (Session a) (Session b) same = ap Session (eqb-true a b same)
same_is_equal (Upstream a) (Upstream b) same = ap Upstream (eqb-true a b same)
same_is_equal (Session a) (Upstream b) same = absurd (false≢true same)
same_is_equal (Upstream a) (Session b) same = absurd (false≢true same)

pub before_trans : (a b c : Dest) → comes_before a b ≡ true → comes_before b c ≡ true → comes_before a c ≡ true
before_trans (Session a) (Session b) (Session c) ab bc = lt-ltb a c (omega (arith, ltb-true a b ab, ltb-true b c bc))
before_trans (Upstream a) (Upstream b) (Upstream c) ab bc = lt-ltb a c (omega (arith, ltb-true a b ab, ltb-true b c bc))
before_trans (Session a) b (Upstream c) ab bc = refl
before_trans (Session a) (Upstream b) (Session c) ab bc = absurd (false≢true bc)
before_trans (Upstream a) (Session b) c ab bc = absurd (false≢true ab)
before_trans (Upstream a) (Upstream b) (Session c) ab bc = absurd (false≢true bc)

pub before_not_same : (a b : Dest) → comes_before a b ≡ true → same_dest a b ≡ false
before_not_same (Session a) (Session b) before = ne_eqb a b (λ same. absurd (omega (arith, ltb-true a b before)))
before_not_same (Upstream a) (Upstream b) before = ne_eqb a b (λ same. absurd (omega (arith, ltb-true a b before)))
before_not_same (Session a) (Upstream b) before = refl
before_not_same (Upstream a) (Session b) before = refl

pub after_not_same : (a b : Dest) → comes_before a b ≡ true → same_dest b a ≡ false
after_not_same (Session a) (Session b) before = ne_eqb b a (λ same. absurd (omega (arith, ltb-true a b before)))
after_not_same (Upstream a) (Upstream b) before = ne_eqb b a (λ same. absurd (omega (arith, ltb-true a b before)))
after_not_same (Session a) (Upstream b) before = refl
after_not_same (Upstream a) (Session b) before = refl

apart : (a b : ℕ) → (a ≡ b → ⊥) → b ≤ a → b < a
apart a b other within = omega arith

-- two that are apart stand in one order or the other
pub before_or_after : (a b : Dest) → comes_before a b ≡ false → same_dest a b ≡ false → comes_before b a ≡ true
before_or_after (Session a) (Session b) before same = lt-ltb b a (apart a b (eqb-false a b same) (ltb-false a b before))
before_or_after (Upstream a) (Upstream b) before same = lt-ltb b a (apart a b (eqb-false a b same) (ltb-false a b before))
before_or_after (Session a) (Upstream b) before same = absurd (false≢true (sym before))
before_or_after (Upstream a) (Session b) before same = refl
