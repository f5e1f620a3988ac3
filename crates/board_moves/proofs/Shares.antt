-- How many messages are sent out at once.
use Rattle.std.proofs.Common.{◌≡◌, ℕ, ◌-◌, ◌<◌, Bool, true, false, min, refl, sym, ap, ◌∙◌, arith}
use Rattle.std.specs.Prelude.{◌*◌, ◌/◌, max, nat_le, if◌then◌else◌}
use Rattle.std.proofs.Math.Nat.{div-eq_of_lt}
use Rattle.std.proofs.lemmas.Bool.{leb-false}
use Rattle.board_rings.specs.declared.entry.TheConstants.{MOST_SENT}
use Rattle.board_moves.specs.Share.{sent_at_once}
use Rattle.board_moves.specs.declared.share.TheConstants.{RING_BYTES}

-- a single message is sent where any is
one_of : (most fitting : ℕ) → 0 < most → fitting ≡ 0 → max 1 (min most fitting) ≡ min 1 most
one_of most fitting some none = omega (arith, some, none)

one_fits : (most left bytes : ℕ) (fits : Bool) → 0 < most → nat_le bytes left ≡ fits → (if fits then min 1 most else max 1 (min most (left * 1 / bytes))) ≡ min 1 most
one_fits most left bytes true some is = refl
one_fits most left bytes false some is =
    let less : left * 1 < bytes = omega (arith, leb-false bytes left is) in
    one_of most (left * 1 / bytes) some (div-eq_of_lt less)

-- of a single message the length doesn't matter
pub one_at_once : (places bytes way : ℕ) → 0 < places → sent_at_once places 1 bytes way ≡ sent_at_once places 1 0 way
one_at_once places bytes way some =
    let most : 0 < min MOST_SENT places = omega (arith, some) in
    ap (λ (n : ℕ). if nat_le RING_BYTES way then 0 else n)
    (one_fits (min MOST_SENT places) (RING_BYTES - way) bytes (nat_le bytes (RING_BYTES - way)) most refl
    ∙ sym (one_fits (min MOST_SENT places) (RING_BYTES - way) 0 (nat_le 0 (RING_BYTES - way)) most refl))
