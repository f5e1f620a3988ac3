-- The bits of seats.
use Rattle.std.proofs.Common.{◌≡◌, ℕ, zero, suc, ◌*◌, ◌/◌, ◌%◌, ◌^◌, ◌<◌, List, length, get_or, set, replicate, inl, inr, refl, sym, ap, subst, ◌∙◌, arith, w64}
use Rattle.std.specs.Prelude.{◌≢◌}
use Rattle.std.specs.Int.{bit_at}
use Rattle.std.specs.Int.Bits.{bit_or}
use Rattle.std.proofs.lemmas.Bool.{cases_eq}
use Rattle.std.proofs.lemmas.List.{get_or-set_same, get_or-set_other, length-set}
use Rattle.std.proofs.lemmas.Nat.Bits.{bit_at-zero, bit_at_set_other, bit_at_set_same}
use Rattle.gateway_state.specs.declared.event.Dest.{Dest}
use Rattle.board_moves.specs.Noted.{seat_bit, seat_of, Notes}

-- the words with the bit of a seat
abbrev with_bit : ℕ → List ℕ → List ℕ
with_bit seat words = set words (seat / 64) (bit_or (get_or words (seat / 64) 0) (1 * 2 ^ (seat % 64) % 2 ^ 64))

bit_is_set : (words : List ℕ) (seat : ℕ) → seat / 64 < length words → seat_bit seat (with_bit seat words) ≡ 1
bit_is_set words seat within =
    ap (λ (word : ℕ). bit_at word (seat % 64)) (get_or-set_same words (seat / 64) (bit_or (get_or words (seat / 64) 0) (1 * 2 ^ (seat % 64) % 2 ^ 64)) 0 within)
    ∙ bit_at_set_same w64 (get_or words (seat / 64) 0) (seat % 64) (omega arith)

other_bits_stay : (words : List ℕ) (seat other : ℕ) → seat / 64 < length words → other ≢ seat → seat_bit other (with_bit seat words) ≡ seat_bit other words
other_bits_stay words seat other within apart =
    elim (cases_eq (other / 64) (seat / 64)) [
      | inl same ↦
          ap (λ (n : ℕ). bit_at (get_or (with_bit seat words) n 0) (other % 64)) same
          ∙ ap (λ (word : ℕ). bit_at word (other % 64)) (get_or-set_same words (seat / 64) (bit_or (get_or words (seat / 64) 0) (1 * 2 ^ (seat % 64) % 2 ^ 64)) 0 within)
          ∙ bit_at_set_other w64 (get_or words (seat / 64) 0) (seat % 64) (omega arith) (other % 64) (λ alike. apart (omega (arith, same, alike)))
          ∙ ap (λ (n : ℕ). bit_at (get_or words n 0) (other % 64)) (sym same)
      | inr differ ↦ ap (λ (word : ℕ). bit_at word (other % 64)) (get_or-set_other words (seat / 64) (other / 64) (bit_or (get_or words (seat / 64) 0) (1 * 2 ^ (seat % 64) % 2 ^ 64)) 0 differ)
    ]

pub seat_is_noted : (dest : Dest) (old new : List ℕ) (seat : ℕ) → seat ≡ seat_of dest → seat < 2048 → length new ≡ 32 → new ≡ with_bit seat old → Notes dest old new
seat_is_noted dest old new seat is within long made =
    let before : length old ≡ 32 = sym (length-set old (seat / 64) (bit_or (get_or old (seat / 64) 0) (1 * 2 ^ (seat % 64) % 2 ^ 64))) ∙ (ap length (sym made) ∙ long) in
    let word : seat / 64 < length old = omega (arith, before, within) in
    record {
      noted = subst (λ (n : ℕ). seat_bit n new ≡ 1) is (ap (seat_bit seat) made ∙ bit_is_set old seat word);
      others = λ other apart. ap (seat_bit other) made ∙ other_bits_stay old seat other word (λ same. apart (same ∙ is));
    }

pub noted_stay : (dest : Dest) (old new : List ℕ) → Notes dest old new → (seat : ℕ) → seat_bit seat old ≡ 1 → seat_bit seat new ≡ 1
noted_stay dest old new notes seat was =
    elim (cases_eq seat (seat_of dest)) [
      | inl same ↦ ap (λ (n : ℕ). seat_bit n new) same ∙ notes.noted
      | inr apart ↦ notes.others seat apart ∙ was
    ]

no_bits : (n i : ℕ) → ◌≡◌ {A = ℕ} (get_or (replicate n 0) i 0) 0
no_bits zero i = refl
no_bits (suc n) zero = refl
no_bits (suc n) (suc i) = no_bits n i

pub none_noted : (words : List ℕ) (seat : ℕ) → words ≡ replicate 32 0 → seat_bit seat words ≡ 0
none_noted words seat is =
    ap (seat_bit seat) is ∙ ap (λ (word : ℕ). bit_at word (seat % 64)) (no_bits 32 (seat / 64)) ∙ bit_at-zero (seat % 64)
