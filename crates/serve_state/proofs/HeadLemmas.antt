-- A header is read whole once 24 bytes are held.
use Rattle.std.proofs.Common.{◌≡◌, ◌<◌, ℕ, List, length, Bool, true, false, if◌then◌else◌, Option, Some, None, refl, sym, ◌∙◌, arith, inl, inr}
use Rattle.std.proofs.lemmas.Bool.{cases_lt, le-ltb}
use Rattle.ca_header.specs.Reading.{extended_at, head_at, header_at, is_extended, judged, plain_at, verdict}
use Rattle.ca_header.specs.declared.header.Header.{Header}
use Rattle.ca_header.specs.declared.reading.FrameFault.TheVariants as faults
use Rattle.ca_header.specs.declared.reading.Head.{Head}
use Rattle.ca_header.specs.declared.reading.Head.TheVariants.{Need}
use Rattle.ca_header.proofs.Fronts.{IsJudged, IsJudged-all, fair, unfair, verdict-fault, verdict-well_formed}

either_some : (b : Bool) (x y : Header × ℕ) → (if b then Some x else Some y) ≡ None → ⊥
either_some true x y e = absurd cc
either_some false x y e = absurd cc

none_is_short : (bytes : List ℕ) → header_at bytes ≡ None → length bytes < 24
unfolding header_at
none_is_short bytes none =
    elim (cases_lt (length bytes) 24) [
      | inl few ↦ few
      | inr all ↦ let full : header_at bytes ≡ (if is_extended bytes then Some (extended_at bytes, 24) else Some (plain_at bytes, 16)) =
          rw (le-ltb (length bytes) 16 (omega (arith, all)), le-ltb (length bytes) 24 all) refl in
          absurd (either_some (is_extended bytes) (extended_at bytes, 24) (plain_at bytes, 16) (sym full ∙ none))
    ]

never_needed : (h : Header) (n : ℕ) → IsJudged h → verdict h n ≡ Need → ⊥
never_needed h n (fair w) e = let got = verdict-well_formed h n w in absurd cc
never_needed h n (unfair faults.Misaligned fault) e = let bad = verdict-fault h n faults.Misaligned fault in absurd cc
never_needed h n (unfair faults.TooLarge fault) e = let bad = verdict-fault h n faults.TooLarge fault in absurd cc

needed_is_none : (found : Option (Header × ℕ)) → judged found ≡ Need → found ≡ None
needed_is_none None e = refl
needed_is_none (Some found) e = absurd (never_needed found.0 found.1 (IsJudged-all found.0) e)

pub needed_is_short : (bytes : List ℕ) → head_at bytes ≡ Need → length bytes < 24
needed_is_short bytes need = none_is_short bytes (needed_is_none (header_at bytes) need)
