-- A message that is held gives itself back.
use Rattle.std.proofs.Common.{◌≡◌, ℕ, Bool, true, false, List, Option, Some, None, Ok, Err, length, take, drop, refl, sym, ap, ◌∙◌, subst, arith}
use Rattle.std.proofs.Math.Seq.{take-length}
use Rattle.std.specs.Prelude.{if◌then◌else◌, nat_le, ok_or}
use Rattle.dbr_layout.specs.declared.dbr.Base.{Base}
use Rattle.dbr_layout.specs.declared.dbr.Dbr.{Dbr}
use Rattle.dbr_layout.specs.declared.fault.LayoutFault.TheVariants.{BadType, Short}
use Rattle.dbr_layout.specs.Converted.{found_in, used, written}
use Rattle.dbr_layout.specs.Needs.{needs}
use Rattle.dbr_layout.specs.Properties.{Properties, of_base}
use Rattle.dbr_layout.specs.Dbr.{dbr_of, element_size, value_end, value_offset}
use Rattle.dbr_layout.specs.Fault.{◌>>=◌}
use Rattle.dbr_layout.specs.Parts.{parts_in}
use Rattle.dbr_layout.specs.View.{Shown, shown}
use Rattle.dbr_layout.proofs.Elements.{length-elements_in}
use Rattle.dbr_layout.proofs.WritingBack.{shown-written}
use Rattle.value_cache.specs.Laws.{GivesBack}

-- a good answer that hangs on a test is the one that is chosen
length-chosen : (fits : Bool) (count : ℕ) (new seen : Shown) → length new.parts.elements ≡ count → (if fits then Ok new else Err Short) ≡ Ok seen → length seen.parts.elements ≡ count
length-chosen true count new seen counted h =
    let same : new ≡ seen = cc in subst (λ (s : Shown). length s.parts.elements ≡ count) same counted
length-chosen false count new seen counted h = absurd cc

length-found : (found : Option Dbr) (count : ℕ) (bytes : List ℕ) (seen : Shown)
    → (ok_or found BadType >>= λ dbr. if nat_le (value_end dbr count) (length bytes) then Ok (let s : Shown = record { dbr = dbr; parts = parts_in dbr count bytes } in s) else Err Short) ≡ Ok seen
    → length seen.parts.elements ≡ count
length-found None count bytes seen h = absurd cc
length-found (Some dbr) count bytes seen h =
    let new : Shown = record { dbr = dbr; parts = parts_in dbr count bytes } in
    length-chosen (nat_le (value_end dbr count) (length bytes)) count new seen (length-elements_in (element_size dbr.base) count (drop (value_offset dbr) bytes)) h

-- what bytes show has as many elements as they are said to hold
length-shown : (dtype count : ℕ) (bytes : List ℕ) (seen : Shown) → shown dtype count bytes ≡ Ok seen → length seen.parts.elements ≡ count
length-shown dtype count bytes seen h = length-found (dbr_of dtype) count bytes seen h

-- and they are of the type that they are said to be
found_chosen : (fits : Bool) (dbr : Dbr) (new seen : Shown) → new.dbr ≡ dbr → (if fits then Ok new else Err Short) ≡ Ok seen → dbr ≡ seen.dbr
found_chosen true dbr new seen is h =
    let same : new ≡ seen = cc in sym is ∙ ap (λ (s : Shown). s.dbr) same
found_chosen false dbr new seen is h = absurd cc

found_of : (found : Option Dbr) (count : ℕ) (bytes : List ℕ) (seen : Shown)
    → (ok_or found BadType >>= λ dbr. if nat_le (value_end dbr count) (length bytes) then Ok (let s : Shown = record { dbr = dbr; parts = parts_in dbr count bytes } in s) else Err Short) ≡ Ok seen
    → found ≡ Some seen.dbr
found_of None count bytes seen h = absurd cc
found_of (Some dbr) count bytes seen h =
    let new : Shown = record { dbr = dbr; parts = parts_in dbr count bytes } in
    ap (λ (d : Dbr). Some d) (found_chosen (nat_le (value_end dbr count) (length bytes)) dbr new seen refl h)

-- what isn't needed isn't looked at
used-same : (needed : Bool) (native : Base) (g h : Option Properties) → (needed ≡ true → g ≡ h) → (if needed then found_in (of_base native g) else Ok None) ≡ (if needed then found_in (of_base native h) else Ok None)
used-same true native g h same = ap (λ (p : Option Properties). found_in (of_base native p)) (same refl)
used-same false native g h same = refl

written-same : (seen : Shown) (g h : Option Properties) (dtype count : ℕ) (asked : Dbr) → dbr_of dtype ≡ Some asked → (needs seen.dbr.base asked ≡ true → g ≡ h) → written seen g dtype count ≡ written seen h dtype count
written-same seen g h dtype count asked type same =
    let told : used seen.dbr.base asked g ≡ used seen.dbr.base asked h = used-same (needs seen.dbr.base asked) seen.dbr.base g h same in
    rw (type, told) refl

pub answer-held : GivesBack
answer-held dtype count asked_with message payload rest seen held small viewed own laid =
    let counted : length seen.parts.elements ≡ count = length-shown dtype count message seen viewed in
    let whole : take count seen.parts.elements ≡ seen.parts.elements =
    subst (λ (n : ℕ). take n seen.parts.elements ≡ seen.parts.elements) counted (take-length seen.parts.elements) in
    let type : dbr_of dtype ≡ Some seen.dbr = found_of (dbr_of dtype) count message seen viewed in
    let laid_by_own : written seen seen.parts.properties dtype 0 ≡ Ok payload = sym (written-same seen held.properties seen.parts.properties dtype 0 seen.dbr type own) ∙ laid in
    let again = shown-written dtype count 0 message payload rest seen small viewed (omega arith) laid_by_own in
    (rw (viewed, laid, counted) refl, rw whole at again)
