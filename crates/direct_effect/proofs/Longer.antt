-- An update that counts says the same by the bytes of its payload that count, and with more bytes behind these.
use Rattle.std.proofs.Common.{◌≡◌, ℕ, ◌≤◌, Bool, List, ◌++◌, take, drop, length, true, false, if◌then◌else◌, Option, Some, None, Result, Ok, Err, ◌==◌, ◌&&◌, refl, sym, ap, subst, ◌∙◌, arith}
use Rattle.std.specs.Prelude.{IsOk, is_ok, is_some, nat_le, ok_or, option_map, unwrap_or}
use Rattle.std.proofs.lemmas.Bool.{false≢true, and_parts, le-leb, leb-true}
use Rattle.std.proofs.lemmas.List.{length-take-le, take-append-drop}
use Rattle.dbr_layout.specs.declared.dbr.Dbr.{Dbr}
use Rattle.dbr_layout.specs.declared.fault.LayoutFault.{LayoutFault}
use Rattle.dbr_layout.specs.declared.fault.LayoutFault.TheVariants.{BadType, Short}
use Rattle.dbr_layout.specs.Dbr.{dbr_of, value_end}
use Rattle.dbr_layout.specs.Fault.{◌>>=◌}
use Rattle.dbr_layout.specs.Parts.{parts_in}
use Rattle.dbr_layout.specs.View.{Shown, shown}
use Rattle.dbr_layout.proofs.Following.{shown_longer}
use Rattle.link_table.specs.declared.links.Subject.{Subject}
use Rattle.link_table.specs.declared.links.Subject.TheVariants.{Values, Properties}
use Rattle.value_cache.specs.Held.{Held, properties_in, value_of}
use Rattle.gateway_state.specs.Servers.{ctrl_of, held_with, is_described_in, is_heard, time_of}
use Rattle.direct_effect.specs.Kept.{IsKeptAs, counted}
use Rattle.direct_effect.proofs.Described.{description_tells, shown_under}

-- what shows something was read
shown_ok : (seen : Result Shown LayoutFault) → is_ok seen ≡ true → IsOk seen
shown_ok (Ok s) is = refl
shown_ok (Err fault) is = absurd (false≢true is)

described_ok : (seen : Result Shown LayoutFault) → is_described_in seen ≡ true → IsOk seen
described_ok (Ok s) is = refl
described_ok (Err fault) is = absurd (false≢true is)

told_ok : (seen : Result Shown LayoutFault) → is_some (properties_in seen) ≡ true → IsOk seen
told_ok (Ok s) is = refl
told_ok (Err fault) is = absurd (false≢true is)

heard_ok : (subject : Subject) (native asked_with dtype count : ℕ) (payload : List ℕ) → is_heard subject native asked_with dtype count payload ≡ true → IsOk (shown dtype count payload)
heard_ok Values native asked_with dtype count payload is =
    shown_ok (shown dtype count payload) (and_parts (dtype == time_of native && nat_le count asked_with) (is_ok (shown dtype count payload)) is).1
heard_ok Properties native asked_with dtype count payload is =
    described_ok (shown dtype count payload) (and_parts (dtype == ctrl_of native && nat_le count 1) (is_described_in (shown dtype count payload)) is).1

module _ (native asked_with dtype count : ℕ) (payload more : List ℕ) where
  heard_with_more : (subject : Subject) → is_heard subject native asked_with dtype count payload ≡ true → is_heard subject native asked_with dtype count (payload ++ more) ≡ true
  heard_with_more Values is =
      ap (λ (seen : Result Shown LayoutFault). dtype == time_of native && nat_le count asked_with && is_ok seen) (shown_longer dtype count payload more (heard_ok Values native asked_with dtype count payload is)) ∙ is
  heard_with_more Properties is =
      ap (λ (seen : Result Shown LayoutFault). dtype == ctrl_of native && nat_le count 1 && is_described_in seen) (shown_longer dtype count payload more (heard_ok Properties native asked_with dtype count payload is)) ∙ is

  held_with_more : (subject : Subject) → is_heard subject native asked_with dtype count payload ≡ true → held_with subject dtype count (payload ++ more) asked_with ≡ held_with subject dtype count payload asked_with
  held_with_more Values is =
      ap (λ (seen : Result Shown LayoutFault). λ (held : Held). record held { value = value_of seen asked_with }) (shown_longer dtype count payload more (heard_ok Values native asked_with dtype count payload is))
  held_with_more Properties is =
      ap (λ (seen : Result Shown LayoutFault). λ (held : Held). record held { properties = properties_in seen })
      (shown_longer dtype 0 payload more (told_ok (shown dtype 0 payload) (description_tells native dtype count payload is)))

-- what is shown where it fits
abbrev if_fits : Bool → Shown → Result Shown LayoutFault
if_fits fits seen = if fits then Ok seen else Err Short

fits_where_shown : (fits : Bool) (n m : ℕ) (seen : Shown) → nat_le n m ≡ fits → IsOk (if_fits fits seen) → n ≤ m
fits_where_shown true n m seen is ok = leb-true n m is
fits_where_shown false n m seen is ok = absurd (false≢true ok)

-- so many bytes of a payload that shows something are there, and show the same
module _ (dtype count : ℕ) (payload : List ℕ) where
  abbrev front : List ℕ
  front = take (counted dtype count) payload

  -- by the type with this number
  found_whole : (found : Option Dbr) → IsOk (ok_or found BadType >>= (λ dbr. shown_under dbr count payload)) → unwrap_or (option_map (λ dbr. value_end dbr count) found) 0 ≤ length payload
  found_whole None ok = absurd (false≢true ok)
  found_whole (Some dbr) ok =
      fits_where_shown (nat_le (value_end dbr count) (length payload)) (value_end dbr count) (length payload) (record { dbr = dbr; parts = parts_in dbr count payload }) refl ok

  found_front : (found : Option Dbr) (bytes : List ℕ) → IsOk (ok_or found BadType >>= (λ dbr. shown_under dbr count payload)) → unwrap_or (option_map (λ dbr. value_end dbr count) found) 0 ≤ length bytes
      → IsOk (ok_or found BadType >>= (λ dbr. shown_under dbr count bytes))
  found_front None bytes ok there = absurd (false≢true ok)
  found_front (Some dbr) bytes ok there = rw (le-leb (value_end dbr count) (length bytes) there) refl

  is_whole : IsOk (shown dtype count payload) → counted dtype count ≤ length payload
  is_whole ok = found_whole (dbr_of dtype) ok

  front_ok : IsOk (shown dtype count payload) → IsOk (shown dtype count front)
  front_ok ok = found_front (dbr_of dtype) front ok (omega (arith, is_whole ok, length-take-le (counted dtype count) payload (is_whole ok)))

  shown_front : IsOk (shown dtype count payload) → shown dtype count front ≡ shown dtype count payload
  shown_front ok =
      sym (shown_longer dtype count front (drop (counted dtype count) payload) (front_ok ok))
      ∙ ap (shown dtype count) (take-append-drop (counted dtype count) payload)

-- an update that counts has its bytes that count
pub heard_whole : (subject : Subject) (native asked_with dtype count : ℕ) (payload : List ℕ) → is_heard subject native asked_with dtype count payload ≡ true → counted dtype count ≤ length payload
heard_whole subject native asked_with dtype count payload heard = is_whole dtype count payload (heard_ok subject native asked_with dtype count payload heard)

-- and these say what all of it says
module _ (native asked_with dtype count : ℕ) (payload : List ℕ) where
  heard_front : (subject : Subject) → is_heard subject native asked_with dtype count payload ≡ true → is_heard subject native asked_with dtype count (front dtype count payload) ≡ true
  heard_front Values is =
      ap (λ (seen : Result Shown LayoutFault). dtype == time_of native && nat_le count asked_with && is_ok seen) (shown_front dtype count payload (heard_ok Values native asked_with dtype count payload is)) ∙ is
  heard_front Properties is =
      ap (λ (seen : Result Shown LayoutFault). dtype == ctrl_of native && nat_le count 1 && is_described_in seen) (shown_front dtype count payload (heard_ok Properties native asked_with dtype count payload is)) ∙ is

  held_front : (subject : Subject) → is_heard subject native asked_with dtype count payload ≡ true → held_with subject dtype count (front dtype count payload) asked_with ≡ held_with subject dtype count payload asked_with
  held_front subject is =
      sym (held_with_more native asked_with dtype count (front dtype count payload) (drop (counted dtype count) payload) subject (heard_front subject is))
      ∙ ap (λ (bytes : List ℕ). held_with subject dtype count bytes asked_with) (take-append-drop (counted dtype count) payload)

pub kept_with_more : (dtype count : ℕ) (payload more kept : List ℕ) → kept ≡ take (counted dtype count) payload ++ more → IsKeptAs dtype count payload kept
kept_with_more dtype count payload more kept is = (more, is)

-- the same by what is kept
pub heard_as_kept : (subject : Subject) (native asked_with dtype count : ℕ) (payload kept : List ℕ) → IsKeptAs dtype count payload kept → is_heard subject native asked_with dtype count payload ≡ true
    → is_heard subject native asked_with dtype count kept ≡ true
heard_as_kept subject native asked_with dtype count payload kept (more, is) heard =
    subst (λ (bytes : List ℕ). is_heard subject native asked_with dtype count bytes ≡ true) (sym is)
    (heard_with_more native asked_with dtype count (front dtype count payload) more subject (heard_front native asked_with dtype count payload subject heard))

pub held_as_kept : (subject : Subject) (native asked_with dtype count : ℕ) (payload kept : List ℕ) → IsKeptAs dtype count payload kept → is_heard subject native asked_with dtype count payload ≡ true
    → held_with subject dtype count kept asked_with ≡ held_with subject dtype count payload asked_with
held_as_kept subject native asked_with dtype count payload kept (more, is) heard =
    ap (λ (bytes : List ℕ). held_with subject dtype count bytes asked_with) is
    ∙ held_with_more native asked_with dtype count (front dtype count payload) more subject (heard_front native asked_with dtype count payload subject heard)
    ∙ held_front native asked_with dtype count payload subject heard
