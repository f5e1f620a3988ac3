-- Properties that are told beside an element are told without it.
use Rattle.std.proofs.Common.{◌≡◌, ℕ, ◌≤◌, List, true, false, if◌then◌else◌, length, Option, Some, None, Result, Ok, Err, refl, ◌==◌, ◌&&◌, arith}
use Rattle.std.specs.Prelude.{is_some, nat_le, ok_or}
use Rattle.std.proofs.lemmas.Bool.{false≢true, and_parts, le-leb, leb-true}
use Rattle.dbr_layout.specs.declared.dbr.Dbr.{Dbr}
use Rattle.dbr_layout.specs.declared.fault.LayoutFault.{LayoutFault}
use Rattle.dbr_layout.specs.declared.fault.LayoutFault.TheVariants.{BadType, Short}
use Rattle.dbr_layout.specs.Dbr.{dbr_of, value_end}
use Rattle.dbr_layout.specs.Fault.{◌>>=◌}
use Rattle.dbr_layout.specs.Parts.{parts_in}
use Rattle.dbr_layout.specs.View.{Shown, shown}
use Rattle.value_cache.specs.Held.{properties_in}
use Rattle.value_cache.specs.Message.{TellsProperties}
use Rattle.gateway_state.specs.Servers.{ctrl_of, is_described_in, is_description}

abbrev pub shown_under : Dbr → ℕ → List ℕ → Result Shown LayoutFault
shown_under dbr count bytes = if nat_le (value_end dbr count) (length bytes) then Ok (record { dbr = dbr; parts = parts_in dbr count bytes }) else Err Short

told_alone : (found : Option Dbr) (count : ℕ) (bytes : List ℕ) → is_described_in (ok_or found BadType >>= (λ dbr. shown_under dbr count bytes)) ≡ true
    → is_some (properties_in (ok_or found BadType >>= (λ dbr. shown_under dbr 0 bytes))) ≡ true
told_alone None count bytes told = absurd (false≢true told)
told_alone (Some dbr) count bytes told =
    elim (nat_le (value_end dbr count) (length bytes)) as (λ t. nat_le (value_end dbr count) (length bytes) ≡ t → is_described_in (if t then Ok (record { dbr = dbr; parts = parts_in dbr count bytes }) else Err Short) ≡ true → is_some (properties_in (shown_under dbr 0 bytes)) ≡ true) [
      | true ↦ λ fits is.
          let all : value_end dbr count ≤ length bytes = leb-true (value_end dbr count) (length bytes) fits in
          let front : value_end dbr 0 ≤ length bytes = omega arith in
          rw (le-leb (value_end dbr 0) (length bytes) front) is
      | false ↦ λ _ is. absurd (false≢true is)
    ] refl told

pub description_tells : (native dtype count : ℕ) (bytes : List ℕ) → is_description native dtype count bytes ≡ true → TellsProperties dtype bytes
description_tells native dtype count bytes is =
    let parts = and_parts (dtype == ctrl_of native && nat_le count 1) (is_described_in (shown dtype count bytes)) is in
    told_alone (dbr_of dtype) count bytes parts.1
