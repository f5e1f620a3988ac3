-- Parts of payloads that are laid out already.
use Rattle.std.specs.Prelude.{◌≡◌, ℕ, ◌≤◌, false, List, length, take, drop, slice_range, Option, Ok}
use Rattle.dbr_layout.specs.declared.dbr.Base.{Base}
use Rattle.dbr_layout.specs.declared.dbr.Dbr.{Dbr}
use Rattle.dbr_layout.specs.declared.dbr.Form.TheVariants.{Plain}
use Rattle.dbr_layout.specs.declared.dbr.TheConstants.{MAX_PAYLOAD}
use Rattle.dbr_layout.specs.Conversion.{given_count}
use Rattle.dbr_layout.specs.Converted.{written}
use Rattle.dbr_layout.specs.Dbr.{payload_size, value_offset}
use Rattle.dbr_layout.specs.Layout.{layout}
use Rattle.dbr_layout.specs.Needs.{is_described}
use Rattle.dbr_layout.specs.Parts.{parts_in}
use Rattle.dbr_layout.specs.Properties.{Properties}
use Rattle.dbr_layout.specs.View.{Shown, shown}

-- the parts that the bytes hold, as this many elements of a type whose form tells no properties, are laid out as the
-- first of the bytes
pub record IsLaidOut (dbr : Dbr) (count : ℕ) (bytes : List ℕ) : Type 0 where
  pub undescribed : is_described dbr.form ≡ false
  pub there : payload_size dbr count ≤ length bytes
  pub fits : payload_size dbr count ≤ MAX_PAYLOAD
  pub whole : layout dbr (parts_in dbr count bytes) ≡ take (payload_size dbr count) bytes

-- the plain type of a base
abbrev pub plain : Base → Dbr
plain b = record { base = b; form = Plain }

-- from its elements on, a payload with this many of a type is laid out already under the plain type of the same base
pub record IsPlainThere (native : Dbr) (count : ℕ) (bytes : List ℕ) : Type 0 where
  pub begins : value_offset native ≤ length bytes
  pub laid_out : IsLaidOut (plain native.base) count (drop (value_offset native) bytes)

-- what a payload of `there` elements shows is written under an asked type as the bytes of the payload from `start` to
-- `end`, whatever the properties are, and the count gives all elements
pub record IsOwnPart (dtype there : ℕ) (bytes : List ℕ) (asked count start end : ℕ) : Type 0 where
  pub ordered : start ≤ end
  pub within : end ≤ length bytes
  pub seen : Shown
  pub shows : shown dtype there bytes ≡ Ok seen
  pub all : given_count count (length seen.parts.elements) ≡ there
  pub whole : (properties : Option Properties) → written seen properties asked count ≡ Ok (slice_range bytes start end)
