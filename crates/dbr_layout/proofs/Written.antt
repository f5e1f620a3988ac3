-- What is written, where nothing or the size alone stands against it.
use Rattle.std.proofs.Common.{◌≡◌, ℕ, ◌<◌, ◌≤◌, Option, Some, Ok, Err, length, map, refl}
use Rattle.std.proofs.lemmas.Bool.{le-leb, lt-leb}
use Rattle.dbr_layout.specs.declared.conversion.Conversion.{Conversion}
use Rattle.dbr_layout.specs.declared.dbr.Dbr.{Dbr}
use Rattle.dbr_layout.specs.declared.dbr.TheConstants.{MAX_PAYLOAD}
use Rattle.dbr_layout.specs.declared.fault.LayoutFault.TheVariants.{TooLarge}
use Rattle.dbr_layout.specs.Conversion.{conversion_between, converted_element, given_count}
use Rattle.dbr_layout.specs.Converted.{converted_parts, states_in, used, written}
use Rattle.dbr_layout.specs.Dbr.{dbr_of, element_size, payload_size}
use Rattle.dbr_layout.specs.Layout.{layout}
use Rattle.dbr_layout.specs.Properties.{Properties}
use Rattle.dbr_layout.specs.View.{Shown}
use Rattle.dbr_layout.proofs.Laying.{length-first_elements}

pub written_of : (seen : Shown) (own properties : Option Properties) (dtype count : ℕ) (asked : Dbr) (how : Conversion) (given : ℕ)
    → dbr_of dtype ≡ Some asked → conversion_between seen.dbr.base asked.base ≡ Some how → used seen.dbr.base asked own ≡ Ok properties
    → given ≡ given_count count (length seen.parts.elements) → payload_size asked given ≤ MAX_PAYLOAD
    → written seen own dtype count ≡ Ok (layout asked (converted_parts seen asked how properties given))
written_of seen own properties dtype count asked how given type known told many fits =
    rw (type, known, told, ← many, length-first_elements (element_size asked.base) given (map (converted_element (states_in properties) how) seen.parts.elements), le-leb (payload_size asked given) MAX_PAYLOAD fits) refl

pub too_large_of : (seen : Shown) (own properties : Option Properties) (dtype count : ℕ) (asked : Dbr) (how : Conversion) (given : ℕ)
    → dbr_of dtype ≡ Some asked → conversion_between seen.dbr.base asked.base ≡ Some how → used seen.dbr.base asked own ≡ Ok properties
    → given ≡ given_count count (length seen.parts.elements) → MAX_PAYLOAD < payload_size asked given
    → written seen own dtype count ≡ Err TooLarge
too_large_of seen own properties dtype count asked how given type known told many over =
    rw (type, known, told, ← many, length-first_elements (element_size asked.base) given (map (converted_element (states_in properties) how) seen.parts.elements), lt-leb (payload_size asked given) MAX_PAYLOAD over) refl
