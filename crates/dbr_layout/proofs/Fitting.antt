-- Properties that are as large as those of their base.
use Rattle.std.proofs.Common.{◌≡◌, ℕ, ◌+◌, ◌*◌, ◌≤◌, min, List, ◌++◌, length, take, drop, replicate, refl, arith}
use Rattle.std.proofs.lemmas.List.{length-append, length-drop, length-replicate, length-take}
use Rattle.std.specs.List.{concat}
use Rattle.dbr_layout.specs.declared.dbr.Base.{Base}
use Rattle.dbr_layout.specs.Dbr.{element_size}
use Rattle.dbr_layout.specs.Properties.{Fit, Properties, limit_count, precision_size, properties_of, properties_size, property_bytes, states_size, units_offset, units_size}
use Rattle.dbr_layout.proofs.Elements.{AreSized-from, AreSized-take, length-concat, length-elements_in}

-- those in bytes
pub Fit-properties_of : (base : Base) (bytes : List ℕ) → properties_size base ≤ length bytes → Fit base (properties_of base bytes)
Fit-properties_of base bytes there =
    record {
      same = refl;
      states = omega (arith, there, length-take (states_size base) bytes);
      precision = omega (arith, there, length-take (precision_size base) bytes);
      units = omega (arith, there, length-take (units_size base) (drop (units_offset base) bytes), length-drop (units_offset base) bytes);
      count = length-elements_in (element_size base) (limit_count base) (drop (units_offset base + units_size base) bytes);
      limits = AreSized-from (units_offset base + units_size base) (element_size base) (limit_count base) bytes (omega (arith, there));
    }

-- how many bytes they have, with the first limits
pub length-property_bytes : (base : Base) (limits : ℕ) (p : Properties) → Fit base p
    → length (property_bytes limits p) ≡ states_size base + (2 * precision_size base + (units_size base + min limits (limit_count base) * element_size base))
length-property_bytes base limits p fit =
    let zeros : List ℕ = replicate (length p.precision) 0 in
    let first : List (List ℕ) = take limits p.limits in
    let told : length (concat first) ≡ length first * element_size base = length-concat (element_size base) first (AreSized-take (element_size base) limits p.limits fit.limits) in
    let many : length first ≡ min limits (limit_count base) = rw (length-take limits p.limits, fit.count) refl in
    let numbers : length (p.precision ++ zeros) ≡ 2 * precision_size base = omega (arith, fit.precision, length-append p.precision zeros, length-replicate {A = ℕ} (length p.precision) 0) in
    let behind : length (p.units ++ concat first) ≡ units_size base + min limits (limit_count base) * element_size base = rw (length-append p.units (concat first), told, many, fit.units) refl in
    rw (length-append p.states ((p.precision ++ zeros) ++ (p.units ++ concat first)), length-append (p.precision ++ zeros) (p.units ++ concat first), numbers, behind, fit.states) refl
