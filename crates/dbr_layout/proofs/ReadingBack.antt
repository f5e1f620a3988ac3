-- What is laid out is shown again.
use Rattle.std.proofs.Common.{◌≡◌, ℕ, ℤ, ◌+◌, ◌-◌, ◌*◌, ◌^◌, ◌<◌, ◌≤◌, List, [], ◌∷◌, ◌++◌, Option, Some, None, Ok, FitsSigned, length, take, drop, replicate, refl, sym, ap, ◌∙◌, arith}
use Rattle.std.proofs.lemmas.Int.{to_z-of_z}
use Rattle.std.proofs.lemmas.List.{append-nil, append_assoc, drop_at, length-append, length-replicate, nil_from_length, take_all, take_at}
use Rattle.std.proofs.Math.Facts.{Fits-of_z}
use Rattle.std.specs.Int.{w16, w32, cast_signed, cast_unsigned, next_multiple_of, to_be_bytes}
use Rattle.std.specs.List.{concat}
use Rattle.byteorder.specs.Endian.{big_number}
use Rattle.byteorder.specs.Numbers.{big_number-reads_back}
use Rattle.dbr_layout.specs.declared.dbr.Form.{Form}
use Rattle.dbr_layout.specs.declared.dbr.Form.TheVariants.{Plain, Sts, Time, Gr, Ctrl}
use Rattle.dbr_layout.specs.declared.dbr.Base.{Base}
use Rattle.dbr_layout.specs.declared.dbr.Base.TheVariants as base
use Rattle.dbr_layout.specs.declared.dbr.Dbr.{Dbr}
use Rattle.dbr_layout.specs.declared.dbr.TheConstants.{ALIGNMENT}
use Rattle.dbr_layout.specs.declared.view.Stamp.{Stamp}
use Rattle.dbr_layout.specs.Dbr.{element_size, value_end, value_offset}
use Rattle.dbr_layout.specs.Laws.{CanHold, FitForm, ReadsBack, kept}
use Rattle.dbr_layout.specs.Layout.{fields, filled_to, layout, value_bytes}
use Rattle.dbr_layout.specs.Elements.{AreSized, elements_in}
use Rattle.dbr_layout.specs.Parts.{Parts, fields_len, parts_in, properties_in, properties_under, severity_in, stamp_in, status_in}
use Rattle.dbr_layout.specs.Properties.{Fit, Properties, limit_count, precision_size, properties_of, property_bytes, property_bytes_in, states_size, units_offset, units_size}
use Rattle.dbr_layout.proofs.Elements.{elements_in-append, length-concat}
use Rattle.dbr_layout.proofs.Laying.{FitTold, length-fields-le, length-filled_to}
use Rattle.dbr_layout.proofs.Viewing.{shown_ok}

-- elements of one size, joined, are cut apart again
elements_in-concat : (size : ℕ) (elements : List (List ℕ)) → AreSized size elements → elements_in size (length elements) (concat elements) ≡ elements
elements_in-concat size [] h = refl
elements_in-concat size (element ∷ elements) h =
    rw (take_at element (concat elements) size h.0, drop_at element (concat elements) size h.0, elements_in-concat size elements h.1) refl

-- a signed number of 16 bits
signed_again : (z : ℤ) (more : List ℕ) → FitsSigned w16 z → cast_signed w16 (big_number 2 (to_be_bytes w16 (cast_unsigned w16 z) ++ more)) ≡ z
signed_again z more fits =
    let small = Fits-of_z fits in
    ap (cast_signed w16) (big_number-reads_back 2 (cast_unsigned w16 z) more small.fits) ∙ to_z-of_z w16 z fits

status_again : (form : Form) (parts : Parts) (more : List ℕ) → FitsSigned w16 parts.status → status_in form (fields form parts ++ more) ≡ (kept form parts).status
status_again Plain parts more fits = refl
status_again Sts parts more fits = signed_again parts.status more fits
status_again Time parts more fits = signed_again parts.status more fits
status_again Gr parts more fits = signed_again parts.status more fits
status_again Ctrl parts more fits = signed_again parts.status more fits

severity_again : (form : Form) (parts : Parts) (more : List ℕ) → FitsSigned w16 parts.severity → severity_in form (fields form parts ++ more) ≡ (kept form parts).severity
severity_again Plain parts more fits = refl
severity_again Sts parts more fits = signed_again parts.severity more fits
severity_again Time parts more fits = signed_again parts.severity more fits
severity_again Gr parts more fits = signed_again parts.severity more fits
severity_again Ctrl parts more fits = signed_again parts.severity more fits

number_again : (n : ℕ) (more : List ℕ) → n < 2 ^ 32 → big_number 4 (to_be_bytes w32 n ++ more) ≡ n
number_again n more small = big_number-reads_back 4 n more small

stamp_again : (form : Form) (parts : Parts) (more : List ℕ) → parts.stamp.seconds < 2 ^ 32 → parts.stamp.nanoseconds < 2 ^ 32 → stamp_in form (fields form parts ++ more) ≡ (kept form parts).stamp
stamp_again Time parts more seconds nanoseconds =
    ap (λ (n : ℕ). let s : Stamp = record { seconds = n; nanoseconds = big_number 4 (drop 8 (fields Time parts ++ more)) } in s) (number_again parts.stamp.seconds more seconds)
    ∙ ap (λ (n : ℕ). let s : Stamp = record { seconds = parts.stamp.seconds; nanoseconds = n } in s) (number_again parts.stamp.nanoseconds more nanoseconds)
stamp_again Plain parts more seconds nanoseconds = refl
stamp_again Sts parts more seconds nanoseconds = refl
stamp_again Gr parts more seconds nanoseconds = refl
stamp_again Ctrl parts more seconds nanoseconds = refl

made_properties : Base → List ℕ → List ℕ → List ℕ → List (List ℕ) → Properties
made_properties b states precision units limits = record { base = b; states = states; precision = precision; units = units; limits = limits }

pub same_properties : (p q : Properties) → p.base ≡ q.base → p.states ≡ q.states → p.precision ≡ q.precision → p.units ≡ q.units → p.limits ≡ q.limits → p ≡ q
unfolding made_properties
same_properties p q b states precision units limits =
    ap (λ (x : Base). made_properties x p.states p.precision p.units p.limits) b
    ∙ ap (λ (x : List ℕ). made_properties q.base x p.precision p.units p.limits) states
    ∙ ap (λ (x : List ℕ). made_properties q.base q.states x p.units p.limits) precision
    ∙ ap (λ (x : List ℕ). made_properties q.base q.states q.precision x p.limits) units
    ∙ ap (λ (x : List (List ℕ)). made_properties q.base q.states q.precision q.units x) limits

-- limits that stand behind so many bytes
limits_again : (b : Base) (p : Properties) (front more : List ℕ) (n : ℕ) → Fit b p → length front ≡ n → elements_in (element_size b) (limit_count b) (drop n (front ++ (concat p.limits ++ more))) ≡ p.limits
limits_again b p front more n fit stands =
    let all : limit_count b * element_size b ≤ length (concat p.limits) = omega (arith, fit.count, length-concat (element_size b) p.limits fit.limits, ap (λ (k : ℕ). k * element_size b) fit.count) in
    rw (drop_at front (concat p.limits ++ more) n stands, elements_in-append (element_size b) (limit_count b) (concat p.limits) more all, ← fit.count)
    (elements_in-concat (element_size b) p.limits fit.limits)

-- eight limits are all of them
all_limits : (b : Base) (p : Properties) → Fit b p → limit_count b ≤ 8 → take 8 p.limits ≡ p.limits
all_limits b p fit few = take_all 8 p.limits (omega (arith, fit.count, few))

-- the properties of numbers
numbers_again : (b : Base) (p : Properties) (more : List ℕ) → Fit b p → states_size b ≡ 0 → limit_count b ≤ 8 → properties_of b (property_bytes 8 p ++ more) ≡ p
numbers_again b p more fit none few =
    let zeros : List ℕ = replicate (length p.precision) 0 in
    let front : List ℕ = p.precision ++ zeros in
    let behind : List ℕ = concat p.limits ++ more in
    let bytes : List ℕ = property_bytes 8 p ++ more in
    let states : p.states ≡ [] = nil_from_length p.states (omega (arith, fit.states, none)) in
    let whole : bytes ≡ front ++ (p.units ++ behind) =
    rw (all_limits b p fit few, states) (append_assoc front (p.units ++ concat p.limits) more ∙ ap (λ (x : List ℕ). front ++ x) (append_assoc p.units (concat p.limits) more)) in
    let wide : length front ≡ units_offset b = omega (arith, fit.precision, length-append p.precision zeros, length-replicate {A = ℕ} (length p.precision) 0) in
    let wider : length (front ++ p.units) ≡ units_offset b + units_size b = omega (arith, fit.units, wide, length-append front p.units) in
    rw whole
    (same_properties
    (properties_of b (front ++ (p.units ++ behind)))
    p
    (sym fit.same)
    (rw (none, states) refl)
    (rw (append_assoc p.precision zeros (p.units ++ behind)) (take_at p.precision (zeros ++ (p.units ++ behind)) (precision_size b) fit.precision))
    (rw (drop_at front (p.units ++ behind) (units_offset b) wide) (take_at p.units behind (units_size b) fit.units))
    (rw (← append_assoc front p.units behind) (limits_again b p (front ++ p.units) more (units_offset b + units_size b) fit wider)))

-- the properties of states
states_again : (b : Base) (p : Properties) (more : List ℕ) → Fit b p → precision_size b ≡ 0 → units_size b ≡ 0 → limit_count b ≡ 0 → properties_of b (property_bytes 8 p ++ more) ≡ p
states_again b p more fit no_precision no_units no_limits =
    let precision : p.precision ≡ [] = nil_from_length p.precision (omega (arith, fit.precision, no_precision)) in
    let units : p.units ≡ [] = nil_from_length p.units (omega (arith, fit.units, no_units)) in
    let limits : p.limits ≡ [] = nil_from_length p.limits (omega (arith, fit.count, no_limits)) in
    let whole : property_bytes 8 p ++ more ≡ p.states ++ more =
    rw (precision, units, limits) (ap (λ (x : List ℕ). x ++ more) (append-nil p.states)) in
    rw whole
    (same_properties
    (properties_of b (p.states ++ more))
    p
    (sym fit.same)
    (take_at p.states more (states_size b) fit.states)
    (rw (no_precision, precision) refl)
    (rw (no_units, units) refl)
    (rw (no_limits, limits) refl))

properties_again : (b : Base) (p : Properties) (more : List ℕ) → Fit b p → properties_of b (property_bytes 8 p ++ more) ≡ p
properties_again base.String p more fit = states_again base.String p more fit refl refl refl
properties_again base.Short p more fit = numbers_again base.Short p more fit refl (omega arith)
properties_again base.Float p more fit = numbers_again base.Float p more fit refl (omega arith)
properties_again base.Enum p more fit = states_again base.Enum p more fit refl refl refl
properties_again base.Char p more fit = numbers_again base.Char p more fit refl (omega arith)
properties_again base.Long p more fit = numbers_again base.Long p more fit refl (omega arith)
properties_again base.Double p more fit = numbers_again base.Double p more fit refl (omega arith)

given_again : (b : Base) (given : Option Properties) (more : List ℕ) → FitForm Ctrl b given → Some (properties_of b (property_bytes_in 8 given ++ more)) ≡ given
given_again b None more fit = absurd fit
given_again b (Some p) more fit = ap (λ (x : Properties). Some x) (properties_again b p more fit)

told_again : (form : Form) (b : Base) (parts : Parts) (more : List ℕ) → FitForm form b parts.properties → properties_under form b (drop (fields_len form) (fields form parts ++ more)) ≡ (kept form parts).properties
told_again Plain b parts more fit = refl
told_again Sts b parts more fit = refl
told_again Time b parts more fit = refl
told_again Gr b parts more fit = refl
told_again Ctrl b parts more fit = given_again b parts.properties more fit

-- what fits a form is as large as what its base has
fit_form : (form : Form) (b : Base) (given : Option Properties) → FitForm form b given → FitTold form b given
fit_form Plain b given fit = tt
fit_form Sts b given fit = tt
fit_form Time b given fit = tt
fit_form Gr b None fit = tt
fit_form Gr b (Some p) fit = fit
fit_form Ctrl b None fit = absurd fit
fit_form Ctrl b (Some p) fit = fit

-- the payload, from its fields on and from its elements on
layout_regrouped : (dbr : Dbr) (parts : Parts) (rest : List ℕ) → (zeros : List ℕ) × (layout dbr parts ++ rest ≡ filled_to (value_offset dbr) (fields dbr.form parts) ++ (concat parts.elements ++ (zeros ++ rest)))
layout_regrouped dbr parts rest =
    let front : List ℕ = filled_to (value_offset dbr) (fields dbr.form parts) in
    let value : List ℕ = value_bytes dbr parts in
    let zeros : List ℕ = replicate (next_multiple_of (length value) ALIGNMENT - length value) 0 in
    (zeros, append_assoc value zeros rest ∙ append_assoc front (concat parts.elements) (zeros ++ rest))

-- the elements stand where the value begins
elements_again : (dbr : Dbr) (parts : Parts) (rest : List ℕ) → FitTold dbr.form dbr.base parts.properties → AreSized (element_size dbr.base) parts.elements → elements_in (element_size dbr.base) (length parts.elements) (drop (value_offset dbr) (layout dbr parts ++ rest)) ≡ parts.elements
elements_again dbr parts rest fit sized =
    let regrouped = layout_regrouped dbr parts rest in
    let front : List ℕ = filled_to (value_offset dbr) (fields dbr.form parts) in
    let behind : List ℕ = concat parts.elements ++ (regrouped.0 ++ rest) in
    let all : length parts.elements * element_size dbr.base ≤ length (concat parts.elements) = omega (arith, length-concat (element_size dbr.base) parts.elements sized) in
    ap (λ (bytes : List ℕ). elements_in (element_size dbr.base) (length parts.elements) (drop (value_offset dbr) bytes)) regrouped.1
    ∙ ap (elements_in (element_size dbr.base) (length parts.elements)) (drop_at front behind (value_offset dbr) (length-filled_to (value_offset dbr) (fields dbr.form parts) (length-fields-le dbr parts fit)))
    ∙ elements_in-append (element_size dbr.base) (length parts.elements) (concat parts.elements) (regrouped.0 ++ rest) all
    ∙ elements_in-concat (element_size dbr.base) parts.elements sized

-- the fields stand at the front
fields_regrouped : (dbr : Dbr) (parts : Parts) (rest : List ℕ) → (more : List ℕ) × (layout dbr parts ++ rest ≡ fields dbr.form parts ++ more)
fields_regrouped dbr parts rest =
    let regrouped = layout_regrouped dbr parts rest in
    let gap : List ℕ = replicate (value_offset dbr - length (fields dbr.form parts)) 0 in
    let behind : List ℕ = concat parts.elements ++ (regrouped.0 ++ rest) in
    (gap ++ behind, regrouped.1 ∙ append_assoc (fields dbr.form parts) gap behind)

-- there are bytes for all of the elements
value_end-le : (dbr : Dbr) (parts : Parts) (rest : List ℕ) → FitTold dbr.form dbr.base parts.properties → AreSized (element_size dbr.base) parts.elements → value_end dbr (length parts.elements) ≤ length (layout dbr parts ++ rest)
value_end-le dbr parts rest fit sized =
    let regrouped = layout_regrouped dbr parts rest in
    let front : List ℕ = filled_to (value_offset dbr) (fields dbr.form parts) in
    let behind : List ℕ = concat parts.elements ++ (regrouped.0 ++ rest) in
    rw regrouped.1
    (omega
    (arith, length-append front behind, length-append (concat parts.elements) (regrouped.0 ++ rest), length-concat (element_size dbr.base) parts.elements sized, length-filled_to (value_offset dbr) (fields dbr.form parts) (length-fields-le dbr parts fit)))

-- the elements are kept by each form
elements_kept : (form : Form) (parts : Parts) → (kept form parts).elements ≡ parts.elements
elements_kept Plain parts = refl
elements_kept Sts parts = refl
elements_kept Time parts = refl
elements_kept Gr parts = refl
elements_kept Ctrl parts = refl

abbrev made_of : ℤ → ℤ → Stamp → Option Properties → List (List ℕ) → Parts
made_of status severity stamp properties elements = record { status = status; severity = severity; stamp = stamp; properties = properties; elements = elements }

pub same_parts : (p q : Parts) → p.status ≡ q.status → p.severity ≡ q.severity → p.stamp ≡ q.stamp → p.properties ≡ q.properties → p.elements ≡ q.elements → p ≡ q
same_parts p q status severity stamp properties elements =
    ap (λ (x : ℤ). made_of x p.severity p.stamp p.properties p.elements) status
    ∙ ap (λ (x : ℤ). made_of q.status x p.stamp p.properties p.elements) severity
    ∙ ap (λ (x : Stamp). made_of q.status q.severity x p.properties p.elements) stamp
    ∙ ap (λ (x : Option Properties). made_of q.status q.severity q.stamp x p.elements) properties
    ∙ ap (λ (x : List (List ℕ)). made_of q.status q.severity q.stamp q.properties x) elements

parts_in-layout : (dbr : Dbr) (parts : Parts) (rest : List ℕ) → CanHold dbr parts → parts_in dbr (length parts.elements) (layout dbr parts ++ rest) ≡ kept dbr.form parts
parts_in-layout dbr parts rest holds =
    let front = fields_regrouped dbr parts rest in
    let fit = fit_form dbr.form dbr.base parts.properties holds.properties in
    let status : status_in dbr.form (layout dbr parts ++ rest) ≡ (kept dbr.form parts).status = rw front.1 (status_again dbr.form parts front.0 holds.status) in
    let severity : severity_in dbr.form (layout dbr parts ++ rest) ≡ (kept dbr.form parts).severity = rw front.1 (severity_again dbr.form parts front.0 holds.severity) in
    let stamp : stamp_in dbr.form (layout dbr parts ++ rest) ≡ (kept dbr.form parts).stamp = rw front.1 (stamp_again dbr.form parts front.0 holds.seconds holds.nanoseconds) in
    let told : properties_in dbr (layout dbr parts ++ rest) ≡ (kept dbr.form parts).properties = rw front.1 (told_again dbr.form dbr.base parts front.0 holds.properties) in
    let elements : elements_in (element_size dbr.base) (length parts.elements) (drop (value_offset dbr) (layout dbr parts ++ rest)) ≡ (kept dbr.form parts).elements =
    elements_again dbr parts rest fit holds.elements ∙ sym (elements_kept dbr.form parts) in
    same_parts (parts_in dbr (length parts.elements) (layout dbr parts ++ rest)) (kept dbr.form parts) status severity stamp told elements

-- what is laid out under a served type is shown again
pub shown-layout : ReadsBack
shown-layout number dbr parts rest served holds =
    shown_ok number (length parts.elements) (layout dbr parts ++ rest) dbr served (value_end-le dbr parts rest (fit_form dbr.form dbr.base parts.properties holds.properties) holds.elements)
    ∙ ap (λ (parts : Parts). Ok (record { dbr = dbr; parts = parts })) (parts_in-layout dbr parts rest holds)
