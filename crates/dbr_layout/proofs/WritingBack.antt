-- What is shown and written again is shown again.
use Rattle.std.proofs.Common.{◌≡◌, ℕ, ◌+◌, ◌-◌, ◌==◌, ◌^◌, ◌<◌, ◌≤◌, Bool, true, false, List, ◌++◌, Option, Some, None, Ok, Err, FitsSigned, length, take, drop, slice_index, refl, sym, ap, subst, ◌∙◌, arith}
use Rattle.std.proofs.lemmas.Bool.{leb-true}
use Rattle.std.proofs.lemmas.List.{append-nil, get_or-drop, length-drop, length-take}
use Rattle.std.proofs.Math.Facts.{sfits_to_z}
use Rattle.std.specs.Int.{w16, cast_signed}
use Rattle.std.specs.Prelude.{Result, if◌then◌else◌, nat_le, ok_or, option_map}
use Rattle.byteorder.specs.Endian.{big_number}
use Rattle.byteorder.specs.Numbers.{big_from-lt}
use Rattle.dbr_layout.specs.declared.conversion.Conversion.{Conversion}
use Rattle.dbr_layout.specs.declared.conversion.Conversion.TheVariants.{Unchanged}
use Rattle.dbr_layout.specs.declared.dbr.Form.{Form}
use Rattle.dbr_layout.specs.declared.dbr.Base.{Base}
use Rattle.dbr_layout.specs.declared.dbr.Base.TheVariants as base
use Rattle.dbr_layout.specs.declared.dbr.Form.TheVariants.{Plain, Sts, Time, Gr, Ctrl}
use Rattle.dbr_layout.specs.declared.dbr.Dbr.{Dbr}
use Rattle.dbr_layout.specs.declared.dbr.TheConstants.{MAX_PAYLOAD}
use Rattle.dbr_layout.specs.declared.fault.LayoutFault.{LayoutFault}
use Rattle.dbr_layout.specs.declared.fault.LayoutFault.TheVariants.{BadType, NoProperties, Short, TooLarge}
use Rattle.dbr_layout.specs.Conversion.{conversion_between, converted_properties, given_count, given_elements}
use Rattle.dbr_layout.specs.Converted.{converted_parts, states_in, used, written}
use Rattle.dbr_layout.specs.Dbr.{column, dbr_of, element_size, offsets, payload_size, value_end, value_offset}
use Rattle.dbr_layout.specs.Fault.{◌>>=◌}
use Rattle.dbr_layout.specs.Laws.{CanHold, FitForm, WritesBack, kept}
use Rattle.dbr_layout.specs.Layout.{fields, layout}
use Rattle.dbr_layout.specs.Parts.{Parts, fields_len, parts_in, properties_under, severity_in, stamp_in, status_in}
use Rattle.dbr_layout.specs.Properties.{Properties, properties_of, properties_size}
use Rattle.dbr_layout.specs.View.{Shown, shown}
use Rattle.dbr_layout.proofs.Converting.{between_same, map-unchanged}
use Rattle.dbr_layout.proofs.Elements.{AreSized-from, AreSized-take, length-elements_in}
use Rattle.dbr_layout.proofs.Fitting.{Fit-properties_of}
use Rattle.dbr_layout.proofs.Laying.{fields-elements}
use Rattle.dbr_layout.proofs.ReadingBack.{shown-layout}

-- a good answer that hangs on a test
chosen : {A : Type 0} (b : Bool) (x y : A) (fault : LayoutFault) → (if b then Ok x else Err fault) ≡ Ok y → (b ≡ true) × (x ≡ y)
chosen true x y fault h = (refl, cc)
chosen false x y fault h = absurd cc

-- what is known of a view
pub record Views (found : Option Dbr) (there : ℕ) (bytes : List ℕ) (old : Shown) : Type 0 where
  pub served : found ≡ Some old.dbr
  pub fits : value_end old.dbr there ≤ length bytes
  pub parts : parts_in old.dbr there bytes ≡ old.parts

pub views_from : (found : Option Dbr) (there : ℕ) (bytes : List ℕ) (old : Shown)
    → (ok_or found BadType >>= λ dbr. if nat_le (value_end dbr there) (length bytes) then Ok (let s : Shown = record { dbr = dbr; parts = parts_in dbr there bytes } in s) else Err Short) ≡ Ok old
    → Views found there bytes old
views_from None there bytes old h = absurd cc
views_from (Some dbr) there bytes old h =
    let new : Shown = record { dbr = dbr; parts = parts_in dbr there bytes } in
    let known = chosen (nat_le (value_end dbr there) (length bytes)) new old Short h in
    let same : dbr ≡ old.dbr = ap (λ (s : Shown). s.dbr) known.1 in
    let fits : value_end dbr there ≤ length bytes = leb-true (value_end dbr there) (length bytes) known.0 in
    let parts : parts_in dbr there bytes ≡ old.parts = ap (λ (s : Shown). s.parts) known.1 in
    record {
      served = ap (λ (d : Dbr). Some d) same;
      fits = subst (λ (d : Dbr). value_end d there ≤ length bytes) same fits;
      parts = subst (λ (d : Dbr). parts_in d there bytes ≡ old.parts) same parts;
    }

pub no_answer : (fault : LayoutFault) (payload : List ℕ) → ◌≡◌ {A = Result (List ℕ) LayoutFault} (Err fault) (Ok payload) → ⊥
no_answer fault payload h = cc

-- the payload that was written under the type of the view, with the properties that were used
written_from : (seen : Shown) (own : Option Properties) (count : ℕ) (payload : List ℕ) (found : Option Conversion) (answer : Result (Option Properties) LayoutFault)
    → let given : ℕ = given_count count (length seen.parts.elements) in
    (ok_or found BadType >>= λ how. answer >>= λ properties.
    let parts : Parts = converted_parts seen seen.dbr how properties given in
    if nat_le (payload_size seen.dbr (length parts.elements)) MAX_PAYLOAD then Ok (layout seen.dbr parts) else Err TooLarge) ≡ Ok payload
    → found ≡ Some Unchanged
    → (properties : Option Properties) × ((answer ≡ Ok properties) × (layout seen.dbr (converted_parts seen seen.dbr Unchanged properties given) ≡ payload))
written_from seen own count payload found (Err fault) h same = absurd (no_answer fault payload (rw same at h))
written_from seen own count payload found (Ok properties) h same =
    let given : ℕ = given_count count (length seen.parts.elements) in
    let parts : Parts = converted_parts seen seen.dbr Unchanged properties given in
    (properties, (refl, (chosen (nat_le (payload_size seen.dbr (length parts.elements)) MAX_PAYLOAD) (layout seen.dbr parts) payload TooLarge (rw same at h)).1))

-- a form is laid out with what was used as with what is there: where nothing was used, it tells none
abbrev told_with : Form → Base → Parts → Option Properties → Option Properties → Type 0
told_with form b parts own properties =
    used b (record { base = b; form = form }) own ≡ Ok properties
    → fields form (record parts { properties = option_map (converted_properties b Unchanged) properties }) ≡ fields form (record parts { properties = own })

no_fault : (fault : LayoutFault) (properties : Option Properties) → ◌≡◌ {A = Result (Option Properties) LayoutFault} (Err fault) (Ok properties) → ⊥
no_fault fault properties h = cc

ok_props : (x y : Option Properties) → ◌≡◌ {A = Result (Option Properties) LayoutFault} (Ok x) (Ok y) → x ≡ y
ok_props x y h = cc

same_fields : (form : Form) (b : Base) (parts : Parts) (own properties : Option Properties) → option_map (converted_properties b Unchanged) properties ≡ own
    → fields form (record parts { properties = option_map (converted_properties b Unchanged) properties }) ≡ fields form (record parts { properties = own })
same_fields form b parts own properties h = ap (λ (x : Option Properties). fields form (record parts { properties = x })) h

fields-used : (form : Form) (b : Base) (parts : Parts) (bytes : List ℕ) (properties : Option Properties) → told_with form b parts (properties_under form b bytes) properties
fields-used Plain b parts bytes properties h = refl
fields-used Sts b parts bytes properties h = refl
fields-used Time b parts bytes properties h = refl
fields-used Gr base.String parts bytes properties h = same_fields Gr base.String parts None properties (ap (option_map (converted_properties base.String Unchanged)) (sym (ok_props None properties h)))
fields-used Gr base.Short parts bytes properties h = absurd (no_fault NoProperties properties h)
fields-used Gr base.Float parts bytes properties h = absurd (no_fault NoProperties properties h)
fields-used Gr base.Enum parts bytes properties h = absurd (no_fault NoProperties properties h)
fields-used Gr base.Char parts bytes properties h = absurd (no_fault NoProperties properties h)
fields-used Gr base.Long parts bytes properties h = absurd (no_fault NoProperties properties h)
fields-used Gr base.Double parts bytes properties h = absurd (no_fault NoProperties properties h)
fields-used Ctrl base.String parts bytes properties h =
    ap (λ (x : Option Properties). fields Ctrl (record parts { properties = option_map (converted_properties base.String Unchanged) x })) (sym (ok_props None properties h))
fields-used Ctrl base.Short parts bytes properties h =
    let own : Properties = properties_of base.Short bytes in
    same_fields Ctrl base.Short parts (Some own) properties (ap (option_map (converted_properties base.Short Unchanged)) (sym (ok_props (Some own) properties h)))
fields-used Ctrl base.Float parts bytes properties h =
    let own : Properties = properties_of base.Float bytes in
    same_fields Ctrl base.Float parts (Some own) properties (ap (option_map (converted_properties base.Float Unchanged)) (sym (ok_props (Some own) properties h)))
fields-used Ctrl base.Enum parts bytes properties h =
    let own : Properties = properties_of base.Enum bytes in
    same_fields Ctrl base.Enum parts (Some own) properties (ap (option_map (converted_properties base.Enum Unchanged)) (sym (ok_props (Some own) properties h)))
fields-used Ctrl base.Char parts bytes properties h =
    let own : Properties = properties_of base.Char bytes in
    same_fields Ctrl base.Char parts (Some own) properties (ap (option_map (converted_properties base.Char Unchanged)) (sym (ok_props (Some own) properties h)))
fields-used Ctrl base.Long parts bytes properties h =
    let own : Properties = properties_of base.Long bytes in
    same_fields Ctrl base.Long parts (Some own) properties (ap (option_map (converted_properties base.Long Unchanged)) (sym (ok_props (Some own) properties h)))
fields-used Ctrl base.Double parts bytes properties h =
    let own : Properties = properties_of base.Double bytes in
    same_fields Ctrl base.Double parts (Some own) properties (ap (option_map (converted_properties base.Double Unchanged)) (sym (ok_props (Some own) properties h)))

-- where they are there, the elements that are given are the first
pub given_elements-there : (states : List ℕ) (dbr : Dbr) (given : ℕ) (elements : List (List ℕ)) → given ≤ length elements → given_elements states dbr.base Unchanged given elements ≡ take given elements
given_elements-there states dbr given elements h =
    let none : given - length elements ≡ 0 = omega (arith, h) in
    rw (map-unchanged states elements, none) (append-nil (take given elements))

one_of-le : (b : Bool) (count there : ℕ) → count ≤ there → (if b then there else count) ≤ there
one_of-le true count there h = omega arith
one_of-le false count there h = h

given_count-le : (count there : ℕ) → count ≤ there → given_count count there ≤ there
given_count-le count there h = one_of-le (count == 0) count there h

-- a signed number that was read
signed_fits : (bytes : List ℕ) → ((i : ℕ) → slice_index bytes i < 256) → FitsSigned w16 (cast_signed w16 (big_number 2 bytes))
signed_fits bytes small = sfits_to_z (record { fits = big_from-lt 0 2 bytes small })

status_fits : (form : Form) (bytes : List ℕ) → ((i : ℕ) → slice_index bytes i < 256) → FitsSigned w16 (status_in form bytes)
status_fits Plain bytes small = record { sfits = omega arith }
status_fits Sts bytes small = signed_fits bytes small
status_fits Time bytes small = signed_fits bytes small
status_fits Gr bytes small = signed_fits bytes small
status_fits Ctrl bytes small = signed_fits bytes small

pub drop_small : (n : ℕ) (bytes : List ℕ) → ((i : ℕ) → slice_index bytes i < 256) → (i : ℕ) → slice_index (drop n bytes) i < 256
drop_small n bytes small i = rw (get_or-drop n bytes i 0) (small (n + i))

severity_fits : (form : Form) (bytes : List ℕ) → ((i : ℕ) → slice_index bytes i < 256) → FitsSigned w16 (severity_in form bytes)
severity_fits Plain bytes small = record { sfits = omega arith }
severity_fits Sts bytes small = signed_fits (drop 2 bytes) (drop_small 2 bytes small)
severity_fits Time bytes small = signed_fits (drop 2 bytes) (drop_small 2 bytes small)
severity_fits Gr bytes small = signed_fits (drop 2 bytes) (drop_small 2 bytes small)
severity_fits Ctrl bytes small = signed_fits (drop 2 bytes) (drop_small 2 bytes small)

seconds_fit : (form : Form) (bytes : List ℕ) → ((i : ℕ) → slice_index bytes i < 256) → (stamp_in form bytes).seconds < 2 ^ 32
seconds_fit Time bytes small = big_from-lt 0 4 (drop 4 bytes) (drop_small 4 bytes small)
seconds_fit _ bytes small = omega arith

nanoseconds_fit : (form : Form) (bytes : List ℕ) → ((i : ℕ) → slice_index bytes i < 256) → (stamp_in form bytes).nanoseconds < 2 ^ 32
nanoseconds_fit Time bytes small = big_from-lt 0 4 (drop 8 bytes) (drop_small 8 bytes small)
nanoseconds_fit _ bytes small = omega arith

-- they stand before the value
pub told_end : (b : Base) → 4 + properties_size b ≤ column (offsets Ctrl) b
told_end base.String = omega arith
told_end base.Short = omega arith
told_end base.Float = omega arith
told_end base.Enum = omega arith
told_end base.Char = omega arith
told_end base.Long = omega arith
told_end base.Double = omega arith

-- the properties of a view fit its form
told_fits : (form : Form) (b : Base) (count : ℕ) (bytes : List ℕ) → column (offsets form) b ≤ length bytes → FitForm form b (properties_under form b (drop (fields_len form) bytes))
told_fits Plain b count bytes there = tt
told_fits Sts b count bytes there = tt
told_fits Time b count bytes there = tt
told_fits Gr b count bytes there = tt
told_fits Ctrl b count bytes there = Fit-properties_of b (drop 4 bytes) (omega (arith, there, length-drop 4 bytes, told_end b))

-- what is shown is kept
kept-shown : (form : Form) (b : Base) (bytes behind : List ℕ) (elements : List (List ℕ))
    → let parts : Parts = record { status = status_in form bytes; severity = severity_in form bytes; stamp = stamp_in form bytes; properties = properties_under form b behind; elements = elements } in kept form parts ≡ parts
kept-shown Plain b bytes behind elements = refl
kept-shown Sts b bytes behind elements = refl
kept-shown Time b bytes behind elements = refl
kept-shown Gr b bytes behind elements = refl
kept-shown Ctrl b bytes behind elements = refl

-- the law, for the first elements of the parts that the bytes hold
shown_again : (number there count : ℕ) (bytes rest : List ℕ) (dbr : Dbr) → ((i : ℕ) → slice_index bytes i < 256) → dbr_of number ≡ Some dbr → value_end dbr there ≤ length bytes → count ≤ there
    → let parts : Parts = record (parts_in dbr there bytes) { elements = take (given_count count there) (parts_in dbr there bytes).elements } in
    shown number (given_count count there) (layout dbr parts ++ rest) ≡ Ok (record { dbr = dbr; parts = parts })
shown_again number there count bytes rest dbr small served fits within =
    let elements : List (List ℕ) = (parts_in dbr there bytes).elements in
    let given : ℕ = given_count count there in
    let parts : Parts = record (parts_in dbr there bytes) { elements = take given elements } in
    let counted : length (take given elements) ≡ given =
    omega (arith, length-take given elements, length-elements_in (element_size dbr.base) there (drop (value_offset dbr) bytes), given_count-le count there within) in
    let holds : CanHold dbr parts = record {
      status = status_fits dbr.form bytes small;
      severity = severity_fits dbr.form bytes small;
      seconds = seconds_fit dbr.form bytes small;
      nanoseconds = nanoseconds_fit dbr.form bytes small;
      properties = told_fits dbr.form dbr.base there bytes (omega (arith, fits));
      elements = AreSized-take (element_size dbr.base) given elements (AreSized-from (value_offset dbr) (element_size dbr.base) there bytes fits);
    } in
    subst
    (λ (n : ℕ). shown number n (layout dbr parts ++ rest) ≡ Ok (record { dbr = dbr; parts = kept dbr.form parts }))
    counted
    (shown-layout number dbr parts rest served holds)
    ∙ ap (λ (p : Parts). Ok (let s : Shown = record { dbr = dbr; parts = p } in s)) (kept-shown dbr.form dbr.base bytes (drop (fields_len dbr.form) bytes) (take given elements))

-- a layout hangs on the fields and on the elements
pub layout-same : (dbr : Dbr) (p q : Parts) → fields dbr.form p ≡ fields dbr.form q → p.elements ≡ q.elements → layout dbr p ≡ layout dbr q
layout-same dbr p q front elements = rw (front, elements) refl

-- what a view shows of bytes, written under its own type
written_again : (number there count : ℕ) (bytes payload rest : List ℕ) (dbr : Dbr) → ((i : ℕ) → slice_index bytes i < 256) → dbr_of number ≡ Some dbr → value_end dbr there ≤ length bytes → count ≤ there
    → let parts : Parts = parts_in dbr there bytes in
    written (record { dbr = dbr; parts = parts }) parts.properties number count ≡ Ok payload
    → shown number (given_count count there) (payload ++ rest) ≡ Ok (record { dbr = dbr; parts = record parts { elements = take (given_count count there) parts.elements } })
written_again number there count bytes payload rest dbr small served fits within h =
    let parts : Parts = parts_in dbr there bytes in
    let seen : Shown = record { dbr = dbr; parts = parts } in
    let elements : List (List ℕ) = parts.elements in
    let counted : length elements ≡ there = length-elements_in (element_size dbr.base) there (drop (value_offset dbr) bytes) in
    let laid = written_from seen parts.properties count payload (conversion_between dbr.base dbr.base) (used dbr.base dbr parts.properties) (rw served at h) (between_same dbr.base) in
    let there_too : given_count count (length elements) ≤ length elements = rw counted (given_count-le count there within) in
    let states : List ℕ = states_in laid.0 in
    let first : given_elements states dbr.base Unchanged (given_count count (length elements)) elements ≡ take (given_count count there) elements =
    given_elements-there states dbr (given_count count (length elements)) elements there_too
    ∙ ap (λ (n : ℕ). take (given_count count n) elements) counted in
    let final : Parts = record parts { elements = take (given_count count there) elements } in
    let made : Parts = converted_parts seen dbr Unchanged laid.0 (given_count count (length elements)) in
    let front : fields dbr.form made ≡ fields dbr.form final =
    fields-elements dbr.form (record parts { properties = option_map (converted_properties dbr.base Unchanged) laid.0 }) made.elements
    ∙ fields-used dbr.form dbr.base parts (drop (fields_len dbr.form) bytes) laid.0 laid.1.0
    ∙ sym (fields-elements dbr.form parts final.elements) in
    let whole : layout dbr final ≡ payload = sym (layout-same dbr made final front first) ∙ laid.1.1 in
    subst
    (λ (p : List ℕ). shown number (given_count count there) (p ++ rest) ≡ Ok (record { dbr = dbr; parts = final }))
    whole
    (shown_again number there count bytes rest dbr small served fits within)

pub shown-written : WritesBack
shown-written number there count bytes payload rest old small viewed within h =
    let view = views_from (dbr_of number) there bytes old viewed in
    let given : ℕ = given_count count there in
    subst
    (λ (p : Parts). written (record { dbr = old.dbr; parts = p }) p.properties number count ≡ Ok payload → shown number given (payload ++ rest) ≡ Ok (record { dbr = old.dbr; parts = record p { elements = take given p.elements } }))
    view.parts
    (written_again number there count bytes payload rest old.dbr small view.served view.fits within)
    h
