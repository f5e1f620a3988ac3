-- How the pieces of a payload make its layout.
use Rattle.std.proofs.Common.{◌≡◌, ℕ, Option, Some, None, ◌+◌, ◌-◌, ◌*◌, ◌≤◌, min, List, ◌++◌, length, replicate, take, refl, sym, ap, ◌∙◌, arith}
use Rattle.std.proofs.lemmas.List.{append_assoc, length-append, length-replicate, length-take, replicate-append-replicate, take-replicate, take_min}
use Rattle.std.proofs.Math.Nat.{add-mul}
use Rattle.std.specs.Int.{next_multiple_of}
use Rattle.std.specs.List.{concat}
use Rattle.dbr_layout.specs.declared.dbr.TheConstants.{ALIGNMENT}
use Rattle.dbr_layout.specs.declared.dbr.Dbr.{Dbr}
use Rattle.dbr_layout.specs.declared.dbr.Form.{Form}
use Rattle.dbr_layout.specs.declared.dbr.Form.TheVariants.{Plain, Sts, Time, Gr, Ctrl}
use Rattle.dbr_layout.specs.declared.dbr.Base.{Base}
use Rattle.dbr_layout.specs.declared.dbr.Base.TheVariants as base
use Rattle.dbr_layout.specs.Conversion.{first_elements}
use Rattle.dbr_layout.specs.Dbr.{column, element_size, offsets, payload_size, value_offset}
use Rattle.dbr_layout.specs.Layout.{alarm_bytes, fields, filled_to, layout}
use Rattle.dbr_layout.specs.Elements.{AreSized}
use Rattle.dbr_layout.specs.Parts.{Parts}
use Rattle.dbr_layout.specs.Properties.{FitIfThere, Properties, limit_count, precision_size, property_bytes, property_bytes_in, states_size, units_size, zero_properties}
use Rattle.dbr_layout.proofs.Fitting.{length-property_bytes}
use Rattle.dbr_layout.proofs.Viewing.{fields_len_column}
use Rattle.dbr_layout.proofs.Elements.{concat-append, concat-replicate, length-concat}

-- how many bytes of properties are told with so many limits
abbrev size_told : ℕ → Base → ℕ
size_told limits b = states_size b + (2 * precision_size b + (units_size b + min limits (limit_count b) * element_size b))

told_gr : (b : Base) → 4 + size_told 6 b ≤ column (offsets Gr) b
told_gr base.String = omega arith
told_gr base.Short = omega arith
told_gr base.Float = omega arith
told_gr base.Enum = omega arith
told_gr base.Char = omega arith
told_gr base.Long = omega arith
told_gr base.Double = omega arith

told_ctrl : (b : Base) → 4 + size_told 8 b ≤ column (offsets Ctrl) b
told_ctrl base.String = omega arith
told_ctrl base.Short = omega arith
told_ctrl base.Float = omega arith
told_ctrl base.Enum = omega arith
told_ctrl base.Char = omega arith
told_ctrl base.Long = omega arith
told_ctrl base.Double = omega arith

length-told : (b : Base) (limits : ℕ) (given : Option Properties) → FitIfThere b given → length (property_bytes_in limits given) ≤ size_told limits b
length-told b limits None fit = omega arith
length-told b limits (Some p) fit = omega (arith, length-property_bytes b limits p fit)

length-alarm : (parts : Parts) (more : List ℕ) → length (alarm_bytes parts ++ more) ≡ 4 + length more
length-alarm parts more = length-append (alarm_bytes parts) more

-- the properties that a form tells are as large as those of the base
abbrev pub FitTold : Form → Base → Option Properties → Type 0
FitTold Gr b given = FitIfThere b given
FitTold Ctrl b given = FitIfThere b given
FitTold _ b given = Unit {0}

pub fit_told : (form : Form) (b : Base) (given : Option Properties) → FitIfThere b given → FitTold form b given
fit_told Plain b given fit = tt
fit_told Sts b given fit = tt
fit_told Time b given fit = tt
fit_told Gr b given fit = fit
fit_told Ctrl b given fit = fit

length-fields : (form : Form) (b : Base) (parts : Parts) → FitTold form b parts.properties → length (fields form parts) ≤ column (offsets form) b
length-fields Plain b parts fit = omega arith
length-fields Sts b parts fit = fields_len_column Sts b
length-fields Time b parts fit = fields_len_column Time b
length-fields Gr b parts fit =
    omega (arith, told_gr b, length-told b 6 parts.properties fit, length-alarm parts (property_bytes_in 6 parts.properties))
length-fields Ctrl b parts fit =
    omega (arith, told_ctrl b, length-told b 8 parts.properties fit, length-alarm parts (property_bytes_in 8 parts.properties))

-- the fields stand before the value
pub length-fields-le : (dbr : Dbr) (parts : Parts) → FitTold dbr.form dbr.base parts.properties → length (fields dbr.form parts) ≤ value_offset dbr
length-fields-le dbr parts fit = length-fields dbr.form dbr.base parts fit

pub length-filled_to : (len : ℕ) (bytes : List ℕ) → length bytes ≤ len → length (filled_to len bytes) ≡ len
length-filled_to len bytes h = omega (arith, h, length-append bytes (replicate (len - length bytes) 0), length-replicate {A = ℕ} (len - length bytes) 0)

-- zero bytes at the end may be some of those that fill up
pub filled_to-zeros : (len n : ℕ) (bytes : List ℕ) → length bytes + n ≤ len → filled_to len (bytes ++ replicate n 0) ≡ filled_to len bytes
filled_to-zeros len n bytes h =
    let count : length (bytes ++ replicate n 0) ≡ length bytes + n = omega (arith, length-append bytes (replicate n 0), length-replicate {A = ℕ} n 0) in
    let rest : n + (len - (length bytes + n)) ≡ len - length bytes = omega (arith, h) in
    rw (count, append_assoc bytes (replicate n 0) (replicate (len - (length bytes + n)) 0), replicate-append-replicate {A = ℕ} n (len - (length bytes + n)) 0, rest) refl

-- the bytes of the elements that are given, and of those that aren't there
pub concat-first_elements : (size given : ℕ) (elements : List (List ℕ)) → concat (first_elements size given elements) ≡ concat (take given elements) ++ replicate ((given - length elements) * size) 0
concat-first_elements size given elements =
    concat-append (take given elements) (replicate (given - length elements) (replicate size 0))
    ∙ ap (λ zeros. concat (take given elements) ++ zeros) (concat-replicate size (given - length elements))

-- they are as many as are asked for
pub length-first_elements : (size given : ℕ) (elements : List (List ℕ)) → length (first_elements size given elements) ≡ given
length-first_elements size given elements =
    let zeros : List ℕ = replicate size 0 in
    omega (arith, length-append (take given elements) (replicate (given - length elements) zeros), length-take given elements, length-replicate (given - length elements) zeros)

-- how many bytes the elements that are there have, and the others
length-given : (size given : ℕ) (elements : List (List ℕ)) → AreSized size (take given elements) → length (concat (take given elements)) + (given - length elements) * size ≡ given * size
length-given size given elements sized =
    let whole : min given (length elements) + (given - length elements) ≡ given = omega arith in
    rw (length-concat size (take given elements) sized, length-take given elements, ← add-mul (min given (length elements)) (given - length elements) size, whole) refl

pub le-next_multiple_of : (n : ℕ) → n ≤ next_multiple_of n ALIGNMENT
le-next_multiple_of n = omega arith

-- the fields, the bytes up to the value and the elements that are there, filled up at once, are the layout
laid_out : (start size given len : ℕ) (front : List ℕ) (elements : List (List ℕ)) → length front ≤ start → AreSized size (take given elements) → len ≡ next_multiple_of (start + given * size) ALIGNMENT
    → let value : List ℕ = filled_to start front ++ concat (first_elements size given elements) in
    filled_to len (filled_to start front ++ concat (take given elements)) ≡ filled_to (next_multiple_of (length value) ALIGNMENT) value
laid_out start size given len front elements short sized padded =
    let missing : ℕ = (given - length elements) * size in
    let there : List ℕ = filled_to start front ++ concat (take given elements) in
    let whole : filled_to start front ++ concat (first_elements size given elements) ≡ there ++ replicate missing 0 =
    ap (λ (bytes : List ℕ). filled_to start front ++ bytes) (concat-first_elements size given elements)
    ∙ sym (append_assoc (filled_to start front) (concat (take given elements)) (replicate missing 0)) in
    let count : length there + missing ≡ start + given * size =
    omega (arith, length-append (filled_to start front) (concat (take given elements)), length-filled_to start front short, length-given size given elements sized) in
    let end : length (there ++ replicate missing 0) ≡ start + given * size =
    omega (arith, count, length-append there (replicate missing 0), length-replicate {A = ℕ} missing 0) in
    let fits : length there + missing ≤ len = omega (arith, count, padded, le-next_multiple_of (start + given * size)) in
    sym (filled_to-zeros len missing there fits)
    ∙ ap (λ (n : ℕ). filled_to n (there ++ replicate missing 0)) (padded ∙ ap (λ (n : ℕ). next_multiple_of n ALIGNMENT) (sym end))
    ∙ ap (λ (bytes : List ℕ). filled_to (next_multiple_of (length bytes) ALIGNMENT) bytes) (sym whole)

-- the fields have nothing of the elements
pub fields-elements : (form : Form) (parts : Parts) (elements : List (List ℕ)) → fields form (record parts { elements = elements }) ≡ fields form parts
fields-elements Plain parts elements = refl
fields-elements Sts parts elements = refl
fields-elements Time parts elements = refl
fields-elements Gr parts elements = refl
fields-elements Ctrl parts elements = refl

-- the same of a type and the parts that are laid out under it
pub laid_out_as : (dbr : Dbr) (parts : Parts) (given len : ℕ) (elements : List (List ℕ)) → FitIfThere dbr.base parts.properties → AreSized (element_size dbr.base) (take given elements) → len ≡ payload_size dbr given
    → filled_to len (filled_to (value_offset dbr) (fields dbr.form parts) ++ concat (take given elements)) ≡ layout dbr (record parts { elements = first_elements (element_size dbr.base) given elements })
laid_out_as dbr parts given len elements fit sized padded =
    let front : List ℕ = fields dbr.form parts in
    let given_elements : List (List ℕ) = first_elements (element_size dbr.base) given elements in
    laid_out (value_offset dbr) (element_size dbr.base) given len front elements (length-fields-le dbr parts (fit_told dbr.form dbr.base parts.properties fit)) sized padded
    ∙ ap
    (λ (fields : List ℕ). let value : List ℕ = filled_to (value_offset dbr) fields ++ concat given_elements in filled_to (next_multiple_of (length value) ALIGNMENT) value)
    (sym (fields-elements dbr.form parts given_elements))

-- units and limits of zero bytes
pub zeros_told : (to : Base) (limits : ℕ) → property_bytes limits (zero_properties to) ≡ replicate (units_size to + min limits (limit_count to) * element_size to) 0
zeros_told to limits =
    let zeros : List ℕ = replicate (element_size to) 0 in
    let all : List (List ℕ) = replicate (limit_count to) zeros in
    let few : take limits all ≡ replicate (min limits (limit_count to)) zeros =
    sym (take_min limits all)
    ∙ ap (λ (n : ℕ). take (min limits n) all) (length-replicate (limit_count to) zeros)
    ∙ take-replicate (min limits (limit_count to)) (limit_count to) zeros (omega arith) in
    rw (few, concat-replicate (element_size to) (min limits (limit_count to)))
    (replicate-append-replicate {A = ℕ} (units_size to) (min limits (limit_count to) * element_size to) 0)
