-- What a variable tells of itself beside its value: units, limits, the precision of its numbers, the texts of its states.
use Rattle.std.specs.Prelude.{◌≡◌, ℕ, ◌+◌, ◌*◌, ◌==◌, List, [], ◌∷◌, ◌++◌, length, take, drop, replicate, if◌then◌else◌, Option, Some, None}
use Rattle.std.specs.List.{concat}
use Rattle.dbr_layout.specs.declared.dbr.Base.{Base}
use Rattle.dbr_layout.specs.declared.dbr.Form.{Form}
use Rattle.dbr_layout.specs.declared.dbr.Form.TheVariants as form
use Rattle.dbr_layout.specs.Dbr.{base_number, column, element_size}
use Rattle.dbr_layout.specs.Elements.{AreSized, elements_in}

-- The properties of a variable of a base, each as its bytes came. A base has none of what it has no room for.
pub record Properties : Type 0 where
  pub base : Base
  -- how many states there are, and sixteen texts
  pub states : List ℕ
  pub precision : List ℕ
  pub units : List ℕ
  -- eight, of an element's size each: two for display, four for alarms and warnings, two for control
  pub limits : List (List ℕ)

-- the bytes of each                     STRING SHORT  FLOAT  ENUM   CHAR   LONG   DOUBLE
abbrev pub states_size : Base → ℕ
states_size = column (0 ∷ 0 ∷ 0 ∷ 418 ∷ 0 ∷ 0 ∷ 0 ∷ [])

abbrev pub precision_size : Base → ℕ
precision_size = column (0 ∷ 0 ∷ 2 ∷ 0 ∷ 0 ∷ 0 ∷ 2 ∷ [])

abbrev pub units_size : Base → ℕ
units_size = column (0 ∷ 8 ∷ 8 ∷ 0 ∷ 8 ∷ 8 ∷ 8 ∷ [])

-- how many limits there are             STRING SHORT  FLOAT  ENUM   CHAR   LONG   DOUBLE
abbrev pub limit_count : Base → ℕ
limit_count = column (0 ∷ 8 ∷ 8 ∷ 0 ∷ 8 ∷ 8 ∷ 8 ∷ [])

-- how many of them a form tells: GR those for display and alarms, CTRL those for control too
abbrev pub limits_told : Form → ℕ
limits_told form.Gr = 6
limits_told form.Ctrl = 8
limits_told _ = 0

-- where the units begin, behind a precision and as many bytes that hold nothing
abbrev pub units_offset : Base → ℕ
units_offset base = 2 * precision_size base

-- how many bytes stand between the alarm of a CTRL form and its value, what holds nothing left out
abbrev pub properties_size : Base → ℕ
properties_size base = states_size base + units_offset base + units_size base + limit_count base * element_size base

-- the properties in the bytes behind the alarm of a CTRL form
abbrev pub properties_of : Base → List ℕ → Properties
properties_of base bytes = record {
  base = base;
  states = take (states_size base) bytes;
  precision = take (precision_size base) bytes;
  units = take (units_size base) (drop (units_offset base) bytes);
  limits = elements_in (element_size base) (limit_count base) (drop (units_offset base + units_size base) bytes);
}

-- properties as large as those of a base are
pub record Fit (base : Base) (p : Properties) : Type 0 where
  pub same : p.base ≡ base
  pub states : length p.states ≡ states_size base
  pub precision : length p.precision ≡ precision_size base
  pub units : length p.units ≡ units_size base
  pub count : length p.limits ≡ limit_count base
  pub limits : AreSized (element_size base) p.limits

-- the same of those that may be there
abbrev pub FitIfThere : Base → Option Properties → Type 0
FitIfThere base None = Unit {0}
FitIfThere base (Some p) = Fit base p

-- the properties as they are laid out, with the first limits
abbrev pub property_bytes : ℕ → Properties → List ℕ
property_bytes limits p =
    p.states ++ ((p.precision ++ replicate (length p.precision) 0) ++ (p.units ++ concat (take limits p.limits)))

abbrev pub property_bytes_in : ℕ → Option Properties → List ℕ
property_bytes_in limits None = []
property_bytes_in limits (Some p) = property_bytes limits p

-- the properties, where they are of this base
abbrev pub of_base : Base → Option Properties → Option Properties
of_base base None = None
of_base base (Some p) = if base_number p.base == base_number base then Some p else None

-- a base has no properties beside itself
abbrev pub no_properties : Base → Properties
no_properties base = record { base = base; states = []; precision = []; units = []; limits = [] }

-- units and limits of zero bytes, as many as the base has room for
abbrev pub zero_properties : Base → Properties
zero_properties base = record {
  base = base;
  states = [];
  precision = [];
  units = replicate (units_size base) 0;
  limits = replicate (limit_count base) (replicate (element_size base) 0);
}
