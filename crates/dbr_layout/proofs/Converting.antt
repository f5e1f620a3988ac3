-- What conversions do to elements.
use Rattle.std.proofs.Common.{◌≡◌, ℕ, zero, suc, ◌+◌, ◌-◌, ◌<◌, ◌≤◌, min, List, [], ◌∷◌, ◌++◌, Some, length, map, take, drop, replicate, get_or, refl, sym, ap, ◌∙◌, arith}
use Rattle.std.specs.Prelude.{IfSome, OnOk, Option, None, Result, Ok, Err, true, false, if◌then◌else◌, is_ok, is_some, option_map}
use Rattle.std.proofs.lemmas.List.{append-nil, drop-replicate, length-map, length-replicate, map_more, take-map, take_all, take_min}
use Rattle.std.specs.List.{concat}
use Rattle.dbr_layout.specs.declared.conversion.Conversion.{Conversion}
use Rattle.dbr_layout.specs.declared.conversion.Conversion.TheVariants.{Unchanged, CharToShort, ToLong}
use Rattle.dbr_layout.specs.declared.conversion.Integer.TheVariants as integer
use Rattle.dbr_layout.specs.declared.dbr.Dbr.{Dbr}
use Rattle.dbr_layout.specs.declared.dbr.Form.{Form}
use Rattle.dbr_layout.specs.declared.dbr.Form.TheVariants as form
use Rattle.dbr_layout.specs.declared.fault.LayoutFault.{LayoutFault}
use Rattle.dbr_layout.specs.declared.dbr.Base.{Base}
use Rattle.dbr_layout.specs.declared.dbr.Base.TheVariants as base
use Rattle.dbr_layout.specs.Conversion.{ReadsFrom, conversion_between, converted_element, converted_properties, converted_size, read_size, states_read}
use Rattle.dbr_layout.specs.Converted.{found_in, states_in, used}
use Rattle.dbr_layout.specs.Dbr.{element_size}
use Rattle.dbr_layout.specs.Elements.{AreSized}
use Rattle.dbr_layout.specs.Needs.{needs}
use Rattle.dbr_layout.specs.Properties.{Fit, FitIfThere, Properties, of_base}
use Rattle.dbr_layout.proofs.Elements.{AreSized-append, concat-append}

-- elements that stay are the same elements
pub map-unchanged : (states : List ℕ) (elements : List (List ℕ)) → map (converted_element states Unchanged) elements ≡ elements
map-unchanged states [] = refl
map-unchanged states (element ∷ elements) = ap (λ (rest : List (List ℕ)). element ∷ rest) (map-unchanged states elements)

-- elements of a base stay as elements of that base
pub between_same : (b : Base) → conversion_between b b ≡ Some Unchanged
unfolding conversion_between
between_same base.String = refl
between_same base.Short = refl
between_same base.Float = refl
between_same base.Enum = refl
between_same base.Char = refl
between_same base.Long = refl
between_same base.Double = refl

-- a conversion that reads no more than an element of the first base has, and gives elements of the size of the second
pub record Leads (from to : Base) (how : Conversion) : Type 0 where
  pub there : read_size how ≤ element_size from
  pub sized : converted_size how (element_size from) ≡ element_size to

leads_if : (from to : Base) → IfSome (conversion_between from to) (Leads from to)
unfolding conversion_between
leads_if base.String base.String = record { there = omega arith; sized = refl }
leads_if base.Short base.Short = record { there = omega arith; sized = refl }
leads_if base.Short base.Long = record { there = omega arith; sized = refl }
leads_if base.Short base.String = record { there = omega arith; sized = refl }
leads_if base.Float base.Float = record { there = omega arith; sized = refl }
leads_if base.Enum base.Enum = record { there = omega arith; sized = refl }
leads_if base.Enum base.Long = record { there = omega arith; sized = refl }
leads_if base.Enum base.String = record { there = omega arith; sized = refl }
leads_if base.Char base.Char = record { there = omega arith; sized = refl }
leads_if base.Char base.Short = record { there = omega arith; sized = refl }
leads_if base.Char base.Long = record { there = omega arith; sized = refl }
leads_if base.Char base.String = record { there = omega arith; sized = refl }
leads_if base.Long base.Long = record { there = omega arith; sized = refl }
leads_if base.Long base.String = record { there = omega arith; sized = refl }
leads_if base.Double base.Double = record { there = omega arith; sized = refl }
leads_if _ _ = tt

-- that holds of each conversion that is served
pub leads : (from to : Base) (how : Conversion) → conversion_between from to ≡ Some how → Leads from to how
leads from to how known = rw known at (leads_if from to)

-- one more element is converted
pub concat-map_more : (states : List ℕ) (how : Conversion) (elements : List (List ℕ)) (i : ℕ) → i < length elements
    → concat (map (converted_element states how) (take (i + 1) elements)) ≡ concat (map (converted_element states how) (take i elements)) ++ converted_element states how (get_or elements i [])
concat-map_more states how elements i h =
    ap concat (map_more (converted_element states how) elements i [] h)
    ∙ concat-append (map (converted_element states how) (take i elements)) (converted_element states how (get_or elements i []) ∷ [])
    ∙ ap (λ (last : List ℕ). concat (map (converted_element states how) (take i elements)) ++ last) (append-nil (converted_element states how (get_or elements i [])))

pub AreSized-map_more : (size : ℕ) (states : List ℕ) (how : Conversion) (elements : List (List ℕ)) (i : ℕ) → i < length elements
    → AreSized size (map (converted_element states how) (take i elements)) → length (converted_element states how (get_or elements i [])) ≡ size
    → AreSized size (map (converted_element states how) (take (i + 1) elements))
AreSized-map_more size states how elements i h before sized =
    rw (map_more (converted_element states how) elements i [] h) (AreSized-append size _ _ before (sized, tt))

-- the first that are there are the first
pub map-take_min : (states : List ℕ) (how : Conversion) (elements : List (List ℕ)) (count : ℕ) → map (converted_element states how) (take (min count (length elements)) elements) ≡ take count (map (converted_element states how) elements)
map-take_min states how elements count =
    ap (map (converted_element states how)) (take_min count elements) ∙ sym (take-map (converted_element states how) count elements)

-- what holds of a call that succeeds
pub on_ok : {A E : Type 0} (r : Result A E) (P : Type 0) → P → OnOk r P
on_ok (Ok x) P h = h
on_ok (Err e) P h = tt

pub on_ok_items : {A E : Type 0} (r : Result A E) (xs ys zs : List ℕ) → xs ≡ (if is_ok r then ys else zs) → OnOk r (xs ≡ ys)
on_ok_items (Ok x) xs ys zs h = h
on_ok_items (Err e) xs ys zs h = tt

-- behind so many of them, the rest of the zero bytes
pub zeros_behind : (size n : ℕ) → take {A = ℕ} (size - n) (drop n (replicate size 0)) ≡ replicate (size - n) 0
zeros_behind size n =
    let zeros : List ℕ = replicate (size - n) 0 in
    ap (take {A = ℕ} (size - n)) (drop-replicate {X = ℕ} n size 0) ∙ take_all (size - n) zeros (omega (arith, length-replicate {A = ℕ} (size - n) 0))

ok_same : (x y : Option Properties) → ◌≡◌ {A = Result (Option Properties) LayoutFault} (Ok x) (Ok y) → x ≡ y
ok_same x y h = cc

AreSized-replicate : (size n : ℕ) → AreSized size (replicate n (replicate size 0))
AreSized-replicate size zero = tt
AreSized-replicate size (suc n) = (length-replicate {A = ℕ} size 0, AreSized-replicate size n)

-- elements that become some of one size
AreSized-map : (how : Conversion) (size : ℕ) (elements : List (List ℕ)) → ((element : List ℕ) → length (converted_element [] how element) ≡ size) → AreSized size (map (converted_element [] how) elements)
AreSized-map how size [] each = tt
AreSized-map how size (element ∷ elements) each = (each element, AreSized-map how size elements each)

-- properties stay as large as those of their base
same_size : (b : Base) (p : Properties) → Fit b p → Fit b (record p { base = b })
same_size b p fit = record { same = refl; states = fit.states; precision = fit.precision; units = fit.units; count = fit.count; limits = fit.limits }

-- and become as large as those of the base that they are told in
fit_if : (from to : Base) (p : Properties) → Fit from p → IfSome (conversion_between from to) (λ how. Fit to (converted_properties to how p))
unfolding conversion_between
fit_if base.String base.String p fit = same_size base.String p fit
fit_if base.Short base.Short p fit = same_size base.Short p fit
fit_if base.Short base.Long p fit = record { same = refl; states = fit.states; precision = fit.precision; units = fit.units; count = length-map p.limits _ ∙ fit.count; limits = AreSized-map (ToLong integer.Short) 4 p.limits (λ e. refl) }
fit_if base.Short base.String p fit = record { same = refl; states = refl; precision = refl; units = refl; count = refl; limits = tt }
fit_if base.Float base.Float p fit = same_size base.Float p fit
fit_if base.Enum base.Enum p fit = same_size base.Enum p fit
fit_if base.Enum base.Long p fit = record { same = refl; states = refl; precision = refl; units = refl; count = refl; limits = AreSized-replicate 4 8 }
fit_if base.Enum base.String p fit = record { same = refl; states = refl; precision = refl; units = refl; count = refl; limits = tt }
fit_if base.Char base.Char p fit = same_size base.Char p fit
fit_if base.Char base.Short p fit = record { same = refl; states = fit.states; precision = fit.precision; units = fit.units; count = length-map p.limits _ ∙ fit.count; limits = AreSized-map CharToShort 2 p.limits (λ e. refl) }
fit_if base.Char base.Long p fit = record { same = refl; states = fit.states; precision = fit.precision; units = fit.units; count = length-map p.limits _ ∙ fit.count; limits = AreSized-map (ToLong integer.Char) 4 p.limits (λ e. refl) }
fit_if base.Char base.String p fit = record { same = refl; states = refl; precision = refl; units = refl; count = refl; limits = tt }
fit_if base.Long base.Long p fit = same_size base.Long p fit
fit_if base.Long base.String p fit = record { same = refl; states = refl; precision = refl; units = refl; count = refl; limits = tt }
fit_if base.Double base.Double p fit = same_size base.Double p fit
fit_if _ _ p fit = tt

pub fit_converted : (from to : Base) (how : Conversion) (given : Option Properties) → conversion_between from to ≡ Some how → FitIfThere from given → FitIfThere to (option_map (converted_properties to how) given)
fit_converted from to how None known fit = tt
fit_converted from to how (Some p) known fit = rw known at (fit_if from to p fit)

-- their limits are read as the elements are
pub reads_from : (from to : Base) (how : Conversion) (given : Option Properties) → conversion_between from to ≡ Some how → FitIfThere from given → ReadsFrom how given
reads_from from to how None known fit = tt
reads_from from to how (Some p) known fit = rw fit.same (leads from to how known).there

-- texts of states are there, where elements become them
found_some : (own given : Option Properties) → found_in own ≡ Ok given → is_some given ≡ true
found_some None given h = absurd cc
found_some (Some p) given h = ap is_some (sym (ok_same (Some p) given h))

none_there : false ≡ true → ⊥
none_there h = cc

texts_needed : (form : Form) → needs base.Enum (record { base = base.String; form = form }) ≡ true
texts_needed form.Gr = refl
texts_needed form.Ctrl = refl
texts_needed _ = refl

found_needed : (native : Base) (asked : Dbr) (own given : Option Properties) → needs native asked ≡ true → used native asked own ≡ Ok given → is_some given ≡ true
found_needed native asked own given needed h = found_some (of_base native own) given (rw needed at h)

states_if : (native to : Base) (form : Form) (given : Option Properties) → FitIfThere native given
    → (needs native (record { base = to; form = form }) ≡ true → is_some given ≡ true)
    → IfSome (conversion_between native to) (λ how. states_read how ≤ length (states_in given))
unfolding conversion_between
states_if base.Enum base.String form None fit there = absurd (none_there (there (texts_needed form)))
states_if base.Enum base.String form (Some p) fit there = omega (arith, fit.states)
states_if base.String base.String form given fit there = omega arith
states_if base.Short base.Short form given fit there = omega arith
states_if base.Short base.Long form given fit there = omega arith
states_if base.Short base.String form given fit there = omega arith
states_if base.Float base.Float form given fit there = omega arith
states_if base.Enum base.Enum form given fit there = omega arith
states_if base.Enum base.Long form given fit there = omega arith
states_if base.Char base.Char form given fit there = omega arith
states_if base.Char base.Short form given fit there = omega arith
states_if base.Char base.Long form given fit there = omega arith
states_if base.Char base.String form given fit there = omega arith
states_if base.Long base.Long form given fit there = omega arith
states_if base.Long base.String form given fit there = omega arith
states_if base.Double base.Double form given fit there = omega arith
states_if _ _ form given fit there = tt

pub states_there : (native : Base) (asked : Dbr) (how : Conversion) (own given : Option Properties) → conversion_between native asked.base ≡ Some how
    → FitIfThere native given → used native asked own ≡ Ok given → states_read how ≤ length (states_in given)
states_there native asked how own given known fit h =
    rw known at (states_if native asked.base asked.form given fit (λ needed. found_needed native asked own given needed h))
