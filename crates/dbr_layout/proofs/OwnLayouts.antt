-- Bytes whose padding is zero are what the parts that they hold are laid out as, and are written as they stand.
use Rattle.std.proofs.Common.{◌≡◌, ℕ, zero, suc, ◌+◌, ◌-◌, ◌*◌, ◌<◌, ◌≤◌, false, ◌&&◌, List, [], ◌∷◌, ◌++◌, Option, Some, None, Ok, length, take, drop, replicate, slice_index, slice_range, refl, sym, ap, ap₂, ◌∙◌, subst, arith}
use Rattle.std.proofs.Math.Seq.{take-add}
use Rattle.std.proofs.lemmas.Int.{of_z-to_z}
use Rattle.std.proofs.lemmas.List.{append_assoc, drop-drop, drop_at, length-append, length-drop, length-replicate, length-take-le, take-append-drop, take_all, take_at}
use Rattle.std.proofs.lemmas.Nat.{be_bytes_2, be_bytes_4}
use Rattle.std.specs.Int.{w16, w32, cast_signed, cast_unsigned, next_multiple_of, to_be_bytes}
use Rattle.std.specs.List.{concat}
use Rattle.std.specs.Prelude.{IfSome}
use Rattle.std.specs.declared.ops.Range.{Range}
use Rattle.byteorder.specs.Endian.{big_number}
use Rattle.byteorder.specs.Numbers.{big_from-lt, big_from-take}
use Rattle.dbr_layout.specs.declared.conversion.Conversion.TheVariants.{Unchanged}
use Rattle.dbr_layout.specs.declared.dbr.Base.{Base}
use Rattle.dbr_layout.specs.declared.dbr.Base.TheVariants as base
use Rattle.dbr_layout.specs.declared.dbr.Dbr.{Dbr}
use Rattle.dbr_layout.specs.declared.dbr.Form.{Form}
use Rattle.dbr_layout.specs.declared.dbr.Form.TheVariants.{Plain, Sts, Time, Gr, Ctrl}
use Rattle.dbr_layout.specs.declared.dbr.TheConstants.{ALIGNMENT}
use Rattle.dbr_layout.specs.Conversion.{conversion_between, given_count}
use Rattle.dbr_layout.specs.Converted.{converted_parts, used}
use Rattle.dbr_layout.specs.Dbr.{base_number, dbr_of, element_size, payload_size, value_end, value_offset}
use Rattle.dbr_layout.specs.Elements.{elements_in}
use Rattle.dbr_layout.specs.Layout.{fields, filled_to, layout, value_bytes}
use Rattle.dbr_layout.specs.Needs.{is_described, is_state, is_text}
use Rattle.dbr_layout.specs.OwnLayout.{IsLaidOut, IsOwnPart, IsPlainThere, plain}
use Rattle.dbr_layout.specs.Parts.{Parts, fields_len, parts_in}
use Rattle.dbr_layout.specs.Properties.{Properties}
use Rattle.dbr_layout.specs.View.{Shown}
use Rattle.dbr_layout.proofs.Converting.{between_same}
use Rattle.dbr_layout.proofs.Elements.{length-concat-elements_in, length-elements_in, take_elements}
use Rattle.dbr_layout.proofs.Laying.{fields-elements, length-filled_to, le-next_multiple_of}
use Rattle.dbr_layout.proofs.Viewing.{fields_len-le, shown_ok}
use Rattle.dbr_layout.proofs.Written.{written_of}
use Rattle.dbr_layout.proofs.WritingBack.{drop_small, given_elements-there, layout-same}

-- a payload with its size, whose padding before the value and behind it is zero
pub record IsPadded (dbr : Dbr) (count : ℕ) (bytes : List ℕ) : Type 0 where
  pub there : payload_size dbr count ≤ length bytes
  pub before : let gap : List ℕ = slice_range bytes (fields_len dbr.form) (value_offset dbr) in gap ≡ replicate (length gap) 0
  pub behind : let padding : List ℕ = slice_range bytes (value_end dbr count) (payload_size dbr count) in padding ≡ replicate (length padding) 0

-- the first bytes are bytes
take_small : (n : ℕ) (bytes : List ℕ) → ((i : ℕ) → slice_index bytes i < 256) → (i : ℕ) → slice_index (take n bytes) i < 256
take_small zero bytes small i = omega arith
take_small (suc n) [] small i = omega arith
take_small (suc n) (byte ∷ bytes) small zero = small 0
take_small (suc n) (byte ∷ bytes) small (suc i) = take_small n bytes (λ k. small (suc k)) i

-- a number is written as the bytes that it was read from
number_of_two : (bytes : List ℕ) → ((i : ℕ) → slice_index bytes i < 256) → 2 ≤ length bytes → to_be_bytes w16 (big_number 2 bytes) ≡ take 2 bytes
number_of_two bytes small there =
    be_bytes_2 (take 2 bytes) (big_number 2 bytes) (length-take-le 2 bytes there) (take_small 2 bytes small) (omega (arith, big_from-take 0 2 2 bytes))

number_of_four : (bytes : List ℕ) → ((i : ℕ) → slice_index bytes i < 256) → 4 ≤ length bytes → to_be_bytes w32 (big_number 4 bytes) ≡ take 4 bytes
number_of_four bytes small there =
    be_bytes_4 (take 4 bytes) (big_number 4 bytes) (length-take-le 4 bytes there) (take_small 4 bytes small) (omega (arith, big_from-take 0 4 4 bytes))

signed_number : (bytes : List ℕ) → ((i : ℕ) → slice_index bytes i < 256) → 2 ≤ length bytes → to_be_bytes w16 (cast_unsigned w16 (cast_signed w16 (big_number 2 bytes))) ≡ take 2 bytes
signed_number bytes small there =
    ap (to_be_bytes w16) (of_z-to_z w16 (big_number 2 bytes) (big_from-lt 0 2 bytes small)) ∙ number_of_two bytes small there

-- the fields that a form without properties reads are laid out as the bytes that they were read from
alarm-in : (bytes : List ℕ) → ((i : ℕ) → slice_index bytes i < 256) → 4 ≤ length bytes
    → to_be_bytes w16 (cast_unsigned w16 (cast_signed w16 (big_number 2 bytes))) ++ to_be_bytes w16 (cast_unsigned w16 (cast_signed w16 (big_number 2 (drop 2 bytes)))) ≡ take 4 bytes
alarm-in bytes small there =
    ap₂
    (λ (status severity : List ℕ). status ++ severity)
    (signed_number bytes small (omega arith))
    (signed_number (drop 2 bytes) (drop_small 2 bytes small) (omega (arith, length-drop 2 bytes)))
    ∙ sym (take-add 2 2 bytes)

stamp-in : (bytes : List ℕ) → ((i : ℕ) → slice_index bytes i < 256) → 12 ≤ length bytes
    → to_be_bytes w32 (big_number 4 (drop 4 bytes)) ++ to_be_bytes w32 (big_number 4 (drop 8 bytes)) ≡ take 8 (drop 4 bytes)
stamp-in bytes small there =
    ap₂
    (λ (seconds nanoseconds : List ℕ). seconds ++ nanoseconds)
    (number_of_four (drop 4 bytes) (drop_small 4 bytes small) (omega (arith, length-drop 4 bytes)))
    (number_of_four (drop 8 bytes) (drop_small 8 bytes small) (omega (arith, length-drop 8 bytes)) ∙ ap (take 4) (sym (drop-drop 4 4 bytes)))
    ∙ sym (take-add 4 4 (drop 4 bytes))

fields-in : (form : Form) (b : Base) (count : ℕ) (bytes : List ℕ) → ((i : ℕ) → slice_index bytes i < 256) → is_described form ≡ false → fields_len form ≤ length bytes
    → fields form (parts_in (record { base = b; form = form }) count bytes) ≡ take (fields_len form) bytes
fields-in Plain b count bytes small undescribed there = refl
fields-in Sts b count bytes small undescribed there = alarm-in bytes small there
fields-in Time b count bytes small undescribed there =
    ap₂ (λ (alarm stamp : List ℕ). alarm ++ stamp) (alarm-in bytes small (omega arith)) (stamp-in bytes small there) ∙ sym (take-add 4 8 bytes)
fields-in Gr b count bytes small undescribed there = absurd cc
fields-in Ctrl b count bytes small undescribed there = absurd cc

-- zero bytes behind the first `len` fill these up
filled_to-take : (len end : ℕ) (bytes : List ℕ) → len ≤ end → end ≤ length bytes
    → take (end - len) (drop len bytes) ≡ replicate (length (take (end - len) (drop len bytes))) 0
    → filled_to end (take len bytes) ≡ take end bytes
filled_to-take len end bytes within there zeros =
    let front : length (take len bytes) ≡ len = length-take-le len bytes (omega arith) in
    let many : length (take (end - len) (drop len bytes)) ≡ end - len = length-take-le (end - len) (drop len bytes) (omega (arith, length-drop len bytes)) in
    let gap : replicate (end - len) 0 ≡ take (end - len) (drop len bytes) = ap (λ (n : ℕ). replicate n 0) (sym many) ∙ sym zeros in
    let whole : len + (end - len) ≡ end = omega arith in
    rw (front, gap, ← take-add len (end - len) bytes, whole) refl

-- the fields, the bytes up to the value and the elements
value-in : (dbr : Dbr) (count : ℕ) (bytes : List ℕ) → ((i : ℕ) → slice_index bytes i < 256) → is_described dbr.form ≡ false → value_end dbr count ≤ length bytes
    → let len : ℕ = fields_len dbr.form in take (value_offset dbr - len) (drop len bytes) ≡ replicate (length (take (value_offset dbr - len) (drop len bytes))) 0
    → value_bytes dbr (parts_in dbr count bytes) ≡ take (value_end dbr count) bytes
value-in dbr count bytes small undescribed there zeros =
    let start : ℕ = value_offset dbr in
    let size : ℕ = element_size dbr.base in
    let front : fields dbr.form (parts_in dbr count bytes) ≡ take (fields_len dbr.form) bytes =
    fields-in dbr.form dbr.base count bytes small undescribed (omega (arith, there, fields_len-le dbr)) in
    let elements : concat (parts_in dbr count bytes).elements ≡ take (count * size) (drop start bytes) =
    sym (take_elements size count (drop start bytes) (omega (arith, there, length-drop start bytes))) in
    rw (front, filled_to-take (fields_len dbr.form) start bytes (fields_len-le dbr) (omega (arith, there)) zeros, elements)
    (sym (take-add start (count * size) bytes))

-- bytes whose padding is zero are the layout of the parts that they hold
pub layout-in : (dbr : Dbr) (count : ℕ) (bytes : List ℕ) → ((i : ℕ) → slice_index bytes i < 256) → is_described dbr.form ≡ false → IsPadded dbr count bytes
    → layout dbr (parts_in dbr count bytes) ≡ take (payload_size dbr count) bytes
layout-in dbr count bytes small undescribed padded =
    let end : ℕ = value_end dbr count in
    let there : end ≤ length bytes = omega (arith, padded.there, le-next_multiple_of end) in
    let value : value_bytes dbr (parts_in dbr count bytes) ≡ take end bytes = value-in dbr count bytes small undescribed there padded.before in
    let size : next_multiple_of (length (take end bytes)) ALIGNMENT ≡ payload_size dbr count =
    ap (λ (n : ℕ). next_multiple_of n ALIGNMENT) (length-take-le end bytes there) in
    ap (λ (value : List ℕ). filled_to (next_multiple_of (length value) ALIGNMENT) value) value
    ∙ ap (λ (n : ℕ). filled_to n (take end bytes)) size
    ∙ filled_to-take end (payload_size dbr count) bytes (le-next_multiple_of end) padded.there padded.behind

-- no base is one of states and one of texts
no_state_texts : (b : Base) → (is_state b && is_text b) ≡ false
no_state_texts base.Enum = refl
no_state_texts _ = refl

-- nothing that such a form lays out hangs on properties
used-undescribed : (b : Base) (dbr : Dbr) (properties : Option Properties) → b ≡ dbr.base → is_described dbr.form ≡ false → used b dbr properties ≡ Ok None
used-undescribed b dbr properties same undescribed = rw (same, undescribed, no_state_texts dbr.base) refl

fields-undescribed : (form : Form) (parts : Parts) (properties : Option Properties) → is_described form ≡ false → fields form (record parts { properties = properties }) ≡ fields form parts
fields-undescribed Plain parts properties undescribed = refl
fields-undescribed Sts parts properties undescribed = refl
fields-undescribed Time parts properties undescribed = refl
fields-undescribed Gr parts properties undescribed = absurd cc
fields-undescribed Ctrl parts properties undescribed = absurd cc

-- what is written of a view, under a type of the same base that tells no properties, is the layout of any parts with the same fields
-- and elements
layout-unchanged : (seen : Shown) (dbr : Dbr) (parts : Parts) (there : ℕ) → is_described dbr.form ≡ false → length seen.parts.elements ≡ there
    → fields dbr.form seen.parts ≡ fields dbr.form parts → seen.parts.elements ≡ parts.elements
    → layout dbr (converted_parts seen dbr Unchanged None there) ≡ layout dbr parts
layout-unchanged seen dbr parts there undescribed counted same_fields same_elements =
    let made : Parts = converted_parts seen dbr Unchanged None there in
    let front : fields dbr.form made ≡ fields dbr.form parts =
    fields-elements dbr.form (record seen.parts { properties = None }) made.elements ∙ fields-undescribed dbr.form seen.parts None undescribed ∙ same_fields in
    let elements : made.elements ≡ parts.elements =
    given_elements-there [] dbr there seen.parts.elements (omega (arith, counted)) ∙ take_all there seen.parts.elements (omega (arith, counted)) ∙ same_elements in
    layout-same dbr made parts front elements

-- bytes from `start` on that are laid out already under a type are what is written under it of a payload whose fields and
-- elements are theirs
own-of_laid_out : (dtype there : ℕ) (bytes : List ℕ) (asked count start end : ℕ) (native dbr : Dbr)
    → dbr_of dtype ≡ Some native → dbr_of asked ≡ Some dbr → native.base ≡ dbr.base → value_end native there ≤ length bytes
    → given_count count there ≡ there → end ≡ start + payload_size dbr there → end ≤ length bytes → IsLaidOut dbr there (drop start bytes)
    → let parts : Parts = parts_in native there bytes in
    fields dbr.form parts ≡ fields dbr.form (parts_in dbr there (drop start bytes)) → parts.elements ≡ (parts_in dbr there (drop start bytes)).elements
    → IsOwnPart dtype there bytes asked count start end
own-of_laid_out dtype there bytes asked count start end native dbr served wanted same stands all ends within laid same_fields same_elements =
    let parts : Parts = parts_in native there bytes in
    let seen : Shown = record { dbr = native; parts = parts } in
    let part : Parts = parts_in dbr there (drop start bytes) in
    let counted : length parts.elements ≡ there = length-elements_in (element_size native.base) there (drop (value_offset native) bytes) in
    let many : given_count count (length parts.elements) ≡ there = ap (given_count count) counted ∙ all in
    let between : conversion_between native.base dbr.base ≡ Some Unchanged = rw same (between_same dbr.base) in
    let size : end - start ≡ payload_size dbr there = omega (arith, ends) in
    record {
      ordered = omega (arith, ends);
      within = within;
      seen = seen;
      shows = shown_ok dtype there bytes native served stands;
      all = many;
      whole =
          λ properties.
          written_of seen properties None asked count dbr Unchanged there wanted between (used-undescribed native.base dbr properties same laid.undescribed) (sym many) laid.fits
          ∙ ap (λ (payload : List ℕ). Ok payload) (layout-unchanged seen dbr part there laid.undescribed counted same_fields same_elements ∙ laid.whole)
          ∙ ap (λ (n : ℕ). Ok (take n (drop start bytes))) (sym size);
    }

-- under a payload's own type the part begins with the payload
own-from_front : (dtype there : ℕ) (bytes : List ℕ) (count end : ℕ) (native : Dbr)
    → dbr_of dtype ≡ Some native → given_count count there ≡ there → end ≡ 0 + payload_size native there → end ≤ length bytes → IsLaidOut native there bytes
    → IsOwnPart dtype there bytes dtype count 0 end
own-from_front dtype there bytes count end native served all ends within laid =
    let stands : value_end native there ≤ length bytes = omega (arith, laid.there, le-next_multiple_of (value_end native there)) in
    own-of_laid_out dtype there bytes dtype count 0 end native native served served refl stands all ends within laid refl refl

-- the plain type of a base has its number, and nothing before its elements
plain-served : (b : Base) → dbr_of (base_number b) ≡ Some (plain b)
unfolding dbr_of
plain-served base.String = refl
plain-served base.Short = refl
plain-served base.Float = refl
plain-served base.Enum = refl
plain-served base.Char = refl
plain-served base.Long = refl
plain-served base.Double = refl

plain-offset : (b : Base) → value_offset (plain b) ≡ 0
plain-offset base.String = refl
plain-offset _ = refl

-- under the plain type of its base the part begins with the elements
own-from_value : (dtype there : ℕ) (bytes : List ℕ) (count end : ℕ) (native : Dbr)
    → let start : ℕ = value_offset native in
    dbr_of dtype ≡ Some native → given_count count there ≡ there → end ≡ start + payload_size (plain native.base) there → end ≤ length bytes → IsLaidOut (plain native.base) there (drop start bytes)
    → IsOwnPart dtype there bytes (base_number native.base) count start end
own-from_value dtype there bytes count end native served all ends within laid =
    let dbr : Dbr = plain native.base in
    let start : ℕ = value_offset native in
    let stands : value_end native there ≤ length bytes = omega (arith, ends, within, le-next_multiple_of (value_end dbr there)) in
    let elements : (parts_in native there bytes).elements ≡ (parts_in dbr there (drop start bytes)).elements =
    ap (λ (n : ℕ). elements_in (element_size native.base) there (drop n (drop start bytes))) (sym (plain-offset native.base)) in
    own-of_laid_out dtype there bytes (base_number native.base) count start end native dbr served (plain-served native.base) refl stands all ends within laid refl elements

-- the same of parts that may be there
pub own-from_front_either : (part : Option (Range ℕ)) (dtype there : ℕ) (bytes : List ℕ) (asked count : ℕ) (native : Dbr)
    → dbr_of dtype ≡ Some native → given_count count there ≡ there → asked ≡ dtype
    → IfSome part (λ p. p.start ≡ 0) → IfSome part (λ p. p.end ≡ 0 + payload_size native there) → IfSome part (λ p. p.end ≤ length bytes) → IfSome part (λ _. IsLaidOut native there bytes)
    → IfSome part (λ p. IsOwnPart dtype there bytes asked count p.start p.end)
own-from_front_either None dtype there bytes asked count native served all own start ends within laid = tt
own-from_front_either (Some p) dtype there bytes asked count native served all own start ends within laid =
    rw (own, start) (own-from_front dtype there bytes count p.end native served all ends within laid)

pub own-from_value_either : (part : Option (Range ℕ)) (dtype there : ℕ) (bytes : List ℕ) (asked count : ℕ) (native : Dbr)
    → let start : ℕ = value_offset native in
    dbr_of dtype ≡ Some native → given_count count there ≡ there → asked ≡ base_number native.base
    → IfSome part (λ p. p.start ≡ start) → IfSome part (λ p. p.end ≡ start + payload_size (plain native.base) there) → IfSome part (λ p. p.end ≤ length bytes) → IfSome part (λ _. IsLaidOut (plain native.base) there (drop start bytes))
    → IfSome part (λ p. IsOwnPart dtype there bytes asked count p.start p.end)
own-from_value_either None dtype there bytes asked count native served all own start ends within laid = tt
own-from_value_either (Some p) dtype there bytes asked count native served all own start ends within laid =
    rw (own, start) (own-from_value dtype there bytes count p.end native served all ends within laid)

pub some_same : (x y : Dbr) → ◌≡◌ {A = Option Dbr} (Some x) (Some y) → x ≡ y
some_same x y h = cc

-- a payload of a plain type is all elements
pub own-of_plain : (dtype there : ℕ) (bytes : List ℕ) (native : Dbr) → dbr_of dtype ≡ Some native → dtype ≡ base_number native.base → IsPlainThere native there bytes → IsLaidOut native there bytes
own-of_plain dtype there bytes native served same there_plain =
    let is : native ≡ plain native.base = some_same native (plain native.base) (sym served ∙ ap dbr_of same ∙ plain-served native.base) in
    let begins : value_offset native ≡ 0 = ap value_offset is ∙ plain-offset native.base in
    subst
    (λ (d : Dbr). IsLaidOut d there bytes)
    (sym is)
    (subst (λ (n : ℕ). IsLaidOut (plain native.base) there (drop n bytes)) begins there_plain.laid_out)

-- what is zero in bytes that are laid out already
length-fields-undescribed : (form : Form) (parts : Parts) → is_described form ≡ false → length (fields form parts) ≡ fields_len form
length-fields-undescribed Plain parts undescribed = refl
length-fields-undescribed Sts parts undescribed = refl
length-fields-undescribed Time parts undescribed = refl
length-fields-undescribed Gr parts undescribed = absurd cc
length-fields-undescribed Ctrl parts undescribed = absurd cc

all_zero : (bytes : List ℕ) (n : ℕ) → bytes ≡ replicate n 0 → bytes ≡ replicate (length bytes) 0
all_zero bytes n h = h ∙ ap (λ (k : ℕ). replicate k 0) (sym (ap length h ∙ length-replicate {A = ℕ} n 0))

pub padded-of_laid_out : (dbr : Dbr) (count : ℕ) (bytes : List ℕ) → IsLaidOut dbr count bytes → IsPadded dbr count bytes
padded-of_laid_out dbr count bytes laid =
    let parts : Parts = parts_in dbr count bytes in
    let len : ℕ = fields_len dbr.form in
    let start : ℕ = value_offset dbr in
    let end : ℕ = value_end dbr count in
    let size : ℕ = payload_size dbr count in
    let front : List ℕ = fields dbr.form parts in
    let gap : List ℕ = replicate (start - length front) 0 in
    let elements : List ℕ = concat parts.elements in
    let value : List ℕ = value_bytes dbr parts in
    let many : ℕ = next_multiple_of (length value) ALIGNMENT - length value in
    let padding : List ℕ = replicate many 0 in
    let rest : List ℕ = drop size bytes in
    let short : length front ≡ len = length-fields-undescribed dbr.form parts laid.undescribed in
    let wide : length gap ≡ start - len = omega (arith, short, length-replicate {A = ℕ} (start - length front) 0) in
    let stands : end ≤ length bytes = omega (arith, laid.there, le-next_multiple_of end) in
    let ends : length value ≡ end =
    omega
    (arith, length-append (filled_to start front) elements, length-filled_to start front (omega (arith, short, fields_len-le dbr)), length-concat-elements_in start (element_size dbr.base) count bytes stands) in
    let filled : length padding ≡ size - end =
    length-replicate {A = ℕ} many 0 ∙ ap (λ (n : ℕ). next_multiple_of n ALIGNMENT - n) ends in
    let from_value : bytes ≡ value ++ (padding ++ rest) =
    sym (take-append-drop size bytes)
    ∙ ap (λ (xs : List ℕ). xs ++ rest) (sym laid.whole)
    ∙ append_assoc value padding rest in
    let from_gap : bytes ≡ front ++ (gap ++ (elements ++ (padding ++ rest))) =
    from_value
    ∙ append_assoc (filled_to start front) elements (padding ++ rest)
    ∙ append_assoc front gap (elements ++ (padding ++ rest)) in
    let before : take (start - len) (drop len bytes) ≡ gap =
    ap (λ (xs : List ℕ). take (start - len) (drop len xs)) from_gap
    ∙ ap (take (start - len)) (drop_at front (gap ++ (elements ++ (padding ++ rest))) len short)
    ∙ take_at gap (elements ++ (padding ++ rest)) (start - len) wide in
    let behind : take (size - end) (drop end bytes) ≡ padding =
    ap (λ (xs : List ℕ). take (size - end) (drop end xs)) from_value
    ∙ ap (take (size - end)) (drop_at value (padding ++ rest) end ends)
    ∙ take_at padding rest (size - end) filled in
    record {
      there = laid.there;
      before = all_zero (take (start - len) (drop len bytes)) (start - length front) before;
      behind = all_zero (take (size - end) (drop end bytes)) many behind;
    }
