-- Bytes that follow a payload change nothing of what it shows.
use Rattle.std.proofs.Common.{◌≡◌, ℕ, ◌+◌, ◌≤◌, List, ◌++◌, Some, Ok, Err, length, drop, refl, sym, ap, ◌∙◌, arith}
use Rattle.std.proofs.lemmas.List.{drop-append-le, length-append, length-drop, take-append-le}
use Rattle.std.specs.Int.{w16, cast_signed}
use Rattle.std.specs.Prelude.{IsOk, Result}
use Rattle.byteorder.specs.Endian.{big_number}
use Rattle.byteorder.specs.Numbers.{big_from-append}
use Rattle.dbr_layout.specs.declared.dbr.Base.{Base}
use Rattle.dbr_layout.specs.declared.dbr.Dbr.{Dbr}
use Rattle.dbr_layout.specs.declared.dbr.Form.{Form}
use Rattle.dbr_layout.specs.declared.dbr.Form.TheVariants.{Plain, Sts, Time, Gr, Ctrl}
use Rattle.dbr_layout.specs.declared.fault.LayoutFault.{LayoutFault}
use Rattle.dbr_layout.specs.declared.view.Stamp.{Stamp}
use Rattle.dbr_layout.specs.Dbr.{column, dbr_of, element_size, offsets, value_end, value_offset}
use Rattle.dbr_layout.specs.Parts.{Parts, fields_len, parts_in, properties_under, severity_in, stamp_in, status_in}
use Rattle.dbr_layout.specs.Properties.{Properties, limit_count, precision_size, properties_of, properties_size, states_size, units_offset, units_size}
use Rattle.dbr_layout.specs.View.{Shown, shown}
use Rattle.dbr_layout.proofs.Elements.{elements_in-append}
use Rattle.dbr_layout.proofs.ReadingBack.{same_parts, same_properties}
use Rattle.dbr_layout.proofs.Viewing.{fields_len-le, shown_ok}
use Rattle.dbr_layout.proofs.WritingBack.{told_end, views_from}

-- a number that stands behind so many bytes
number-append : (at n : ℕ) (bytes more : List ℕ) → at + n ≤ length bytes → big_number n (drop at (bytes ++ more)) ≡ big_number n (drop at bytes)
number-append at n bytes more there =
    rw (drop-append-le at bytes more (omega arith)) (big_from-append n (drop at bytes) more (omega (arith, length-drop at bytes)))

alarm-append : (at : ℕ) (bytes more : List ℕ) → at + 2 ≤ length bytes → cast_signed w16 (big_number 2 (drop at (bytes ++ more))) ≡ cast_signed w16 (big_number 2 (drop at bytes))
alarm-append at bytes more there = ap (cast_signed w16) (number-append at 2 bytes more there)

status-append : (form : Form) (bytes more : List ℕ) → fields_len form ≤ length bytes → status_in form (bytes ++ more) ≡ status_in form bytes
status-append Plain bytes more there = refl
status-append Sts bytes more there = alarm-append 0 bytes more (omega arith)
status-append Time bytes more there = alarm-append 0 bytes more (omega arith)
status-append Gr bytes more there = alarm-append 0 bytes more (omega arith)
status-append Ctrl bytes more there = alarm-append 0 bytes more (omega arith)

severity-append : (form : Form) (bytes more : List ℕ) → fields_len form ≤ length bytes → severity_in form (bytes ++ more) ≡ severity_in form bytes
severity-append Plain bytes more there = refl
severity-append Sts bytes more there = alarm-append 2 bytes more (omega arith)
severity-append Time bytes more there = alarm-append 2 bytes more (omega arith)
severity-append Gr bytes more there = alarm-append 2 bytes more (omega arith)
severity-append Ctrl bytes more there = alarm-append 2 bytes more (omega arith)

stamp-append : (form : Form) (bytes more : List ℕ) → fields_len form ≤ length bytes → stamp_in form (bytes ++ more) ≡ stamp_in form bytes
stamp-append Time bytes more there =
    ap (λ (n : ℕ). let s : Stamp = record { seconds = n; nanoseconds = big_number 4 (drop 8 (bytes ++ more)) } in s) (number-append 4 4 bytes more (omega arith))
    ∙ ap (λ (n : ℕ). let s : Stamp = record { seconds = big_number 4 (drop 4 bytes); nanoseconds = n } in s) (number-append 8 4 bytes more (omega arith))
stamp-append Plain bytes more there = refl
stamp-append Sts bytes more there = refl
stamp-append Gr bytes more there = refl
stamp-append Ctrl bytes more there = refl

properties_of-append : (b : Base) (bytes more : List ℕ) → properties_size b ≤ length bytes → properties_of b (bytes ++ more) ≡ properties_of b bytes
properties_of-append b bytes more there =
    let front : ℕ = units_offset b in
    let behind : ℕ = units_offset b + units_size b in
    same_properties
    (properties_of b (bytes ++ more))
    (properties_of b bytes)
    refl
    (take-append-le (states_size b) bytes more (omega (arith, there)))
    (take-append-le (precision_size b) bytes more (omega (arith, there)))
    (rw (drop-append-le front bytes more (omega (arith, there))) (take-append-le (units_size b) (drop front bytes) more (omega (arith, there, length-drop front bytes))))
    (rw (drop-append-le behind bytes more (omega (arith, there)))
    (elements_in-append (element_size b) (limit_count b) (drop behind bytes) more (omega (arith, there, length-drop behind bytes))))

told-append : (form : Form) (b : Base) (bytes more : List ℕ) → column (offsets form) b ≤ length bytes
    → properties_under form b (drop (fields_len form) (bytes ++ more)) ≡ properties_under form b (drop (fields_len form) bytes)
told-append Ctrl b bytes more there =
    let alarm : 4 ≤ length bytes = omega (arith, there, told_end b) in
    ap
    (λ (p : Properties). Some p)
    (rw (drop-append-le 4 bytes more alarm) (properties_of-append b (drop 4 bytes) more (omega (arith, there, told_end b, length-drop 4 bytes))))
told-append Plain b bytes more there = refl
told-append Sts b bytes more there = refl
told-append Time b bytes more there = refl
told-append Gr b bytes more there = refl

-- the parts that bytes hold
pub parts_in-append : (dbr : Dbr) (count : ℕ) (bytes more : List ℕ) → value_end dbr count ≤ length bytes → parts_in dbr count (bytes ++ more) ≡ parts_in dbr count bytes
parts_in-append dbr count bytes more there =
    let start : ℕ = value_offset dbr in
    let value : start ≤ length bytes = omega (arith, there) in
    let front : fields_len dbr.form ≤ length bytes = omega (arith, value, fields_len-le dbr) in
    same_parts
    (parts_in dbr count (bytes ++ more))
    (parts_in dbr count bytes)
    (status-append dbr.form bytes more front)
    (severity-append dbr.form bytes more front)
    (stamp-append dbr.form bytes more front)
    (told-append dbr.form dbr.base bytes more value)
    (rw (drop-append-le start bytes more value)
    (elements_in-append (element_size dbr.base) count (drop start bytes) more (omega (arith, there, length-drop start bytes))))

ok_of : (answer : Result Shown LayoutFault) → IsOk answer → (seen : Shown) × (answer ≡ Ok seen)
ok_of (Ok seen) ok = (seen, refl)
ok_of (Err fault) ok = absurd cc

-- what bytes show, where they show anything
pub shown_longer : (dtype count : ℕ) (bytes more : List ℕ) → IsOk (shown dtype count bytes) → shown dtype count (bytes ++ more) ≡ shown dtype count bytes
shown_longer dtype count bytes more ok =
    let known = ok_of (shown dtype count bytes) ok in
    let dbr : Dbr = known.0.dbr in
    let view = views_from (dbr_of dtype) count bytes known.0 known.1 in
    shown_ok dtype count (bytes ++ more) dbr view.served (omega (arith, view.fits, length-append bytes more))
    ∙ ap (λ (p : Parts). Ok (let s : Shown = record { dbr = dbr; parts = p } in s)) (parts_in-append dbr count bytes more view.fits)
    ∙ sym (shown_ok dtype count bytes dbr view.served view.fits)
