-- The parts that are looked for are what is written.
use Rattle.std.proofs.Common.{rules, ◌≡◌, Some, sym, subst, ◌∙◌, arith}
use Rattle.dbr_layout.specs.declared.dbr.Dbr.{Dbr}
use Rattle.dbr_layout.specs.Conversion.{given_count}
use Rattle.dbr_layout.specs.Dbr.{base_number, dbr_of}
use Rattle.dbr_layout.specs.OwnLayout.{IsLaidOut}
use Rattle.dbr_layout.proofs.OwnLayouts.{own-from_front_either, own-from_value_either, own-of_plain, some_same}
use Rattle.dbr_layout.proofs.own_layout.own_part.Goals as goal

pub returns-then-asked-dtype-clause-part : goal.returns-then-asked-dtype-clause-part
returns-then-asked-dtype-clause-part c =
    let native = c.in_ok-native.native in
    let served : dbr_of c.args.dtype ≡ Some native = search rules in
    let all : given_count c.args.count c.args.there ≡ c.args.there = search rules in
    let part = c.part_from.ensures in
    own-from_front_either c.part_from.result c.args.dtype c.args.there c.args.bytes.now c.args.asked c.args.count native served all c.if-asked-dtype.true part.start part.end part.within part.laid_out

-- a payload of a plain type has one part, which is its own
pub returns-then-asked-dtype-clause-plain : goal.returns-then-asked-dtype-clause-plain
returns-then-asked-dtype-clause-plain c = λ native served all asked there_plain.
    let known : dbr_of c.args.dtype ≡ Some c.in_ok-native.native = search rules in
    let same : native ≡ c.in_ok-native.native = some_same native c.in_ok-native.native (sym served ∙ known) in
    let laid = own-of_plain c.args.dtype c.args.there c.args.bytes.now native served (sym c.if-asked-dtype.true ∙ asked) there_plain in
    c.part_from.ensures.found (omega arith) (subst (λ (d : Dbr). IsLaidOut d c.args.there c.args.bytes.now) same laid)

pub returns-then-asked-number-clause-part : goal.returns-then-asked-number-clause-part
returns-then-asked-number-clause-part c =
    let native = c.in_ok-native.native in
    let served : dbr_of c.args.dtype ≡ Some native = search rules in
    let all : given_count c.args.count c.args.there ≡ c.args.there = search rules in
    let asked : c.args.asked ≡ base_number native.base = c.if-asked-number.true ∙ c.number.ensures in
    let part = rw c.offset.ensures at c.part_from-then-asked-number.ensures in
    own-from_value_either
    c.part_from-then-asked-number.result
    c.args.dtype
    c.args.there
    c.args.bytes.now
    c.args.asked
    c.args.count
    native
    served
    all
    asked
    part.start
    part.end
    part.within
    part.laid_out
