-- Files by their lines.
use Rattle.std.proofs.Common.{◌≡◌, ℕ, suc, ◌+◌, ◌<◌, ◌≤◌, Bool, true, false, cond, eqb, List, [], ◌∷◌, ◌++◌, length, get_or, take, drop, filter_map, position, Option, Some, None, refl, sym, ap, ◌∙◌, add-one, below_more, drop-cons, length-append, arith}
use Rattle.std.proofs.Math.Seq.{take-length, take-suc}
use Rattle.std.proofs.lemmas.Bool.Decides.{nat_tests}
use Rattle.std.proofs.lemmas.List.{append-nil, get_or_default, length-take-le, take-append-drop}
use Rattle.std.proofs.lemmas.List.Elements.{filter_map-append}
use Rattle.std.proofs.lemmas.List.Sums.{position_or_len_is}
use Rattle.std.specs.List.{AllZip, last_or, onto_first, position_or_len, slice_split}
use Rattle.std.specs.Str.Lines.{lines, lines_of_parts}
use Rattle.pvlist.specs.declared.fault.RuleLineFault.{RuleLineFault}
use Rattle.pvlist.specs.declared.fault.RuleLineFault.TheVariants.{Cause, OutOfMemory}
use Rattle.pvlist.specs.declared.fault.RuleCause.{RuleCause}
use Rattle.pvlist.specs.declared.groups.GroupLine.{GroupLine}
use Rattle.pvlist.specs.declared.line.Item.{Item}
use Rattle.pvlist.specs.declared.line.Item.TheVariants as item
use Rattle.pvlist.specs.declared.line.TheConstants.{ROW_LIMIT}
use Rattle.pvlist.specs.declared.rules.Order.TheVariants.{AllowDeny}
use Rattle.pvlist.specs.declared.syntax.Syntax.{Syntax}
use Rattle.pvlist.specs.Fault.{fault_at}
use Rattle.pvlist.specs.File.{IsFileFault}
use Rattle.pvlist.specs.GroupFile as group
use Rattle.pvlist.specs.RuleFile.{IsRulingOf, RefusesLine, TakesLine, IsLineFault, is_full, row_in, order_in, with_item}
use Rattle.pvlist.specs.RuleLine.{IsItem, HasRoom}
use Rattle.pvlist.specs.Ruling.{Ruling}

-- ---- how many lines there are

at_most_one : (empty : Bool) (x : List ℕ) → length (cond empty [] (x ∷ [])) ≤ 1
at_most_one true x = omega arith
at_most_one false x = omega arith

lines_of_parts-onto_first : (b : ℕ) (parts : List (List ℕ)) → length (lines_of_parts (onto_first b parts)) ≤ length (lines_of_parts parts) + 1
lines_of_parts-onto_first b [] = omega (arith, at_most_one (eqb (length (b ∷ [])) 0) (b ∷ []))
lines_of_parts-onto_first b (x ∷ []) = omega (arith, at_most_one (eqb (length (b ∷ x)) 0) (b ∷ x))
lines_of_parts-onto_first b (x ∷ y ∷ more) = omega arith

lines_of_parts-empty : (parts : List (List ℕ)) → length (lines_of_parts ([] ∷ parts)) ≤ length (lines_of_parts parts) + 1
lines_of_parts-empty [] = omega arith
lines_of_parts-empty (y ∷ more) = omega arith

-- each line takes a byte
pub length-lines : (text : List ℕ) → length (lines text) ≤ length text
length-lines [] = omega arith
length-lines (b ∷ text) = by (eqb b 10) (length-lines text)
  where
    by : (newline : Bool) → length (lines text) ≤ length text
        → length (lines_of_parts (cond newline ([] ∷ slice_split (λ c. eqb c 10) text) (onto_first b (slice_split (λ c. eqb c 10) text)))) ≤ length (b ∷ text)
    by true few = omega (arith, lines_of_parts-empty (slice_split (λ c. eqb c 10) text))
    by false few = omega (arith, lines_of_parts-onto_first b (slice_split (λ c. eqb c 10) text))

-- ---- one line more

pub take_line : (all : List (List ℕ)) (n : ℕ) (line : List ℕ) → n < length all → line ≡ get_or all n line → take (n + 1) all ≡ take n all ++ line ∷ []
take_line all n line short is =
    rw (add-one n) (take-suc all n line short) ∙ ap (λ x. take n all ++ x ∷ []) (sym is)

parted_at : (all : List (List ℕ)) (n : ℕ) (line : List ℕ) → n < length all → line ≡ get_or all n line → all ≡ take n all ++ line ∷ drop (suc n) all
parted_at all n line short is =
    sym (take-append-drop n all) ∙ ap (λ rest. take n all ++ rest) (drop-cons all n line short ∙ ap (λ x. x ∷ drop (suc n) all) (sym is))

-- a line that is refused after those before it
pub first_fault : {S : Type 0} (Says : List (List ℕ) → S → Type 0) (Refuses : S → List ℕ → RuleCause → Type 0) (all : List (List ℕ)) (n : ℕ) (line : List ℕ) (said : S) (fault : RuleLineFault)
    → n < length all → line ≡ get_or all n line → Says (take n all) said → ((cause : RuleCause) → fault ≡ Cause cause → Refuses said line cause)
    → IsFileFault Says Refuses all (fault_at (n + 1) fault)
first_fault Says Refuses all n line said (Cause cause) short is says refuses = record {
  before = take n all;
  line = line;
  after = drop (suc n) all;
  parted = parted_at all n line short is;
  place = ap (λ k. k + 1) (sym (length-take-le n all (omega arith)));
  said = said;
  says = says;
  refused = refuses cause refl;
}
first_fault Says Refuses all n line said OutOfMemory short is says refuses = tt

pub length-more : {A : Type 0} (xs : List A) (x : A) → length (xs ++ x ∷ []) ≡ length xs + 1
length-more xs x = length-append xs (x ∷ [])

-- the lines so far, once the next was taken up
pub says-more : {S A : Type 0} (Says : List (List ℕ) → S → Type 0) (all : List (List ℕ)) (so_far : List A) (x : A) (line : List ℕ) (new : S)
    → length so_far < length all → line ≡ get_or all (length so_far) line → Says (take (length so_far) all ++ line ∷ []) new → Says (take (length (so_far ++ x ∷ [])) all) new
says-more Says all so_far x line new short is h =
    rw (length-more so_far x, take_line all (length so_far) line short is) h

-- and once all were
pub says-all : {S A : Type 0} (Says : List (List ℕ) → S → Type 0) (all : List (List ℕ)) (so_far : List A) (said : S)
    → length so_far ≡ length all → Says (take (length so_far) all) said → Says all said
says-all Says all so_far said is h = rw (is, take-length all) at h

AllZip-more : {A B : Type 0} (R : A → B → Type 0) (xs : List A) (ys : List B) (x : A) (y : B) → AllZip R xs ys → R x y → AllZip R (xs ++ x ∷ []) (ys ++ y ∷ [])
AllZip-more R [] [] x y all one = (one, tt)
AllZip-more R [] (b ∷ ys) x y all one = absurd all
AllZip-more R (a ∷ xs) [] x y all one = absurd all
AllZip-more R (a ∷ xs) (b ∷ ys) x y all one = (all.0, AllZip-more R xs ys x y all.1 one)

last_or-append : {A : Type 0} (o : Option A) (xs ys : List A) → last_or o (xs ++ ys) ≡ last_or (last_or o xs) ys
last_or-append o [] ys = refl
last_or-append o (x ∷ xs) ys = last_or-append (Some x) xs ys

-- ---- the first line that passes a test

pub first_line : (p : List ℕ → Bool) (all : List (List ℕ)) (n : ℕ) (line : List ℕ) → n < length all → line ≡ get_or all n line
    → ((k : ℕ) → k < n → p (get_or all k []) ≡ false) → p line ≡ true → position p all ≡ Some n
first_line p all n line short is before passes =
    let at : p (get_or all n []) ≡ true = ap p (get_or_default all n [] line short ∙ sym is) ∙ passes in
    let place : position_or_len p all ≡ n = position_or_len_is p all n [] (omega arith) before (λ _. at) in
    grind (arith, nat_tests)

pub no_line : (p : List ℕ → Bool) (all : List (List ℕ)) → ((k : ℕ) → k < length all → p (get_or all k []) ≡ false) → position p all ≡ None
no_line p all before =
    let place : position_or_len p all ≡ length all = position_or_len_is p all (length all) [] (omega arith) before (λ h. absurd (omega arith)) in
    grind (arith, nat_tests)

-- the lines so far fail, once the next does
pub before-more : {A : Type 0} (p : List ℕ → Bool) (all : List (List ℕ)) (so_far : List A) (x : A) (line : List ℕ) → length so_far < length all
    → line ≡ get_or all (length so_far) line → ((k : ℕ) → k < length so_far → p (get_or all k []) ≡ false) → p line ≡ false
    → (k : ℕ) → k < length (so_far ++ x ∷ []) → p (get_or all k []) ≡ false
before-more p all so_far x line short is before fails =
    let at : p (get_or all (length so_far) []) ≡ false = ap p (get_or_default all (length so_far) [] line short ∙ sym is) ∙ fails in
    rw (length-more so_far x) (below_more _ _ before at)

-- ---- rule files

rows-more : (items : List Item) (said : Item) (old : Ruling) → old.rows ≡ filter_map row_in items
    → (with_item old said).rows ≡ filter_map row_in (items ++ said ∷ [])
rows-more items item.Nothing old h = h ∙ sym (filter_map-append row_in items (item.Nothing ∷ []) ∙ append-nil (filter_map row_in items))
rows-more items (item.Order order) old h = h ∙ sym (filter_map-append row_in items (item.Order order ∷ []) ∙ append-nil (filter_map row_in items))
rows-more items (item.Row row) old h = ap (λ rows. rows ++ row ∷ []) h ∙ sym (filter_map-append row_in items (item.Row row ∷ []))

order-more : (items : List Item) (said : Item) (old : Ruling) → last_or (Some AllowDeny) (filter_map order_in items) ≡ Some old.order
    → last_or (Some AllowDeny) (filter_map order_in (items ++ said ∷ [])) ≡ Some (with_item old said).order
order-more items item.Nothing old h =
    ap (last_or (Some AllowDeny)) (filter_map-append order_in items (item.Nothing ∷ []) ∙ append-nil (filter_map order_in items)) ∙ h
order-more items (item.Order order) old h =
    ap (last_or (Some AllowDeny)) (filter_map-append order_in items (item.Order order ∷ []))
    ∙ last_or-append (Some AllowDeny) (filter_map order_in items) (order ∷ [])
order-more items (item.Row row) old h =
    ap (last_or (Some AllowDeny)) (filter_map-append order_in items (item.Row row ∷ []) ∙ append-nil (filter_map order_in items)) ∙ h

few-more : (said : Item) (old : Ruling) → HasRoom (is_full old) said → length old.rows ≤ ROW_LIMIT → length (with_item old said).rows ≤ ROW_LIMIT
few-more item.Nothing old room h = h
few-more (item.Order order) old room h = h
few-more (item.Row row) old room h = let more = length-more old.rows row in grind (arith, nat_tests)

closed-more : (said : Item) (old : Ruling) → old.is_open ≡ false → (with_item old said).is_open ≡ false
closed-more item.Nothing old h = h
closed-more (item.Order order) old h = h
closed-more (item.Row row) old h = h

pub IsRulingOf-nothing : (syntax : Syntax) → IsRulingOf syntax [] (record { order = AllowDeny; rows = []; is_open = false })
IsRulingOf-nothing syntax = record { items = []; read = tt; rows = refl; order = refl; few = omega arith; closed = refl }

pub IsRulingOf-more : (syntax : Syntax) (all : List (List ℕ)) (line : List ℕ) (old new : Ruling) → IsRulingOf syntax all old → TakesLine syntax line old new → IsRulingOf syntax (all ++ line ∷ []) new
IsRulingOf-more syntax all line old new h taken = rw taken.after (record {
  items = h.items ++ taken.said ∷ [];
  read = AllZip-more (IsItem syntax) all h.items line taken.said h.read taken.read;
  rows = rows-more h.items taken.said old h.rows;
  order = order-more h.items taken.said old h.order;
  few = few-more taken.said old taken.room h.few;
  closed = closed-more taken.said old h.closed;
})

pub refuses_line : (syntax : Syntax) (old : Ruling) (line : List ℕ) (fault : RuleLineFault) → IsLineFault syntax old line fault → (cause : RuleCause) → fault ≡ Cause cause → RefusesLine syntax old line cause
refuses_line syntax old line fault h cause is = rw is at h

-- ---- group files

group_lines-more : (entries : List (Option GroupLine)) (said : Option GroupLine) (old : List GroupLine) → old ≡ filter_map group.itself entries
    → group.with_line old said ≡ filter_map group.itself (entries ++ said ∷ [])
group_lines-more entries None old h = h ∙ sym (filter_map-append group.itself entries (None ∷ []) ∙ append-nil (filter_map group.itself entries))
group_lines-more entries (Some line) old h = ap (λ lines. lines ++ line ∷ []) h ∙ sym (filter_map-append group.itself entries (Some line ∷ []))

group_few-more : (said : Option GroupLine) (old : List GroupLine) → group.HasRoom (group.is_full old) said → length old ≤ ROW_LIMIT → length (group.with_line old said) ≤ ROW_LIMIT
group_few-more None old room h = h
group_few-more (Some line) old room h = let more = length-more old line in grind (arith, nat_tests)

pub AreGroupsOf-nothing : group.AreGroupsOf [] []
AreGroupsOf-nothing = record { entries = []; read = tt; lines = refl; few = omega arith }

pub AreGroupsOf-more : (all : List (List ℕ)) (line : List ℕ) (old new : List GroupLine) → group.AreGroupsOf all old → group.TakesLine line old new → group.AreGroupsOf (all ++ line ∷ []) new
AreGroupsOf-more all line old new h taken = rw taken.after (record {
  entries = h.entries ++ taken.said ∷ [];
  read = AllZip-more group.Says all h.entries line taken.said h.read taken.read;
  lines = group_lines-more h.entries taken.said old h.lines;
  few = group_few-more taken.said old taken.room h.few;
})

pub refuses_group_line : (old : List GroupLine) (line : List ℕ) (fault : RuleLineFault) → group.IsFaultOf (group.group_entry (group.is_full old) line) fault
    → (cause : RuleCause) → fault ≡ Cause cause → group.RefusesLine old line cause
refuses_group_line old line fault h cause is = rw is at h
