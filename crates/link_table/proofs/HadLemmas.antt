-- The numbers that rows have: which they are, how many, and that the next one is free as long as its counter didn't begin again.
use Rattle.std.proofs.Common.{◌≡◌, ℕ, ◌+◌, ◌*◌, ◌<◌, ◌≤◌, List, [], ◌∷◌, ◌++◌, length, map, Bool, true, false, ◌&&◌, ◌||◌, ◌==◌, cond, eqb, nat_lt, Option, Some, None, refl, sym, ap, ◌∙◌, true≢false, arith, length-append}
use Rattle.std.specs.List.{filter, flat_map, list_all, list_any}
use Rattle.std.proofs.lemmas.Bool.{lt-ltb, ltb-true, ne_eqb}
use Rattle.std.proofs.lemmas.List.{length-map}
use Rattle.std.proofs.lemmas.List.Folds.{list_any-append}
use Rattle.link_table.specs.declared.counter.Counter.{Counter}
use Rattle.link_table.specs.declared.counter.Counter.TheVariants.{Sid, Cid, Subscription as Sub, Write}
use Rattle.link_table.specs.declared.counter.TheConstants.{LAST_NUMBER}
use Rattle.link_table.specs.declared.links.LinkRow.{LinkRow}
use Rattle.link_table.specs.declared.links.Subscription.{Subscription}
use Rattle.link_table.specs.declared.writes.WaitingWrite.{WaitingWrite}
use Rattle.link_table.specs.Counters.{are_over, began_again, counter_of, given_out, is_over}
use Rattle.link_table.specs.LinkRows.{Counters, LinkRows}
use Rattle.link_table.specs.Links.{has_id, has_subscription, is_of}
use Rattle.link_table.specs.Numbers.{cid_of, has_cid_below, has_id_below, has_write_id_below, id_of, ids_in, is_had, is_of_cid, is_sub_below, numbers_had, sub_ids, AreNumbersBelow}
use Rattle.link_table.specs.Writes.{is_write, is_write_to}

-- ---- which they are

abbrev member : ℕ → List ℕ → Bool
member n numbers = list_any (λ m. eqb m n) numbers

or_none : (b : Bool) → b ≡ (b || false)
or_none true = refl
or_none false = refl

cids_had : (n : ℕ) (links : List LinkRow) → list_any (is_of_cid n) links ≡ member n (map cid_of links)
cids_had n [] = refl
cids_had n (link ∷ links) = ap (λ t. eqb link.cid n || t) (cids_had n links)

writes_had : (server n : ℕ) (writes : List WaitingWrite) → list_any (is_write server n) writes ≡ member n (map id_of (filter (is_write_to server) writes))
writes_had server n [] = refl
writes_had server n (write ∷ writes) =
    let rest = writes_had server n writes in
    elim (write.server == server) as (λ t. ((t && write.id == n) || list_any (is_write server n) writes) ≡ member n (map id_of (cond t (write ∷ filter (is_write_to server) writes) (filter (is_write_to server) writes))))
    [ true ↦ ap (λ t. eqb write.id n || t) rest | false ↦ rest ]

either_had : (n : ℕ) (one other : Option Subscription) → (has_id n one || has_id n other) ≡ member n (ids_in one ++ ids_in other)
either_had n None None = refl
either_had n None (Some sub) = or_none (eqb sub.id n)
either_had n (Some sub) None = refl
either_had n (Some sub) (Some more) = ap (λ t. eqb sub.id n || t) (or_none (eqb more.id n))

subs_had : (server n : ℕ) (links : List LinkRow) → list_any (has_subscription server n) links ≡ member n (flat_map sub_ids (filter (is_of server) links))
subs_had server n [] = refl
subs_had server n (link ∷ links) =
    let rest = subs_had server n links in
    let values = has_id n link.subscriptions.values in
    let properties = has_id n link.subscriptions.properties in
    elim (link.server == server) as (λ t. (((t && values) || (t && properties)) || list_any (has_subscription server n) links) ≡ member n (flat_map sub_ids (cond t (link ∷ filter (is_of server) links) (filter (is_of server) links)))) [
      | true ↦ (λ i. either_had n link.subscriptions.values link.subscriptions.properties i || rest i) ∙ sym (list_any-append (λ m. eqb m n) (sub_ids link) (flat_map sub_ids (filter (is_of server) links)))
      | false ↦ rest
    ]

pub had_is_there : (counter : Counter) (server : ℕ) (rows : LinkRows) (n : ℕ) → is_had counter server rows n ≡ true → list_any (λ m. eqb m n) (numbers_had counter server rows) ≡ true
had_is_there Sid server rows n had = had
had_is_there Cid server rows n had = sym (cids_had n rows.links) ∙ had
had_is_there Sub server rows n had = sym (subs_had server n rows.links) ∙ had
had_is_there Write server rows n had = sym (writes_had server n rows.writes) ∙ had

-- ---- how many

one_at_most : (sub : Option Subscription) → length (ids_in sub) ≤ 1
one_at_most None = omega arith
one_at_most (Some sub) = omega arith

two_each : (links : List LinkRow) → length (flat_map sub_ids links) ≤ 2 * length links
two_each [] = omega arith
two_each (link ∷ links) =
    let rest = two_each links in
    let all = length-append (sub_ids link) (flat_map sub_ids links) in
    let both = length-append (ids_in link.subscriptions.values) (ids_in link.subscriptions.properties) in
    let one = one_at_most link.subscriptions.values in
    let other = one_at_most link.subscriptions.properties in
    omega (arith, rest, all, both, one, other)

pub cids_counted : (links : List LinkRow) (count : ℕ) → count ≡ length links → length (map cid_of links) ≤ 2 * count
cids_counted links count is = let as_many = length-map links cid_of in omega (arith, is, as_many)

pub subs_counted : (server : ℕ) (links : List LinkRow) (count : ℕ) → count ≡ length (filter (is_of server) links) → length (flat_map sub_ids (filter (is_of server) links)) ≤ 2 * count
subs_counted server links count is = let few = two_each (filter (is_of server) links) in omega (arith, is, few)

pub writes_counted : (server : ℕ) (writes : List WaitingWrite) (count : ℕ) → count ≡ length (filter (is_write_to server) writes) → length (map id_of (filter (is_write_to server) writes)) ≤ 2 * count
writes_counted server writes count is = let as_many = length-map (filter (is_write_to server) writes) id_of in omega (arith, is, as_many)

-- ---- the next one

none_of_these : {A : Type 0} (low p : A → Bool) → ((x : A) → low x ≡ true → p x ≡ false) → (xs : List A) → list_all low xs ≡ true → list_any p xs ≡ false
none_of_these low p so [] all = refl
none_of_these low p so (x ∷ xs) all = by (low x) refl all (λ later. none_of_these low p so xs later)
  where
    by : (is : Bool) → low x ≡ is → (is && list_all low xs) ≡ true → (list_all low xs ≡ true → list_any p xs ≡ false) → (p x || list_any p xs) ≡ false
    by true is all rest = (λ i. so x is i || rest all i)
    by false is all rest = absurd (true≢false (sym all))

not_next : (number next : ℕ) → nat_lt number next ≡ true → eqb number next ≡ false
not_next number next low = let below = ltb-true number next low in ne_eqb number next (λ same. omega (arith, below, same))

and_none : (b c : Bool) → c ≡ false → (b && c) ≡ false
and_none true c none = none
and_none false c none = refl

not_its_id : (next : ℕ) (sub : Option Subscription) → is_sub_below next sub ≡ true → has_id next sub ≡ false
not_its_id next None low = refl
not_its_id next (Some sub) low = not_next sub.id next low

both_low : (a b : Bool) → (a && b) ≡ true → (a ≡ true) × (b ≡ true)
both_low true b is = (refl, is)
both_low false b is = absurd (true≢false (sym is))

-- as long as a counter didn't begin again, no row has its next number
pub next_is_free : (counter : Counter) (server : ℕ) (rows : LinkRows) → AreNumbersBelow counter rows → began_again counter rows.counters ≡ false → is_had counter server rows (counter_of counter rows.counters) ≡ false
next_is_free Sid server rows below never = refl
next_is_free Cid server rows below never =
    none_of_these (has_cid_below rows.counters.cid) (is_of_cid rows.counters.cid) (λ link low. not_next link.cid rows.counters.cid low) rows.links (below never)
next_is_free Sub server rows below never =
    none_of_these (has_id_below rows.counters.subscription) (has_subscription server rows.counters.subscription)
    (λ link low.
    let so = both_low (is_sub_below rows.counters.subscription link.subscriptions.values) (is_sub_below rows.counters.subscription link.subscriptions.properties) low in
    (λ i. and_none (is_of server link) (has_id rows.counters.subscription link.subscriptions.values) (not_its_id rows.counters.subscription link.subscriptions.values so.0) i
    || and_none (is_of server link) (has_id rows.counters.subscription link.subscriptions.properties) (not_its_id rows.counters.subscription link.subscriptions.properties so.1) i))
    rows.links (below never)
next_is_free Write server rows below never =
    none_of_these (has_write_id_below rows.counters.write) (is_write server rows.counters.write)
    (λ write low. and_none (is_write_to server write) (write.id == rows.counters.write) (not_next write.id rows.counters.write low)) rows.writes (below never)

-- ---- past the end

over_one : (number : ℕ) → LAST_NUMBER < number → is_over (number + 1) ≡ true
over_one number over = lt-ltb (LAST_NUMBER + 1) (number + 1) (omega (arith, over))

fourth : (a b c : Bool) → (a || b || c || true) ≡ true
fourth true b c = refl
fourth false true c = refl
fourth false false true = refl
fourth false false false = refl

third : (a b d : Bool) → (a || b || true || d) ≡ true
third true b d = refl
third false true d = refl
third false false d = refl

second : (a c d : Bool) → (a || true || c || d) ≡ true
second true c d = refl
second false c d = refl

first : (b c d : Bool) → (true || b || c || d) ≡ true
first b c d = refl

-- a number past the last one leaves its counter past its end
pub over_with : (counter : Counter) (reuses : Bool) (number : ℕ) (counters : Counters) → LAST_NUMBER < number → are_over (given_out counter reuses number counters) ≡ true
over_with Sid reuses number counters over =
    ap (λ t. t || is_over counters.cid || is_over counters.subscription || is_over counters.write) (over_one number over) ∙ first (is_over counters.cid) (is_over counters.subscription) (is_over counters.write)
over_with Cid reuses number counters over =
    ap (λ t. is_over counters.sid || t || is_over counters.subscription || is_over counters.write) (over_one number over) ∙ second (is_over counters.sid) (is_over counters.subscription) (is_over counters.write)
over_with Sub reuses number counters over =
    ap (λ t. is_over counters.sid || is_over counters.cid || t || is_over counters.write) (over_one number over) ∙ third (is_over counters.sid) (is_over counters.cid) (is_over counters.write)
over_with Write reuses number counters over =
    ap (λ t. is_over counters.sid || is_over counters.cid || is_over counters.subscription || t) (over_one number over) ∙ fourth (is_over counters.sid) (is_over counters.cid) (is_over counters.subscription)
