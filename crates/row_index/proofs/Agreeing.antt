-- Places that agree with slots, after each change.
use Rattle.std.proofs.Common.{◌≡◌, ℕ, true, false, ◌+◌, ◌*◌, ◌/◌, max, ◌<◌, ◌≤◌, List, [], ◌∷◌, ◌++◌, length, get_or, set, take, cond, Some, None, refl, sym, ap, subst, ◌∙◌, arith, length-append, length-set}
use Rattle.std.proofs.lemmas.List.{take_more, length-take-le, set-get_or}
use Rattle.std.specs.List.{find}
use Rattle.std.specs.Map.{lookup}
use Rattle.row_index.specs.declared.key.Key.{Key}
use Rattle.row_index.specs.declared.slot.Slot.{Slot}
use Rattle.row_index.specs.declared.slot.Slot.TheVariants.{Empty, Full}
use Rattle.row_index.specs.Rows.{same_key, has_key, lacks_key, row_of, with_row, value_at, put_at, HasKeysApart}
use Rattle.row_index.specs.Slots.{slot_has_key, with_value, filled, place_of, Agrees, IsBounded}
use Rattle.row_index.proofs.Keys.{unmapped, apart_with_more, apart_with_fewer, apart_with_put}
use Rattle.row_index.proofs.Slotted.{found_nowhere, nowhere_found, filled_put, filled_out, fewer_out, places_out, place_past, place_more_empty, places_more, filled_more, filled_more_empty, new_there}

length_put : {V : Type 0} (key : Key) (entries : List (Key × V)) (value : V) → length (put_at key entries value) ≡ length entries
length_put key [] value = refl
length_put key (entry ∷ later) value =
    let rest = length_put key later value in
    elim (has_key key entry) as (λ t. length (cond t (with_row value entry ∷ later) (entry ∷ put_at key later value)) ≡ length (entry ∷ later))
    [ true ↦ refl | false ↦ omega arith ]

has_same : {V : Type 0} (key : Key) (slot : Slot V) (w : V) → slot_has_key key slot ≡ slot_has_key key (with_value slot w)
has_same key Empty w = refl
has_same key (Full k v) w = refl

module _ {V : Type 0} (key : Key) (slots : List (Slot V)) (places : List (Key × ℕ)) (agrees : Agrees slots places) where
  -- the place that is found is one of the slots, and has the row
  pub place_is : (i : ℕ) → Some i ≡ lookup (same_key key) places → place_of key slots ≡ Some i
  place_is i at = sym (agrees.found key) ∙ sym at

  -- with no place found there is no row
  pub none_is : None ≡ lookup (same_key key) places → None ≡ value_at key (filled slots)
  none_is at = rw (found_nowhere key slots (sym (agrees.found key) ∙ sym at)) refl

  -- with no row no place is found
  pub none_found : value_at key (filled slots) ≡ None → lookup (same_key key) places ≡ None
  none_found none = agrees.found key ∙ nowhere_found key slots (unmapped row_of (find (has_key key) (filled slots)) none)

  pub agrees_put : (i : ℕ) (d : Slot V) (w : V) → place_of key slots ≡ Some i → Agrees (set slots i (with_value (get_or slots i d) w)) places
  agrees_put i d w at = record {
    found = λ q. agrees.found q ∙ sym (place_past q slots i d (with_value (get_or slots i d) w) (has_same q (get_or slots i d) w));
    count = agrees.count ∙ sym (ap length (filled_put key slots i d w at) ∙ length_put key (filled slots) w);
    apart = rw (filled_put key slots i d w at) (apart_with_put key (filled slots) w agrees.apart);
  }

  pub agrees_out : (i : ℕ) (new : List (Key × ℕ)) → place_of key slots ≡ Some i → ((q : Key) → lookup (same_key q) new ≡ cond (same_key key q) None (lookup (same_key q) places)) → length new + 1 ≡ length places → Agrees (set slots i Empty) new
  agrees_out i new at updates fewer = record {
    found = λ q. updates q ∙ ap (cond (same_key key q) None) (agrees.found q) ∙ sym (places_out key q slots i at agrees.apart);
    count = let less = fewer_out key slots i at in let same = agrees.count in omega arith;
    apart = rw (filled_out key slots i at agrees.apart) (apart_with_fewer (lacks_key key) (filled slots) agrees.apart);
  }

  pub agrees_more : (value : V) (new : List (Key × ℕ)) → value_at key (filled slots) ≡ None → ((q : Key) → lookup (same_key q) new ≡ cond (same_key key q) (Some (length slots)) (lookup (same_key q) places)) → length new ≡ length places + 1 → Agrees (slots ++ Full key value ∷ []) new
  agrees_more value new fresh updates more = record {
    found = λ q. updates q ∙ ap (cond (same_key key q) (Some (length slots))) (agrees.found q) ∙ sym (places_more key q value slots fresh);
    count = let row : length (filled (slots ++ Full key value ∷ [])) ≡ length (filled slots) + 1 = ap length (filled_more slots key value) ∙ length-append (filled slots) ((key, value) ∷ []) in let same = agrees.count in omega arith;
    apart = rw (filled_more slots key value) (apart_with_more (filled slots) key value fresh agrees.apart);
  }

pub agrees_empty : {V : Type 0} (slots : List (Slot V)) (places : List (Key × ℕ)) (agrees : Agrees slots places) → Agrees (slots ++ Empty ∷ []) places
agrees_empty slots places agrees = record {
  found = λ q. agrees.found q ∙ sym (place_more_empty q slots);
  count = agrees.count ∙ ap length (sym (filled_more_empty slots));
  apart = rw (filled_more_empty slots) agrees.apart;
}

module _ {V : Type 0} (slots : List (Slot V)) (i : ℕ) (d : Slot V) (places : List (Key × ℕ)) where
  -- one more slot with a row
  pub agrees_next : (key : Key) (value : V) (new : List (Key × ℕ)) → i < length slots → get_or slots i d ≡ Full key value → HasKeysApart (filled slots) → Agrees (take i slots) places → ((q : Key) → lookup (same_key q) new ≡ cond (same_key key q) (Some i) (lookup (same_key q) places)) → length new ≡ length places + 1 → Agrees (take (i + 1) slots) new
  agrees_next key value new within here apart agrees updates more =
      let long : length (take i slots) ≡ i = length-take-le i slots (omega arith) in
      rw (take_more slots i d within, here) (agrees_more key (take i slots) places agrees value new (new_there slots i d key value within here apart) (λ q. updates q ∙ ap (λ n. cond (same_key key q) (Some n) (lookup (same_key q) places)) (sym long)) more)

  -- one more that is empty
  pub agrees_past : i < length slots → get_or slots i d ≡ Empty → Agrees (take i slots) places → Agrees (take (i + 1) slots) places
  agrees_past within here agrees = rw (take_more slots i d within, here) (agrees_empty (take i slots) places agrees)

-- a slot that is written as it was
pub bounded_same : {V : Type 0} (slots : List (Slot V)) (places : List (Key × ℕ)) (spots : ℕ) (i : ℕ) (slot : Slot V) → slot ≡ get_or slots i slot → IsBounded slots places spots → IsBounded (set slots i slot) places spots
bounded_same slots places spots i slot here bounded =
    subst (λ s. IsBounded s places spots) (sym (ap (set slots i) here ∙ set-get_or slots i slot)) bounded

module _ {V : Type 0} (key : Key) (slots : List (Slot V)) (places : List (Key × ℕ)) (spots : ℕ) (bounded : IsBounded slots places spots) where
  -- with another value there are as many slots and rows
  pub bounded_put : (i : ℕ) (d : Slot V) (w : V) → place_of key slots ≡ Some i → IsBounded (set slots i (with_value (get_or slots i d) w)) places spots
  bounded_put i d w at =
      let put = agrees_put key slots places bounded.agrees i d w at in
      let long = length-set slots i (with_value (get_or slots i d) w) in
      let was = bounded.agrees.count in
      let is = put.count in
      let few = bounded.few in
      let spare = bounded.spare in
      record { agrees = put; few = omega arith; spare = omega arith }

  -- one slot more is one row more
  pub bounded_more : (value : V) (new : List (Key × ℕ)) (more_spots : ℕ) → value_at key (filled slots) ≡ None → ((q : Key) → lookup (same_key q) new ≡ cond (same_key key q) (Some (length slots)) (lookup (same_key q) places)) → length new ≡ length places + 1 → more_spots ≤ max spots (4 * length (slots ++ Full key value ∷ []) + 16) → IsBounded (slots ++ Full key value ∷ []) new more_spots
  bounded_more value new more_spots fresh updates more room =
      let agrees = agrees_more key slots places bounded.agrees value new fresh updates more in
      let long = length-append slots (Full key value ∷ []) in
      let was = bounded.agrees.count in
      let is = agrees.count in
      let few = bounded.few in
      let spare = bounded.spare in
      record { agrees = agrees; few = omega arith; spare = omega (arith, room) }

module _ {V : Type 0} (slots : List (Slot V)) (places : List (Key × ℕ)) (spots : ℕ) (agrees : Agrees slots places) (spare : spots ≤ 4 * length slots + 16) where
  -- no more than half of the slots are empty
  pub bounded_half : (n : ℕ) → n ≡ length slots → n / 2 ≤ length places → IsBounded slots places spots
  bounded_half n long half = let rows = agrees.count in record { agrees = agrees; few = omega arith; spare = spare }

  -- no slot is empty
  pub bounded_tight : length slots ≡ length (filled slots) → IsBounded slots places spots
  bounded_tight tight = record { agrees = agrees; few = omega arith; spare = spare }
